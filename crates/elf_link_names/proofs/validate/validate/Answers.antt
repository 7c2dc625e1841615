-- Each test answers of the files that the inputs and the table have, which are the objects: so the first fault of the parts in their
-- order is that of the whole list, and where there is none each name is bound.
use Rattle.std.proofs.Common.{List, Some, inr, subst, ◌∙◌}
use Rattle.std.proofs.lemmas.Result.{err_from_is_err_and}
use Rattle.std.specs.Prelude.{None}
use Rattle.elf_object_type.specs.Object.{ObjectValue}
use Rattle.elf_link_files.specs.Rows.{FirstAt}
use Rattle.elf_link_files.specs.FileRules.{link_section_rules, link_symbol_rules, option_rules}
use Rattle.elf_link_files.specs.declared.fault.Options.{Options}
use Rattle.elf_link_names.specs.Binds.{input_rules, link_name_rules}
use Rattle.elf_link_names.proofs.Binds.{all_bound}
use Rattle.elf_link_names.proofs.validate.validate.Goals as goal

-- none of the rules is broken, where none of each part is
all_clean : (opt : Options) (fs : List ObjectValue) → FirstAt (option_rules opt fs) None → FirstAt (link_section_rules fs) None →
    FirstAt (link_symbol_rules fs) None → FirstAt (link_name_rules fs) None → FirstAt (input_rules opt fs) None
all_clean opt fs options sections symbols names =
    (options.0, (options.1.0, (sections.0, (sections.1.0, (sections.1.1.0, (symbols.0, (symbols.1.0, names)))))))

pub returns-in_err-validate_names-clause-err : goal.returns-in_err-validate_names-clause-err
returns-in_err-validate_names-clause-err c =
    let broken = c.in_err-validate_names.field-0.0 in
    let p = err_from_is_err_and c.from_residual-in_err-validate_names.result c.from_residual-in_err-validate_names.ensures.1 in
    let named = subst (λ (fs : List ObjectValue). FirstAt (link_name_rules fs) (Some (broken.rule, broken.at)))
    (c.in_ok-table.ensures ∙ c.in_ok-inputs.ensures.inputs)
    c.in_err-validate_names.ensures in
    let options = c.in_ok-inputs.ensures.options in
    let sections = c.in_ok-inputs.ensures.sections in
    let symbols = c.in_ok-inputs.ensures.symbols in
    rw (p.1, p.2)
    (inr (
      options.0,
      inr (options.1.0, inr (sections.0, inr (sections.1.0, inr (sections.1.1.0, inr (symbols.0, inr (symbols.1.0, named)))))),
    ))

pub returns-clause-sound : goal.returns-clause-sound
returns-clause-sound c =
    let inputs = c.in_ok-inputs.ensures in
    let named = rw (c.in_ok-table.ensures ∙ inputs.inputs) at c.in_ok-validate_names.ensures in
    all_clean c.args.options.now c.args.objects.now inputs.options inputs.sections inputs.symbols named

pub new-requires-2-clause-bound : goal.new-requires-2-clause-bound
new-requires-2-clause-bound c =
    let inputs = c.in_ok-inputs.ensures in
    let named = rw (c.in_ok-table.ensures ∙ inputs.inputs) at c.in_ok-validate_names.ensures in
    let opt = c.args.options.now in
    let fs = c.args.objects.now in
    rw (c.in_ok-table.ensures ∙ inputs.inputs) (all_bound opt fs (all_clean opt fs inputs.options inputs.sections inputs.symbols named))
