-- The ends are those of the names of sections, and of symbols, in one string table each (`useful_tails`, `useful_section_tails`).
use Rattle.std.proofs.Common.{◌≡◌, ◌≤◌, ℕ, List, ap, length, map, rules, sym, subst, ◌∙◌}
use Rattle.elf_object_layout.specs.SectionsLeftOut.{left_out, symbol_table}
use Rattle.elf_object_layout.specs.declared.left_out.LeftOut.{LeftOut}
use Rattle.elf_object_reader.specs.Denotes.{symbols_denoted}
use Rattle.elf_object_reader.specs.FileRules.{sections_of_file}
use Rattle.elf_object_reader.specs.NameEnds.{useful_section_ends, useful_symbol_ends}
use Rattle.elf_object_strings.specs.StringTable.{AreTails}
use Rattle.elf_object_type.specs.ObjectView.{section_value, symbol_value}
use Rattle.elf_object_type.specs.declared.parts.Section.{Section}
use Rattle.elf_object_type.specs.declared.parts.Symbol.{Symbol}
use Rattle.elf_object_reader.proofs.DenotedSymbols.{names_of}
use Rattle.elf_object_reader.proofs.NameTails.{section_names_of, useful_section_fits, useful_section_tails, useful_tails}
use Rattle.elf_object_reader.proofs.reading.read_parts.Goals as goal

pub returns-clause-ok : goal.returns-clause-ok
returns-clause-ok c =
    let file = c.args.file in
    let f = sections_of_file file in
    let symbols = map symbol_value c.in_ok-symbols.symbols.items in
    let sections = map section_value c.in_ok-sections.sections.items in
    let symbols_are : symbols ≡ symbols_denoted (left_out f) f (symbol_table f) =
    c.in_ok-symbols.ensures ∙ ap (λ (l : LeftOut). symbols_denoted l f l.symbol_table) file.own_left in
    let symbol_ends : c.in_ok-useful_symbol_ends.field-0.items ≡ useful_symbol_ends symbols f =
    c.in_ok-useful_symbol_ends.ensures ∙ ap (λ (ss : List Symbol). useful_symbol_ends (map symbol_value ss) f) c.deref.ensures.value in
    let section_ends : c.in_ok-useful_section_ends.field-0.items ≡ useful_section_ends sections file.left f =
    c.in_ok-useful_section_ends.ensures ∙
    ap (λ (ss : List Section). useful_section_ends (map section_value ss) file.left f) c.deref-2.ensures.value in (
      search rules,
      record {
        symbols = subst (λ (ends : List ℕ). AreTails (names_of symbols) ends) (sym symbol_ends) (useful_tails f symbols symbols_are);
        sections = subst (λ (ends : List ℕ). AreTails (section_names_of sections) ends) (sym section_ends)
            (useful_section_tails file.left f sections c.in_ok-sections.ensures);
        fits = subst (λ (ends : List ℕ). length ends ≤ length sections) (sym section_ends)
            (useful_section_fits file.left f sections c.in_ok-sections.ensures);
      },
    )
