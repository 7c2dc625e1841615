use Rattle.std.proofs.Common.{inl, inr, ap, sym, subst}
use Rattle.elf_image_rules.specs.Rows.{Broken}
use Rattle.elf_link_files.specs.declared.site.Site.{Site}
use Rattle.elf_link_files.specs.Rows.{IsFirstAt}
use Rattle.elf_link_names.specs.Binds.{undefined_name}
use Rattle.elf_link_names.proofs.name_table.NameTable.validate_names.Goals as goal

pub returns-in-Some-first_name : goal.returns-in-Some-first_name
returns-in-Some-first_name c =
    let broken = c.new-in-Some-first_name.ensures in
    inr (
      c.in_default.ensures,
      inl (
        ap (λ (b : Broken Site). b.rule) broken,
        subst (IsFirstAt (undefined_name c.args.self.now)) (sym (ap (λ (b : Broken Site). b.at) broken)) c.in-Some-first_name.ensures,
      ),
    )
