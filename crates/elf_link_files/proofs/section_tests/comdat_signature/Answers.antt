use Rattle.std.proofs.Common.{◌≡◌, ◌<◌, ℕ, true, ap, sym, subst, ◌∙◌, length}
use Rattle.elf_object_type.specs.Object.{SectionValue}
use Rattle.elf_link_files.specs.Files.{is_comdat, signature_position, object_at, section_in}
use Rattle.elf_link_files.proofs.MarkedFiles.{signature_there}
use Rattle.elf_link_files.proofs.section_tests.comdat_signature.Goals as goal

pub symbol_of-requires : goal.symbol_of-requires
symbol_of-requires c =
    let fs = c.args.objects.now in
    let o = object_at fs c.args.id.file in
    let body = ap (λ (s : SectionValue). s.body) c.section_of-section.ensures in
    let comdat : is_comdat (section_in fs c.args.id.file c.args.id.index).body ≡ true =
    ap is_comdat (sym body) ∙ (sym c.is_comdat.ensures ∙ c.if-not-is_comdat.false) in (
      c.requires.0,
      subst (λ (n : ℕ). n < length o.symbols) (sym (c.signature_position.ensures ∙ ap signature_position body))
          (signature_there o c.args.id.index c.prove_rules.ensures c.requires.1 comdat),
    )
