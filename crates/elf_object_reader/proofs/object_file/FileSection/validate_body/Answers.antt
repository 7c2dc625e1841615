use Rattle.std.proofs.Common.{inl, inr, sym, ◌∙◌}
use Rattle.elf_object_reader.proofs.KeptTypes.{group_found, relocs_found}
use Rattle.elf_object_reader.proofs.object_file.FileSection.validate_body.Goals as goal

pub returns-in-Relocs : goal.returns-in-Relocs
returns-in-Relocs c =
    elim c.in-Relocs.is [
      | inl is ↦ relocs_found c.args.self.now _ (sym c.of.ensures ∙ is) c.verdict.ensures.fault
      | inr is ↦ group_found c.args.self.now _ (sym c.of.ensures ∙ is) c.verdict.ensures.fault
    ]
