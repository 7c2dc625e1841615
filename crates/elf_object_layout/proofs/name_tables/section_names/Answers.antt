use Rattle.std.proofs.Common.{sym}
use Rattle.elf_object_layout.proofs.PlainSections.{section_names_pushed}
use Rattle.elf_object_layout.proofs.name_tables.section_names.Goals as goal

pub returns : goal.returns
returns c =
    section_names_pushed c.args.object.now c.sections.result.now c.in_ok-names.names.items _ _ c.sections.ensures c.in_ok-names.ensures
    (sym c.has_index_table.ensures)
    c.in_ok-push_last_names.ensures
