use Rattle.elf_table_symbols.specs.Sections.{sections_of}
use Rattle.elf_table_all.proofs.TableLinks.{sound_rules, dynamic_link}
use Rattle.elf_table_all.proofs.tables.Tables.dynamic_strings.Goals as goal

pub content-requires : goal.content-requires
content-requires c =
    rw c.section.ensures.value (dynamic_link (sections_of c.self.inside.image.now) c.args.i
    (sound_rules _ c.args.i _ c.self.invariant.verdicts (rw (← c.self.view_is) at c.requires)))
