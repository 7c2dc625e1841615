-- A sound group links to a sound symbol table, and its signature is one of its symbols.
use Rattle.std.proofs.Common.{Some}
use Rattle.elf_table_symbols.specs.declared.table_section.TableKind.TheVariants.{SymbolTable}
use Rattle.elf_table_symbols.specs.Sections.{sections_of}
use Rattle.elf_table_all.proofs.TableLinks.{sound_rules, group_link, group_signature, group_symbols, group_symbols_sound, none_kept}
use Rattle.elf_table_all.proofs.tables.Tables.signature_name.Goals as goal

pub symbols-symbols-requires : goal.symbols-symbols-requires
symbols-symbols-requires c =
    let f = sections_of c.self.inside.image.now in
    let rules = sound_rules _ c.args.i _ c.self.invariant.verdicts (rw (← c.self.view_is) at c.requires) in
    rw (← c.self.view_is) (rw c.section-section.ensures.value (record {
      there = group_link f c.args.i rules;
      typed = group_symbols f c.args.i rules;
      sound = none_kept f _ (Some SymbolTable) _ c.self.invariant.verdicts (group_link f c.args.i rules) (group_symbols f c.args.i rules)
          (group_symbols_sound f c.args.i rules);
    }))

pub entry-requires : goal.entry-requires
entry-requires c =
    let f = sections_of c.self.inside.image.now in
    let rules = sound_rules _ c.args.i _ c.self.invariant.verdicts (rw (← c.self.view_is) at c.requires) in
    let table = rw (← c.self.view_is) at c.symbols-symbols.ensures in
    rw (table, c.section-section.ensures.value) (group_signature f c.args.i rules)
