use Rattle.elf_table_hash.proofs.HashSound.{length_names, name_get}
use Rattle.elf_table_hash.proofs.hash_words.SymbolNames.is_named.Goals as goal

pub entry-symbol-requires : goal.entry-symbol-requires
entry-symbol-requires c =
    let within = rw (← c.self.view_is) at c.requires in
    rw (length_names c.self.inside.order c.self.inside.table.now c.self.inside.names.now) at within

pub returns : goal.returns
returns c =
    let within = rw (← c.self.view_is) at c.requires in
    let below = rw (length_names c.self.inside.order c.self.inside.table.now c.self.inside.names.now) at within in
    rw (← c.self.view_is) (rw (name_get _ _ _ c.args.s below) (rw c.entry-symbol.ensures at c.is_string_at.ensures))
