use Rattle.std.proofs.Common.{refl}
use Rattle.elf_table_hash.proofs.HashSound.{length_names, name_get}
use Rattle.elf_table_hash.proofs.hash_parts.HashParts.name_offset.Goals as goal

pub entry-requires : goal.entry-requires
entry-requires c = rw (c.args.self.now.named, length_names _ _ _) at c.requires

pub returns : goal.returns
returns c =
    let below = rw (c.args.self.now.named, length_names _ _ _) at c.requires in
    rw (c.args.self.now.named, name_get _ _ _ c.args.s below, c.entry.ensures) refl
