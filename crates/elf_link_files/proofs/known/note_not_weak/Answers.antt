use Rattle.std.proofs.Common.{refl}
use Rattle.elf_link_files.specs.Files.{symbol_in, IsNotWeak}
use Rattle.elf_link_files.proofs.KnownBefore.{found_here}
use Rattle.elf_link_files.proofs.known.note_not_weak.Goals as goal

pub returns-then-is_not_weak : goal.returns-then-is_not_weak
returns-then-is_not_weak c =
    let s = c.args.symbol.now in
    let fs = s.inputs.now in
    let name = (symbol_in fs s.id.file s.id.index).name in
    found_here fs (IsNotWeak fs name) s.id.file s.id.index s.there.0 s.there.1 (c.if-is_not_weak.ensures.0 refl)
