use Rattle.std.proofs.Common.{refl}
use Rattle.elf_link_files.specs.Files.{symbol_in}
use Rattle.elf_link_files.specs.KnownBefore.{marked_known}
use Rattle.elf_link_names.specs.KnownNames.{known_at}
use Rattle.elf_link_files.proofs.Public.{known_reference}
use Rattle.elf_link_names.proofs.known_names.note_again.Goals as goal

pub returns-then-is_reference : goal.returns-then-is_reference
returns-then-is_reference c =
    let s = c.args.symbol.now in
    let fs = s.inputs.now in
    let name = (symbol_in fs s.id.file s.id.index).name in
    let known = known_at c.args.names.now c.args.k in
    record {
      known = marked_known known;
      set = c.mark.ensures;
      first = refl;
      noted = known_reference fs name s.id.file s.id.index known s.there.0 s.there.1 (c.is_reference.ensures.common c.if-is_reference.true)
          (c.is_reference.ensures.strong c.if-is_reference.true) (c.is_reference.ensures.not_weak c.if-is_reference.true) c.requires.before;
    }
