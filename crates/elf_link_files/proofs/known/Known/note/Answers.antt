use Rattle.elf_link_files.specs.Files.{symbol_in, IsStrong, IsWeak}
use Rattle.elf_link_files.proofs.KnownBefore.{best_next}
use Rattle.elf_link_files.proofs.known.Known.note.Goals as goal

pub returns-clause-known : goal.returns-clause-known
returns-clause-known c =
    let s = c.args.symbol.now in
    let fs = s.inputs.now in
    let name = (symbol_in fs s.id.file s.id.index).name in
    record {
      strong = best_next fs
          (IsStrong fs name) s.id.file s.id.index c.args.self.now.strong _ c.is_definition-strong.result s.there.0 s.there.1
          c.is_definition-strong.ensures c.note_first.ensures c.requires.strong;
      weak = best_next fs (IsWeak fs name) s.id.file s.id.index c.args.self.now.weak _ c.is_definition-weak.result s.there.0 s.there.1
          c.is_definition-weak.ensures c.note_first-2.ensures c.requires.weak;
      common = c.note_common.ensures;
      not_weak = c.note_not_weak.ensures;
    }
