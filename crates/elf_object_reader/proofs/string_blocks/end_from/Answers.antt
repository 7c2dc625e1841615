use Rattle.elf_object_reader.proofs.DenotedSymbols.{end_kept}
use Rattle.elf_object_reader.proofs.string_blocks.end_from.Goals as goal

pub returns-then-offset-end : goal.returns-then-offset-end
returns-then-offset-end c =
    let (start, low, is) = c.requires.before c.if-offset-end.true in
    end_kept c.args.table.now start c.args.offset c.args.end is low c.if-offset-end.true
