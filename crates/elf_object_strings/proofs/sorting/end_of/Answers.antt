use Rattle.std.proofs.Common.{◌∙◌}
use Rattle.elf_object_strings.proofs.Numbering.{padded_end}
use Rattle.elf_object_strings.proofs.sorting.end_of.Goals as goal

pub returns-clause-value : goal.returns-clause-value
returns-clause-value c =
    c.from_le_bytes.ensures
    ∙ padded_end c.args.name.now c.copy_from_slice.new.self c.min-count.result c.min.result c.min-count.ensures c.min.ensures
    c.copy_from_slice.ensures.after
