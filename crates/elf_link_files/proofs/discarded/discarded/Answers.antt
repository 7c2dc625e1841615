use Rattle.std.proofs.Common.{Bool, map}
use Rattle.std.specs.Global.{Vec}
use Rattle.elf_link_files.proofs.RepeatedSignatures.{discarded_marks}
use Rattle.elf_link_files.proofs.discarded.discarded.Goals as goal

pub returns : goal.returns
returns c =
    discarded_marks c.args.objects.now c.in_ok-groups.groups.items (map (λ (row : Vec Bool). row.items) c.mark_repeated.new.marks.items)
    c.in_ok-groups.ensures (rw c.deref-2.ensures.value at c.mark_repeated.ensures)
