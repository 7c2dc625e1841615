use Rattle.std.proofs.Common.{None, Some, ap, ◌∙◌}
use Rattle.elf_image_rules.specs.Rules.{extents_of_file}
use Rattle.elf_image_rules.proofs.Public.{fault_of_extents}
use Rattle.elf_c_parts.proofs.room.verdict_in.Goals as goal

pub returns-in-Some-clause-fault : goal.returns-in-Some-clause-fault
returns-in-Some-clause-fault c =
    fault_of_extents c.args.bytes.now (Some c.in-Some.at) c.in-Ok.ensures.kept
    (rw (c.new-extents.ensures ∙ ap extents_of_file c.in-Ok.ensures.file) at c.in-Some.ensures)

pub returns-in-None-clause-fault : goal.returns-in-None-clause-fault
returns-in-None-clause-fault c =
    fault_of_extents c.args.bytes.now None c.in-Ok.ensures.kept
    (rw (c.new-extents.ensures ∙ ap extents_of_file c.in-Ok.ensures.file) at c.in-None.ensures)
