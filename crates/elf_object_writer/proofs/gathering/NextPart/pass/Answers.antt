use Rattle.elf_object_writer.specs.PlacedObject.{plain_section}
use Rattle.elf_object_writer.specs.declared.placed_object.PlacedSection.TheVariants.{Names}
use Rattle.elf_object_writer.proofs.Going.{joined, joined_long, passed, passed_cut, waiting_cut}
use Rattle.elf_object_writer.proofs.gathering.NextPart.pass.Goals as goal

pub returns-in-Some-clause-few : goal.returns-in-Some-clause-few
returns-in-Some-clause-few g c =
    let d = plain_section c.args.self.now.placed.now.object Names in
    joined_long c.args.waiting.now.items c.gather.new.waiting.items _ c.args.self.now.out c.in-Some.end
    (c.in-Some.ensures.gathered d) c.requires

pub returns-in-Some-clause-ok : goal.returns-in-Some-clause-ok
returns-in-Some-clause-ok g c d =
    joined _ c.args.waiting.now.items c.gather.new.waiting.items _ c.args.self.now.out c.in-Some.end (c.in-Some.ensures.gathered d)

pub returns-in-Err-clause-err : goal.returns-in-Err-clause-err
returns-in-Err-clause-err g c d =
    waiting_cut _ _ c.args.waiting.now.items _ _ c.in-Err.fault (rw c.in_default.ensures.kept at c.in-Err.ensures.err)

pub returns-in-Ok-write-clause-ok : goal.returns-in-Ok-write-clause-ok
returns-in-Ok-write-clause-ok g c d =
    rw c.in-Ok.ensures.none
    (passed _ _ _ c.args.waiting.now.items _ c.args.self.now.out c.in-Ok-write.end (rw c.in_default.ensures.kept at c.in-Ok.ensures.ok)
    (c.in-Ok-write.ensures d))

pub returns-in-Err-write-clause-err : goal.returns-in-Err-write-clause-err
returns-in-Err-write-clause-err g c d =
    passed_cut _ _ _ c.args.waiting.now.items _ c.args.self.now.out c.in-Err-write.fault c.requires
    (rw c.in_default.ensures.kept at c.in-Ok.ensures.ok)
    (c.in-Err-write.ensures d)
