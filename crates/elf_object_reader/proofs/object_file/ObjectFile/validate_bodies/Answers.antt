use Rattle.std.proofs.Common.{arith}
use Rattle.elf_image_rules.proofs.Public.{FirstIn-handed}
use Rattle.elf_object_reader.specs.FileRules.{sections_of_file}
use Rattle.elf_object_reader.proofs.FileRules.{bodies_fault, bodies_next, bodies_passed}
use Rattle.elf_object_reader.proofs.object_file.ObjectFile.validate_bodies.Goals.{then-is_kept+in_ok-validate_body, else-is_kept}
use Rattle.elf_object_reader.proofs.object_file.ObjectFile.validate_bodies.Goals as goal

pub returns-in_err-validate_body : goal.returns-in_err-validate_body
returns-in_err-validate_body c =
    let f = sections_of_file c.args.self.now in
    let here = rw c.is_kept.ensures.value at c.if-is_kept.true in
    FirstIn-handed _ _ _ (bodies_fault c.args.self.now.left f c.loop-i.i _ (omega arith) here c.loop-i.invariant
    (rw (c.section.ensures.file, c.section.ensures.index) at c.in_err-validate_body.ensures)) c.from_residual.ensures.1

pub loop-i-preserved : goal.loop-i-preserved
loop-i-preserved c =
    let f = sections_of_file c.args.self.now in
    elim c.if-is_kept.branch [
      | then-is_kept+in_ok-validate_body w ↦
          bodies_next c.args.self.now.left f c.loop-i.i (omega arith) (rw c.is_kept.ensures.value at w.if-is_kept.true) c.loop-i.invariant
          (rw (w.section.ensures.file, w.section.ensures.index) at w.in_ok-validate_body.ensures)
      | else-is_kept w ↦
          bodies_passed c.args.self.now.left f c.loop-i.i (omega arith)
          (rw c.is_kept.ensures.value at w.if-is_kept.false) c.loop-i.invariant
    ]
