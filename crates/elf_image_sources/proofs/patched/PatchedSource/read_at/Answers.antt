use Rattle.std.proofs.Common.{inl, inr, rules}
use Rattle.elf_image_sources.proofs.Changed.{changed_elsewhere, changed_there}
use Rattle.elf_image_sources.proofs.patched.PatchedSource.read_at.Goals as goal
use Rattle.elf_image_sources.proofs.patched.PatchedSource.read_at.Goals.{else-self-at-via-then-self-at+else-self-at-2}
use Rattle.elf_image_sources.proofs.patched.PatchedSource.read_at.Goals.{else-self-at-via-else-self-at}

pub returns-then-self-at-2-clause-bytes : goal.returns-then-self-at-2-clause-bytes
returns-then-self-at-2-clause-bytes g c =
    let from = c.if-self-at.true in
    let reached = c.if-self-at-2.true in
    changed_there _ _ _ c.args.at c.in_ok-count.count _ (search rules) (search rules) c.in_ok-count.ensures.bytes

pub returns-else-self-at-clause-bytes : goal.returns-else-self-at-clause-bytes
returns-else-self-at-clause-bytes g c = elim c.else-self-at.branch [
  | else-self-at-via-then-self-at+else-self-at-2 w ↦
      changed_elsewhere _ _ _ c.args.at c.in_ok-count.count _ (inr (search rules, search rules)) c.in_ok-count.ensures.bytes
  | else-self-at-via-else-self-at w ↦
      changed_elsewhere _ _ _ c.args.at c.in_ok-count.count _ (inl (search rules)) c.in_ok-count.ensures.bytes
]
