-- Output by output: one that takes memory adds a segment, and any other none. The commons come last.
use Rattle.std.proofs.Common.{◌≡◌, ◌+◌, ◌∙◌, ℕ, List, map, length, ap, arith}
use Rattle.std.specs.List.{filter, range_with_len}
use Rattle.std.proofs.lemmas.List.{length-map}
use Rattle.elf_link_outputs.specs.Placed.{output_value, OutputValue}
use Rattle.elf_link_relocate.specs.Loads.{has_memory, load_at, loads}
use Rattle.elf_link_relocate.proofs.LoadSegments.{load_kept, load_passed}
use Rattle.elf_link_relocate.proofs.load.loads.Goals.{then-load-gt0+in_ok-push, else-load-gt0}
use Rattle.elf_link_relocate.proofs.load.loads.Goals as goal

pub loop-position-preserved : goal.loop-position-preserved
loop-position-preserved c =
    let m = c.args.map.now in
    let n = c.loop-position.position in
    elim c.if-load-gt0.branch [
      | then-load-gt0+in_ok-push w ↦
          rw w.all-is (load_kept m n _ _ c.load_at-load.result c.loop-position.invariant c.load_at-load.ensures w.if-load-gt0.true
          w.in_ok-push.ensures.items)
      | else-load-gt0 w ↦
          rw w.all-is (load_passed m n _ c.load_at-load.result c.loop-position.invariant c.load_at-load.ensures w.if-load-gt0.false)
    ]

pub returns : goal.returns
unfolding loads
returns c =
    let m = c.args.map.now in
    let outputs = ap (λ (os : List OutputValue). length os) c.outputs.ensures in
    let many = length-map c.outputs.result.now output_value in
    let past = c.loop-position-test.false in
    let within = c.loop-position.auto.position-end in
    let all : c.loop-position.position ≡ length m.outputs + 1 = omega arith in
    c.loop-position.invariant ∙ ap (λ (n : ℕ). filter has_memory (map (load_at m) (range_with_len 0 n))) all
