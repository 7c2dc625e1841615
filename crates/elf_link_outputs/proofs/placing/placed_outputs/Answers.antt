-- Output by output: `start` is the count of all members of the outputs before this one, so its parts lie among those of all outputs.
use Rattle.std.proofs.Common.{◌≡◌, ℕ, ◌+◌, ◌^◌, ◌<◌, ◌≤◌, List, length, map, sym, ◌∙◌, subst, arith, rules}
use Rattle.std.proofs.lemmas.List.{length-map, map-append}
use Rattle.elf_link_files.specs.declared.site.Site.{Site}
use Rattle.elf_link_files.specs.Rows.{AreIn}
use Rattle.elf_link_files.proofs.Public.{each_more}
use Rattle.elf_link_outputs.specs.Placed.{IsOutput, members_at, no_output, start_of, output_value}
use Rattle.elf_link_outputs.specs.Outputs.{flat}
use Rattle.elf_link_outputs.proofs.Placings.{item_is, start_more, within_all}
use Rattle.elf_link_outputs.proofs.placing.placed_outputs.Goals as goal

pub placed_output-requires-clause-some : goal.placed_output-requires-clause-some
placed_output-requires-clause-some c =
    let i = c.loop-members.members-index in
    let at = item_is c.args.outputs.now i c.members-item.result c.loop-members-test.true c.members-item.is ∙ sym c.deref.ensures.value in
    let many = length-map c.args.outputs.now (λ ms. ms.items) in
    subst (λ (ms : List Site). 0 < length ms) at (c.requires.some i (omega arith))

pub placed_output-requires-clause-within : goal.placed_output-requires-clause-within
placed_output-requires-clause-within c =
    let i = c.loop-members.members-index in
    let at = item_is c.args.outputs.now i c.members-item.result c.loop-members-test.true c.members-item.is ∙ sym c.deref.ensures.value in
    let many = length-map c.args.outputs.now (λ ms. ms.items) in
    subst (AreIn c.args.objects.now) at (c.requires.within i (omega arith))

pub placed_output-requires-clause-parts : goal.placed_output-requires-clause-parts
placed_output-requires-clause-parts c =
    let i = c.loop-members.members-index in
    let oss = map (λ ms. ms.items) c.args.outputs.now in
    let at = item_is c.args.outputs.now i c.members-item.result c.loop-members-test.true c.members-item.is ∙ sym c.deref.ensures.value in
    let many = length-map c.args.outputs.now (λ ms. ms.items) in
    let i_in : i < length oss = omega arith in
    let all = subst (λ (ms : List Site). start_of oss i + length ms ≤ length (flat oss)) at (within_all oss i i_in) in
    let start = c.loop-members.invariant.start in
    let parts = c.requires.parts in
    omega arith

pub overflow_add-start : goal.overflow_add-start
overflow_add-start c =
    let i = c.loop-members.members-index in
    let oss = map (λ ms. ms.items) c.args.outputs.now in
    let item = item_is c.args.outputs.now i c.members-item.result c.loop-members-test.true c.members-item.is in
    let many = length-map c.args.outputs.now (λ ms. ms.items) in
    let i_in : i < length oss = omega arith in
    let all = subst (λ (ms : List Site). start_of oss i + length ms ≤ length (flat oss)) item (within_all oss i i_in) in
    let start = c.loop-members.invariant.start in
    let parts = c.requires.parts in
    let len = c.len.ensures in
    let wide : length c.args.parts.now < 2 ^ 64 = search rules in
    omega arith

pub loop-members-preserved : goal.loop-members-preserved
loop-members-preserved c =
    let fs = c.args.objects.now in
    let parts = c.args.parts.now in
    let places = c.args.places.now in
    let i = c.loop-members.members-index in
    let oss = map (λ ms. ms.items) c.args.outputs.now in
    let item = item_is c.args.outputs.now i c.members-item.result c.loop-members-test.true c.members-item.is in
    let at = item ∙ sym c.deref.ensures.value in
    let many = length-map c.args.outputs.now (λ ms. ms.items) in
    let i_in : i < length oss = omega arith in
    let start = c.loop-members.invariant.start in
    let o = output_value c.in_ok-placed_output.field-0 in
    record {
      start = (
          let more = subst (λ (ms : List Site). start_of oss (i + 1) ≡ start_of oss i + length ms) item (start_more oss i i_in) in
          let len = c.len.ensures in
          omega arith);
      placed = rw (c.in_ok-push.ensures.items, map-append)
          (each_more no_output (λ k. IsOutput fs (members_at oss k) parts places (start_of oss k)) i
          (map output_value c.loop-members.placed.items) o
          (subst (λ (ms : List Site). IsOutput fs ms parts places (start_of oss i) o) (sym at)
          (subst (λ (n : ℕ). IsOutput fs c.deref.result.now parts places n o) start c.in_ok-placed_output.ensures))
          c.loop-members.invariant.placed);
    }
