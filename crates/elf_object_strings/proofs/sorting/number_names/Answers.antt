use Rattle.std.proofs.Common.{◌≡◌, ℕ, [], length, arith, subst}
use Rattle.std.proofs.lemmas.List.{get_or-map, length-map}
use Rattle.elf_object_strings.specs.StringTable.{texts}
use Rattle.elf_object_strings.proofs.Numbering.{AreNumberedTo, numbered_all, numbered_more}
use Rattle.elf_object_strings.proofs.sorting.number_names.Goals as goal

pub returns-clause-numbered : goal.returns-clause-numbered
returns-clause-numbered c =
    let all : c.loop-index.index ≡ length (texts c.args.names.now) =
    omega (arith, length-map c.args.names.now (λ name. name.now)) in
    numbered_all _ _ (subst (λ (i : ℕ). AreNumberedTo (texts c.args.names.now) i c.loop-index.numbered.items) all c.loop-index.invariant)

pub loop-index-preserved : goal.loop-index-preserved
loop-index-preserved c =
    let names = c.args.names.now in
    let i = c.loop-index.index in
    let name = get_or-map (λ name. name.now) names i (record { ref_ptr = (0, 0); now = [] }) [] c.loop-index-test.true in
    rw c.in_ok-push.ensures.items
    (numbered_more (texts names) i c.loop-index.numbered.items _ c.new.ensures.index
    (c.new.ensures.end (texts names) name) c.loop-index.invariant)

pub returns-clause-ends : goal.returns-clause-ends
returns-clause-ends c = c.loop-index.invariant.ends
