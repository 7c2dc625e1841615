-- One pass of the loop gives one more name the end of its owner, which is so far as it was.
use Rattle.std.proofs.Common.{◌≡◌, ◌∷◌, ◌++◌, ◌∙◌, List, ℕ, [], ap, ap₂, arith, get_or, map, subst, sym, take_all}
use Rattle.std.proofs.lemmas.List.{get_or-set_other, get_or_default, length-set, map_more, take_more, take_more_set}
use Rattle.elf_object_strings.proofs.table.share_ends.Goals.{then-owner-i, else-owner-i}
use Rattle.elf_object_strings.proofs.table.share_ends.Goals as goal

pub loop-i-preserved : goal.loop-i-preserved
loop-i-preserved c =
    let owners = c.args.owners.now in
    let old = c.args.ends.items in
    let ends = c.loop-i.ends.items in
    let i = c.loop-i.i in
    let owner = get_or owners i 0 in
    let so_far = c.loop-i.invariant in
    let is_owner = c.requires.own i c.loop-i-test.true in
    let as_many = so_far.all in
    let its : get_or ends owner 0 ≡ get_or old owner 0 = so_far.own owner is_owner.0 is_owner.1 in
    let more = sym (map_more (λ (o : ℕ). get_or old o 0) owners i 0 c.loop-i-test.true) in
    elim c.if-owner-i.branch [
      | then-owner-i w ↦ (
          let end = w.index.result.now in
          let is : end ≡ get_or old owner 0 = w.index.ensures ∙ get_or_default ends owner end 0 (omega arith) ∙ its in
          rw w.ends-is (record {
            all = length-set ends i end ∙ as_many;
            done = take_more_set ends i end (omega arith) ∙ ap₂ (λ (xs : List ℕ) (x : ℕ). xs ++ (x ∷ [])) so_far.done is ∙ more;
            own = λ o lt own.
                (let other : o ≡ i → ⊥ = λ same. w.if-owner-i.true (subst (λ (k : ℕ). get_or owners k 0 ≡ k) same own) in
                get_or-set_other ends i o end 0 other ∙ so_far.own o lt own);
          }))
      | else-owner-i w ↦ (
          let here : get_or ends i 0 ≡ get_or old owner 0 = ap (λ (k : ℕ). get_or ends k 0) (sym w.if-owner-i.false) ∙ its in
          rw w.ends-is (record {
            all = as_many;
            done = take_more ends i 0 (omega arith) ∙ ap₂ (λ (xs : List ℕ) (x : ℕ). xs ++ (x ∷ [])) so_far.done here ∙ more;
            own = so_far.own;
          }))
    ]

pub returns : goal.returns
returns c =
    let as_many = c.loop-i.invariant.all in
    sym (take_all c.loop-i.i c.loop-i.ends.items (omega arith)) ∙ c.loop-i.invariant.done
    ∙ ap (map (λ (o : ℕ). get_or c.args.ends.items o 0)) (take_all c.loop-i.i c.args.owners.now c.loop-i-test.false)
