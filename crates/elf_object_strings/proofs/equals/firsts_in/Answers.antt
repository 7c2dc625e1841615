-- At first each name has its own index. One pass of the loop gives a name the index of the one before it, if both are equal.
use Rattle.std.proofs.Common.{◌≡◌, ◌<◌, ◌≤◌, ◌+◌, ◌-◌, ◌∙◌, ℕ, List, [], ap, arith, get_or, length, sym, set, subst}
use Rattle.std.specs.List.{range_with_len}
use Rattle.std.proofs.lemmas.Bool.{true≢false}
use Rattle.std.proofs.lemmas.List.{get_or_default}
use Rattle.elf_object_strings.specs.Sorting.{AreInEndsOrder, AreNumbered, indexes_in, names_by_ends}
use Rattle.elf_object_strings.specs.declared.sorting.Numbered.{Numbered}
use Rattle.elf_object_strings.proofs.EndsOrder.{index_at, length-names_by_ends, name_at, no_name}
use Rattle.elf_object_strings.proofs.EqualNames.{HaveFirsts, firsts_all, firsts_none, firsts_other, firsts_same}
use Rattle.elf_object_strings.proofs.equals.firsts_in.Goals as goal
use Rattle.elf_object_strings.proofs.equals.firsts_in.Goals.{then-is_equal, else-is_equal}

below : (names : List (List ℕ)) (sorted : List Numbered) (q : ℕ) → AreNumbered names (names_by_ends names sorted) (indexes_in sorted) →
    q < length sorted → (get_or sorted q no_name).index < length names
below names sorted q numbered lt =
    let many = length-names_by_ends names sorted in
    subst (λ i. i < length names) (index_at sorted q lt) (numbered.below q (omega arith))

pub loop-position-init : goal.loop-position-init
loop-position-init c =
    let names = c.args.list.now in
    let sorted = c.args.sorted.now in
    let many : length sorted ≡ length names = sym (length-names_by_ends names sorted) ∙ c.requires.numbered.as_many in
    subst (λ fs. HaveFirsts names (names_by_ends names sorted) (indexes_in sorted) fs 1)
    (ap (range_with_len 0) (sym many) ∙ sym c.in_ok-firsts.ensures)
    (firsts_none names (names_by_ends names sorted) (indexes_in sorted) c.requires.numbered)

pub index-requires : goal.index-requires
index-requires c =
    let all = c.loop-position.invariant.all in
    let fits = below c.args.list.now c.args.sorted.now (c.loop-position.position - 1) c.requires.numbered
    (let lt = c.loop-position-test.true in omega arith) in
    omega arith

pub index_mut-requires : goal.index_mut-requires
index_mut-requires c =
    let all = c.loop-position.invariant.all in
    let fits = below c.args.list.now c.args.sorted.now c.loop-position.position c.requires.numbered c.loop-position-test.true in
    omega arith

-- the same with the position and the indexes as the code has them
passed_same : (names : List (List ℕ)) (sorted : List Numbered) (firsts : List ℕ) (position value : ℕ) →
    AreNumbered names (names_by_ends names sorted) (indexes_in sorted) → AreInEndsOrder (names_by_ends names sorted) (indexes_in sorted) →
    1 ≤ position → position < length sorted →
    get_or names (get_or sorted (position - 1) no_name).index [] ≡ get_or names (get_or sorted position no_name).index [] →
    value ≡ get_or firsts (get_or sorted (position - 1) no_name).index 0 →
    HaveFirsts names (names_by_ends names sorted) (indexes_in sorted) firsts position →
    HaveFirsts names (names_by_ends names sorted) (indexes_in sorted) (set firsts (get_or sorted position no_name).index value)
    (position + 1)
passed_same names sorted firsts position value numbered ordered some lt same is have =
    let all = names_by_ends names sorted in
    let indexes = indexes_in sorted in
    let many = length-names_by_ends names sorted in
    let back : position - 1 + 1 ≡ position = omega arith in
    let equal : get_or all (position - 1) [] ≡ get_or all (position - 1 + 1) [] =
    name_at names sorted (position - 1) (omega arith) ∙ same ∙ sym (name_at names sorted position lt) ∙
    ap (λ k. get_or all k []) (sym back) in
    let passed =
    firsts_same names all indexes firsts (position - 1) numbered ordered (omega arith) equal
    (subst (HaveFirsts names all indexes firsts) (sym back) have) in
    subst (HaveFirsts names all indexes (set firsts (get_or sorted position no_name).index value)) (ap (λ k. k + 1) back)
    (subst (λ fs. HaveFirsts names all indexes fs (position - 1 + 1 + 1))
    (ap (λ k. set firsts (get_or indexes k 0) (get_or firsts (get_or indexes (position - 1) 0) 0)) back
    ∙ ap (λ k. set firsts k (get_or firsts (get_or indexes (position - 1) 0) 0)) (index_at sorted position lt)
    ∙ ap (λ k. set firsts (get_or sorted position no_name).index (get_or firsts k 0)) (index_at sorted (position - 1) (omega arith))
    ∙ ap (λ v. set firsts (get_or sorted position no_name).index v) (sym is))
    passed)

passed_other : (names : List (List ℕ)) (sorted : List Numbered) (firsts : List ℕ) (position : ℕ) →
    AreNumbered names (names_by_ends names sorted) (indexes_in sorted) → AreInEndsOrder (names_by_ends names sorted) (indexes_in sorted) →
    1 ≤ position → position < length sorted →
    (get_or names (get_or sorted (position - 1) no_name).index [] ≡ get_or names (get_or sorted position no_name).index [] → ⊥) →
    HaveFirsts names (names_by_ends names sorted) (indexes_in sorted) firsts position →
    HaveFirsts names (names_by_ends names sorted) (indexes_in sorted) firsts (position + 1)
passed_other names sorted firsts position numbered ordered some lt differs have =
    let all = names_by_ends names sorted in
    let indexes = indexes_in sorted in
    let many = length-names_by_ends names sorted in
    let back : position - 1 + 1 ≡ position = omega arith in
    subst (HaveFirsts names all indexes firsts) (ap (λ k. k + 1) back)
    (firsts_other names all indexes firsts (position - 1) numbered ordered (omega arith)
    (λ same. differs
    (sym (name_at names sorted (position - 1) (omega arith)) ∙ same ∙ ap (λ k. get_or all k []) back ∙ name_at names sorted position lt))
    (subst (HaveFirsts names all indexes firsts) (sym back) have))

pub loop-position-preserved : goal.loop-position-preserved
loop-position-preserved c =
    let names = c.args.list.now in
    let sorted = c.args.sorted.now in
    let firsts = c.loop-position.firsts.items in
    let position = c.loop-position.position in
    let some = c.loop-position.auto.position in
    let lt = c.loop-position-test.true in
    elim c.if-is_equal.branch [
      | then-is_equal w ↦ (let all = c.loop-position.invariant.all in
          let fits = below names sorted (position - 1) c.requires.numbered (omega arith) in
          let value = w.index.ensures ∙
          get_or_default firsts (get_or sorted (position - 1) no_name).index w.index.result.now 0 (omega arith) in
          subst (λ fs. HaveFirsts names (names_by_ends names sorted) (indexes_in sorted) fs (position + 1))
          (sym (ap (λ v. v.items) w.firsts-is))
          (passed_same names sorted firsts position w.index.result.now c.requires.numbered c.requires.order some lt
          (c.is_equal.ensures.0 w.if-is_equal.true) value
          c.loop-position.invariant))
      | else-is_equal w ↦
          subst (λ fs. HaveFirsts names (names_by_ends names sorted) (indexes_in sorted) fs (position + 1))
          (sym (ap (λ v. v.items) w.firsts-is))
          (passed_other names sorted firsts position c.requires.numbered c.requires.order some lt
          (λ same. absurd (true≢false (sym (c.is_equal.ensures.1 same) ∙ w.if-is_equal.false))) c.loop-position.invariant)
    ]

pub returns : goal.returns
returns c =
    let names = c.args.list.now in
    let sorted = c.args.sorted.now in
    let many = length-names_by_ends names sorted in
    let end = c.loop-position-test.false in
    firsts_all names (names_by_ends names sorted)
    (indexes_in sorted) c.loop-position.firsts.items c.loop-position.position c.requires.numbered
    (omega arith) c.loop-position.invariant
