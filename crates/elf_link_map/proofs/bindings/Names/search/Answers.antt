-- A name that is not this one is another list of bytes. So the first one that is this name binds it, and without one it is not bound.
use Rattle.std.proofs.Common.{◌≡◌, ◌<◌, ◌∙◌, ℕ, List, ap, arith, get_or, inl, inr, length, map, sym}
use Rattle.std.proofs.lemmas.Bool.{cases_lt, true≢false}
use Rattle.std.proofs.lemmas.List.{get_or-map, length-map}
use Rattle.std.proofs.lemmas.Slice.Eq.{bytes_eq-Decides}
use Rattle.elf_link_map.specs.LinkMap.{named_value, no_name}
use Rattle.elf_link_map.specs.declared.bindings.Named.{Named}
use Rattle.elf_link_map.proofs.OneMap.{bound_first, bound_never}
use Rattle.elf_link_map.proofs.bindings.Names.search.Goals as goal

-- the name of the item that is read
its_name : (list : List Named) (k : ℕ) (n : Named) → k < length list → n ≡ get_or list k n →
    (get_or (map named_value list) k no_name).0 ≡ n.name.now
its_name list k n lt is = ap (λ e. e.0) (get_or-map named_value list k n no_name lt ∙ ap named_value (sym is))

pub loop-k-preserved : goal.loop-k-preserved
loop-k-preserved c = λ j lt is. elim (cases_lt j c.loop-k.k) [
  | inl below ↦ c.loop-k.invariant j below is
  | inr above ↦ (
      let list = c.self.inside.list.items in
      let here : j ≡ c.loop-k.k = omega arith in
      let below = c.loop-k-test.true in
      let count = c.len-k-end.ensures in
      let name = its_name list c.loop-k.k c.index.result.now (omega arith) c.index.ensures in
      let own = rw (← c.self.view_is, here) at is in
      absurd (true≢false
      (sym ((bytes_eq-Decides c.index.result.now.name.now c.args.name.now).1 (sym name ∙ own)) ∙ sym c.eq.ensures ∙ c.if-eq.false)))
]

pub returns-then-eq : goal.returns-then-eq
returns-then-eq c =
    let list = c.self.inside.list.items in
    let many = length-map list named_value in
    let below = c.loop-k-test.true in
    let count = c.len-k-end.ensures in
    let same = (bytes_eq-Decides c.index.result.now.name.now c.args.name.now).0 (sym c.eq.ensures ∙ c.if-eq.true) in
    let name = its_name list c.loop-k.k c.index.result.now (omega arith) c.index.ensures in
    rw (← c.self.view_is) (
      omega arith,
      bound_first (map named_value list) c.args.name.now c.loop-k.k (omega arith) (name ∙ same)
          (λ j lt is. c.loop-k.invariant j lt (rw (← c.self.view_is) is)),
    )

pub returns : goal.returns
returns c =
    let list = c.self.inside.list.items in
    let past = c.loop-k-test.false in
    let count = c.len-k-end.ensures in
    let many = length-map list named_value in
    rw (← c.self.view_is)
    (bound_never (map named_value list) c.args.name.now
    (λ j lt is. c.loop-k.invariant j (omega arith) (rw (← c.self.view_is) is)))
