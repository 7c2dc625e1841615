-- The cursor is the end of the last part passed; where that part starts or ends at 2^64 or later, so does each one after it.
use Rattle.std.proofs.Common.{inl, inr, ◌≡◌, ℕ, ◌+◌, ◌<◌, ◌≤◌, ◌^◌, length, get_or, sym, subst, arith}
use Rattle.std.proofs.lemmas.Bool.{cases_lt}
use Rattle.std.proofs.lemmas.List.{get_or_default}
use Rattle.elf_link_outputs.specs.Addresses.{IsCursor}
use Rattle.elf_link_outputs.proofs.Placings.{cursor_more, past_after, past_end, past_here, starts_here, starts_match}
use Rattle.elf_link_outputs.proofs.addresses.start_of.Goals as goal

pub returns-in_default : goal.returns-in_default
returns-in_default c =
    let parts = c.args.parts.now in
    let i = c.loop-i.i in
    let p = get_or parts i (0, 0) in
    let below : i < length parts = omega arith in
    past_after parts c.args.from i c.args.t c.loop-i-test.true c.requires
    (past_here parts c.args.from i c.loop-i.cursor p below (get_or_default parts i (0, 0) p below) c.in_default.ensures c.loop-i.invariant)

pub returns-in_default-checked_add : goal.returns-in_default-checked_add
returns-in_default-checked_add c =
    let parts = c.args.parts.now in
    let i = c.loop-i.i in
    let p = get_or parts i (0, 0) in
    let below : i < length parts = omega arith in
    let same = get_or_default parts i (0, 0) p below in
    let past : 2 ^ 64 ≤ c.in-Some.start + p.0 = elim (cases_lt (c.in-Some.start + p.0) (2 ^ 64)) [
      | inl fits ↦ absurd (c.in_default-checked_add.ensures fits)
      | inr above ↦ above
    ] in
    past_end parts c.args.from i c.args.t c.in-Some.start p c.loop-i-test.true c.requires same past
    (starts_here parts c.args.from i c.loop-i.cursor c.in-Some.start p below same c.in-Some.ensures c.loop-i.invariant)

pub loop-i-preserved : goal.loop-i-preserved
loop-i-preserved c =
    let parts = c.args.parts.now in
    let i = c.loop-i.i in
    let p = get_or parts i (0, 0) in
    let below : i < length parts = omega arith in
    let sum : c.in-Some-checked_add.end ≡ c.in-Some.start + p.0 = c.in-Some-checked_add.ensures.1 in
    subst (λ (n : ℕ). IsCursor parts c.args.from (i + 1) n) (sym sum)
    (cursor_more parts c.args.from i c.loop-i.cursor c.in-Some.start p below
    (get_or_default parts i (0, 0) p below) c.in-Some.ensures c.loop-i.invariant)

pub returns : goal.returns
returns c =
    let parts = c.args.parts.now in
    let t = c.args.t in
    let p = get_or parts t (0, 0) in
    let end : c.loop-i.i ≡ t = omega arith in
    starts_match parts c.args.from t c.loop-i.cursor p c.requires (get_or_default parts t (0, 0) p c.requires)
    (subst (λ (n : ℕ). IsCursor parts c.args.from n c.loop-i.cursor) end c.loop-i.invariant) c.next_place-2.result c.next_place-2.ensures
