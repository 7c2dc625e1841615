-- One pass of the loop adds the reader of the next file to those of the files so far, in order. After the last name, the readers are those
-- of all files.
use Rattle.std.proofs.Common.{◌≡◌, ◌∙◌, ◌≤◌, ◌++◌, [], ◌∷◌, Bor, List, ℕ, Option, Some, IfSome, ap, arith, get_or, length, map, rules}
use Rattle.std.proofs.Common.{◌+◌, refl, subst, suc, sym, take, take_all}
use Rattle.std.proofs.lemmas.List.{get_or-map, length-map, map-append}
use Rattle.elf_tool_check.specs.Ending.{AsksInOrder}
use Rattle.elf_tool_check.proofs.Asked.{asks_next, asks_none}
use Rattle.elf_tool_program.proofs.Sources.{bytes_more}
use Rattle.elf_tool_program.proofs.opening.open_all.Goals as goal

abbrev now : Bor (List ℕ) → List ℕ
now name = name.now

one_more : (k : ℕ) → suc k ≡ k + 1
one_more k = omega arith

pub loop-k-preserved : goal.loop-k-preserved
loop-k-preserved g c =
    let l = c.loop-k in
    let names = map now c.args.names.now in
    let remaining = g.O.Input.Read.remaining in
    let at = get_or-map now c.args.names.now l.k _ [] c.loop-k-test.true in
    let count : length (map remaining l.inputs.items) ≡ l.k = length-map l.inputs.items remaining ∙ l.invariant.count in
    let pushed : map remaining c.push.new.self.items ≡ map remaining l.inputs.items ++ remaining c.in-Ok.input ∷ [] =
    ap (map remaining) c.in-Ok-push.ensures.items ∙ map-append remaining l.inputs.items (c.in-Ok.input ∷ []) in
    record {
      count = search rules;
      held = c.in-Ok.ensures.kept ∙ l.invariant.held;
      known = c.in-Ok.ensures.still ∙ l.invariant.known;
      asked = subst (λ (n : ℕ). AsksInOrder (g.O.Opener.asked c.args.files.now) (g.O.Opener.asked c.reader.new.self) (take n names))
          (one_more l.k)
          (asks_next _ _ _ names l.k _ (rw (length-map c.args.names.now now) c.loop-k-test.true) at l.invariant.asked
          c.in-Ok.ensures.asked);
      bytes = rw pushed
          (bytes_more (g.O.Opener.holds c.args.files.now) names (map remaining l.inputs.items) l.k
          (remaining c.in-Ok.input) count l.invariant.bytes
          (subst (λ (held : List ℕ → Option (List ℕ)). IfSome (held (get_or names l.k [])) (λ bytes. remaining c.in-Ok.input ≡ Some bytes))
          l.invariant.held
          (subst (λ (n : List ℕ). IfSome (g.O.Opener.holds l.files n) (λ bytes. remaining c.in-Ok.input ≡ Some bytes))
          (sym at) c.in-Ok.ensures.bytes)));
    }

pub loop-k-init : goal.loop-k-init
loop-k-init g c = record {
  count = search rules;
  held = refl;
  known = refl;
  asked = asks_none (g.O.Opener.asked c.args.files.now);
  bytes = λ j below. absurd (omega arith);
}

pub returns-in-Err-clause-stopped : goal.returns-in-Err-clause-stopped
returns-in-Err-clause-stopped g c =
    let l = c.loop-k in
    let names = map now c.args.names.now in
    let at = get_or-map now c.args.names.now l.k _ [] c.loop-k-test.true in
    asks_next _ _ _ names l.k _ (rw (length-map c.args.names.now now) c.loop-k-test.true) at l.invariant.asked c.reader.ensures.asked

pub returns-in_default-clause-stopped : goal.returns-in_default-clause-stopped
returns-in_default-clause-stopped g c =
    let l = c.loop-k in
    let names = map now c.args.names.now in
    let at = get_or-map now c.args.names.now l.k _ [] c.loop-k-test.true in
    asks_next _ _ _ names l.k _ (rw (length-map c.args.names.now now) c.loop-k-test.true) at l.invariant.asked c.in-Ok.ensures.asked

pub returns-clause-asked : goal.returns-clause-asked
returns-clause-asked g c =
    let l = c.loop-k in
    let names = map now c.args.names.now in
    let past : length c.args.names.now ≤ l.k = search rules in
    let end : l.k ≤ length c.args.names.now = search rules in
    let many = length-map c.args.names.now now in
    subst (AsksInOrder (g.O.Opener.asked c.args.files.now) (g.O.Opener.asked l.files)) (take_all l.k names (omega arith)) l.invariant.asked

pub returns-clause-ok : goal.returns-clause-ok
returns-clause-ok g c =
    let l = c.loop-k in
    let remaining = g.O.Input.Read.remaining in
    let inputs = length-map l.inputs.items remaining in
    let names = length-map c.args.names.now now in
    let past : length c.args.names.now ≤ l.k = search rules in
    let end : l.k ≤ length c.args.names.now = search rules in
    let count = l.invariant.count in
    record { count = omega arith; bytes = λ k below. l.invariant.bytes k (omega arith) }
