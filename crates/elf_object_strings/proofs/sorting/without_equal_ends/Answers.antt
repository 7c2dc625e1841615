use Rattle.std.proofs.Common.{◌≡◌, ℕ, List, ◌++◌, ◌-◌, length, take, drop, refl, ◌∙◌}
use Rattle.std.specs.Cmp.Lexicographic.{same_text}
use Rattle.std.proofs.lemmas.List.{take-append-drop}
use Rattle.elf_object_strings.proofs.sorting.without_equal_ends.Goals as goal

parts : (n : ℕ) (name rest ending : List ℕ) →
    rest ≡ take (length name - n) name → ending ≡ drop (length name - n) name → name ≡ rest ++ ending
parts n name rest ending rest_is ending_is = rw (rest_is, ending_is, take-append-drop) refl

pub returns-then-eq-clause-ends : goal.returns-then-eq-clause-ends
returns-then-eq-clause-ends c =
    let a = c.in_ok-a_rest.ensures.cases in
    let b = c.in_ok-b_rest.ensures.cases in
    let same = same_text _ _ c.if-eq.ensures in
    record {
      ending = c.in_ok-a_rest.a_end.now;
      name_is = parts _ c.args.a.now _ _ a.0 a.1;
      other_is = parts _ c.args.b.now _ _ b.0 (same ∙ b.1);
    }
