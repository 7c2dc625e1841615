-- The key of a name is its length and its bytes, and by the order of keys two names are equal exactly if their bytes are.
use Rattle.std.proofs.Common.{◌≡◌, ◌&&◌, ◌==◌, ◌∙◌, ℕ, Bool, true, false, List, ap, arith, length, refl}
use Rattle.std.specs.Cmp.{nat_cmp_is}
use Rattle.std.specs.Cmp.Lexicographic.{slice_cmp}
use Rattle.std.specs.Ordering.{is_eq, nat_cmp, ordering_then}
use Rattle.std.specs.Prelude.{cond, Option, Some}
use Rattle.std.specs.Str.{bytes_eq}
use Rattle.std.specs.declared.cmp.Ordering.TheVariants.{Less, Equal, Greater}
use Rattle.std.specs.declared.cmp.Ordering.{Ordering}
use Rattle.std.proofs.lemmas.Bool.{eq-eqb}
use Rattle.std.proofs.lemmas.Map.Text.{is_eq-slice_cmp}
use Rattle.std.proofs.lemmas.Slice.Eq.{bytes_eq-Decides}
use Rattle.elf_link_names.specs.Tables.{name_key_cmp}
use Rattle.elf_link_names.proofs.name_index.place_ordered.Goals as goal

both_equal : (a b : Ordering) → is_eq (ordering_then a b) ≡ (is_eq a && is_eq b)
both_equal Less b = refl
both_equal Equal b = refl
both_equal Greater b = refl

one_number : (x y : ℕ) → is_eq (nat_cmp x y) ≡ (x == y)
one_number x y = grind (arith, nat_cmp_is)

second_alone : (a b : Bool) → (b ≡ true → a ≡ true) → (a && b) ≡ b
second_alone true b first = refl
second_alone false true first = first refl
second_alone false false first = refl

-- two names are equal by the order of their keys exactly if their bytes are
pub same_key : (n q : List ℕ) → is_eq (name_key_cmp n (length q, record { ref_ptr = (0, 0); now = q })) ≡ bytes_eq n q
same_key n q =
    both_equal (nat_cmp (length n) (length q)) (slice_cmp nat_cmp n q) ∙
    rw (one_number (length n) (length q), is_eq-slice_cmp n q)
    (second_alone (length n == length q) (bytes_eq n q) (λ is. eq-eqb (length n) (length q) (ap length ((bytes_eq-Decides n q).0 is))))

as_looked : (r s : Option ℕ) (n q : List ℕ) (x : ℕ) →
    r ≡ cond (is_eq (name_key_cmp n (length q, record { ref_ptr = (0, 0); now = q }))) (Some x) s →
    r ≡ cond (bytes_eq n q) (Some x) s
as_looked r s n q x is = is ∙ ap (λ (e : Bool). cond e (Some x) s) (same_key n q)

pub returns-clause-positions : goal.returns-clause-positions
returns-clause-positions c = λ q.
    as_looked _ _ c.args.name.now q _ (c.in_ok-insert.ensures.updates.0 (length q, record { ref_ptr = (0, 0); now = q }))
