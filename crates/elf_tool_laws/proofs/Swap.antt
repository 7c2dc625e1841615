-- Two neighbours that change places are a change of order, if they do not compete. By induction on the files in front of them.
use Rattle.std.proofs.Common.{◌≡◌, ◌<◌, ◌⊎◌, ℕ, List, zero, suc, [], ◌∷◌, ◌++◌, ap, arith, inl, inr, length, refl, subst}
use Rattle.elf_link_files.specs.Files.{object_at}
use Rattle.elf_object_type.specs.Object.{ObjectValue}
use Rattle.elf_tool_laws.specs.Order.{AreReordered, Compete, swapped}

-- ---- positions

twice : (k f : ℕ) → swapped k (swapped k f) ≡ f
twice zero zero = refl
twice zero (suc zero) = refl
twice zero (suc (suc f)) = refl
twice (suc k) zero = refl
twice (suc k) (suc f) = ap (λ (n : ℕ). suc n) (twice k f)

within : (k f n : ℕ) → suc k < n → f < n → swapped k f < n
within k f zero both lt = absurd (omega arith)
within zero zero (suc n) both lt = both
within zero (suc zero) (suc n) both lt = omega arith
within zero (suc (suc f)) (suc n) both lt = lt
within (suc k) zero (suc n) both lt = lt
within (suc k) (suc f) (suc n) both lt = (let rest = within k f n (omega arith) (omega arith) in omega arith)

-- all others keep their order
in_order : (k e f : ℕ) → e < f → (swapped k e < swapped k f) ⊎ ((e ≡ k) × (f ≡ suc k))
in_order k e zero lt = absurd (omega arith)
in_order zero zero (suc zero) lt = inr (refl, refl)
in_order zero zero (suc (suc f)) lt = inl (omega arith)
in_order zero (suc zero) (suc zero) lt = absurd (omega arith)
in_order zero (suc zero) (suc (suc f)) lt = inl (omega arith)
in_order zero (suc (suc e)) (suc zero) lt = absurd (omega arith)
in_order zero (suc (suc e)) (suc (suc f)) lt = inl lt
in_order (suc k) zero (suc f) lt = inl (omega arith)
in_order (suc k) (suc e) (suc f) lt = elim (in_order k e f (omega arith)) [
  | inl before ↦ inl (omega arith)
  | inr (first, second) ↦ inr (ap (λ (n : ℕ). suc n) first, ap (λ (n : ℕ). suc n) second)
]

-- ---- files

long : (front rest : List ObjectValue) (o p : ObjectValue) →
    (length (front ++ p ∷ o ∷ rest) ≡ length (front ++ o ∷ p ∷ rest)) × (suc (length front) < length (front ++ o ∷ p ∷ rest))
long [] rest o p = (refl, omega arith)
long (x ∷ front) rest o p = (let (same, two) = long front rest o p in (ap (λ (n : ℕ). suc n) same, omega arith))

file_at : (front rest : List ObjectValue) (o p : ObjectValue) (f : ℕ) →
    object_at (front ++ p ∷ o ∷ rest) (swapped (length front) f) ≡ object_at (front ++ o ∷ p ∷ rest) f
file_at [] rest o p zero = refl
file_at [] rest o p (suc zero) = refl
file_at [] rest o p (suc (suc f)) = refl
file_at (x ∷ front) rest o p zero = refl
file_at (x ∷ front) rest o p (suc f) = file_at front rest o p f

pub neighbours : (front rest : List ObjectValue) (o p : ObjectValue) →
    ¬ Compete (front ++ o ∷ p ∷ rest) (length front) (suc (length front)) →
    AreReordered (front ++ o ∷ p ∷ rest) (front ++ p ∷ o ∷ rest) (swapped (length front)) (swapped (length front))
neighbours front rest o p apart =
    let k = length front in
    let (same, two) = long front rest o p in
    record {
      there = λ f f_in. (
        (let lt = within k f (length (front ++ o ∷ p ∷ rest)) two f_in in omega arith),
        twice k f,
        file_at front rest o p f,
      );
      here = λ g g_in. (within k g (length (front ++ o ∷ p ∷ rest)) two (omega arith), twice k g);
      kept = λ e f before f_in compete. elim (in_order k e f before) [
        | inl still ↦ still
        | inr (first, second) ↦
            absurd (apart (subst (λ (n : ℕ). Compete (front ++ o ∷ p ∷ rest) n (suc k)) first
            (subst (λ (n : ℕ). Compete (front ++ o ∷ p ∷ rest) e n) second compete)))
      ];
    }
