-- A symbol that no other file needs may be inserted at any place, and left out again. By induction on the symbols in front of it.
use Rattle.std.proofs.Common.{◌≡◌, ◌∙◌, ◌<◌, ◌⊎◌, ◌↔◌, ℕ, List, zero, suc, [], ◌∷◌, ◌++◌, ap, arith, get_or, inl, inr, length}
use Rattle.std.proofs.Common.{map, refl, subst, sym}
use Rattle.elf_object_type.specs.Object.{ObjectValue, SymbolValue, no_symbol}
use Rattle.elf_tool_laws.specs.LeftOut.{IsUnneeded, LeavesOut, inserted_at, section_by}

ascending : (k i j : ℕ) → i < j → inserted_at k i < inserted_at k j
ascending k i zero lt = absurd (omega arith)
ascending zero i (suc j) lt = omega arith
ascending (suc k) zero (suc j) lt = omega arith
ascending (suc k) (suc i) (suc j) lt = (let later = ascending k i j (omega arith) in omega arith)

same_there : (front rest : List SymbolValue) (s : SymbolValue) (j : ℕ) →
    get_or (front ++ rest) j no_symbol ≡ get_or (front ++ s ∷ rest) (inserted_at (length front) j) no_symbol
same_there [] rest s j = refl
same_there (x ∷ front) rest s zero = refl
same_there (x ∷ front) rest s (suc j) = same_there front rest s j

both_within : (front rest : List SymbolValue) (s : SymbolValue) (j : ℕ) →
    (j < length (front ++ rest)) ↔ (inserted_at (length front) j < length (front ++ s ∷ rest))
both_within [] rest s j = ((λ lt. omega arith), (λ lt. omega arith))
both_within (x ∷ front) rest s zero = ((λ lt. omega arith), (λ lt. omega arith))
both_within (x ∷ front) rest s (suc j) =
    let both = both_within front rest s j in
    ((λ lt. (let later = both.0 (omega arith) in omega arith)), (λ lt. (let later = both.1 (omega arith) in omega arith)))

all_others : (front rest : List SymbolValue) (s : SymbolValue) → IsUnneeded s → (i : ℕ) → i < length (front ++ s ∷ rest) →
    ((j : ℕ) × (inserted_at (length front) j ≡ i)) ⊎ IsUnneeded (get_or (front ++ s ∷ rest) i no_symbol)
all_others [] rest s unneeded zero lt = inr unneeded
all_others [] rest s unneeded (suc i) lt = inl (i, refl)
all_others (x ∷ front) rest s unneeded zero lt = inl (zero, refl)
all_others (x ∷ front) rest s unneeded (suc i) lt = elim (all_others front rest s unneeded i (omega arith)) [
  | inl (j, same) ↦ inl (suc j, ap (λ (n : ℕ). suc n) same)
  | inr is ↦ inr is
]

pub inserted : (p : ObjectValue) (front rest : List SymbolValue) (s : SymbolValue) → p.symbols ≡ front ++ rest → IsUnneeded s →
    LeavesOut
    (record p { sections = map (section_by (inserted_at (length front))) p.sections; symbols = front ++ s ∷ rest }) p
    (inserted_at (length front))
inserted p front rest s split unneeded = record {
  order = refl;
  osabi = refl;
  abi = refl;
  machine = refl;
  flags = refl;
  sections = refl;
  symbols = λ j. ap (λ (ss : List SymbolValue). get_or ss j no_symbol) split ∙ same_there front rest s j;
  within = λ j. subst (λ (ss : List SymbolValue). (j < length ss) ↔ (inserted_at (length front) j < length (front ++ s ∷ rest))) (sym split)
      (both_within front rest s j);
  ascend = ascending (length front);
  others = all_others front rest s unneeded;
}
