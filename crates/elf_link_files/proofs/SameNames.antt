-- Names that are picked from those of an object, with their ends, are tails of one another where those of the object are (`tails_from`).
use Rattle.std.proofs.Common.{◌≡◌, ◌<◌, ◌≤◌, ◌+◌, ◌-◌, ◌++◌, ◌∷◌, ◌∙◌, ℕ, List, [], suc, zero, arith, ap, get_or, inl, inr, length}
use Rattle.std.proofs.Common.{length-append, sym, subst, refl}
use Rattle.std.proofs.lemmas.Bool.{cases_lt}
use Rattle.std.proofs.lemmas.List.{get_or_append_left, get_or-append_right, get_or-map}
use Rattle.elf_link_files.specs.Files.{object_at}
use Rattle.elf_link_files.specs.SameNames.{IsNamedIn, site_name, names_of_object}
use Rattle.elf_link_files.specs.declared.same_names.Named.TheVariants.{Section, Symbol}
use Rattle.elf_link_files.specs.declared.same_names.Named.{Named}
use Rattle.elf_link_files.specs.declared.site.Site.{Site}
use Rattle.elf_object_strings.specs.StringTable.{AreTails, IsSuffix, IsTailOf}
use Rattle.elf_object_type.specs.Object.{ObjectValue, no_section, no_symbol}

-- each name is one of others, with the end that it has there
pub record AreFrom (others : List (List ℕ)) (other_ends : List ℕ) (names : List (List ℕ)) (ends : List ℕ) : Type 0 where
  pub all : length ends ≡ length names
  pub each : (n : ℕ) → n < length names →
      (i : ℕ) × (get_or names n [] ≡ get_or others i []) × (get_or ends n 0 ≡ get_or other_ends i 0)

pub from_none : (others : List (List ℕ)) (other_ends : List ℕ) → AreFrom others other_ends [] []
from_none others other_ends = record { all = refl; each = λ n lt. absurd (omega arith) }

last_of : {X : Type 0} → (xs : List X) (x d : X) (n : ℕ) → length xs ≤ n → n < length (xs ++ x ∷ []) → get_or (xs ++ x ∷ []) n d ≡ x
last_of xs x d n le lt =
    let long = length-append xs (x ∷ []) in
    let is : n - length xs ≡ 0 = omega arith in
    get_or-append_right xs (x ∷ []) (length xs) n d refl le ∙ ap (λ k. get_or (x ∷ []) k d) is

pub from_more : (others : List (List ℕ)) (other_ends : List ℕ) (names : List (List ℕ)) (ends : List ℕ) (i : ℕ) →
    AreFrom others other_ends names ends →
    AreFrom others other_ends (names ++ get_or others i [] ∷ []) (ends ++ get_or other_ends i 0 ∷ [])
from_more others other_ends names ends i from = record {
  all = length-append ends (end ∷ []) ∙ ap (λ n. n + 1) from.all ∙ sym (length-append names (name ∷ []));
  each = λ n lt. elim (cases_lt n (length names)) [
    | inl old ↦ (let (k, name_is, end_is) = from.each n old in
        let all = from.all in
        (k, get_or_append_left names (name ∷ []) [] n old ∙ name_is, get_or_append_left ends (end ∷ []) 0 n (omega arith) ∙ end_is))
    | inr new ↦ (let all = from.all in
        let long = length-append ends (end ∷ []) in
        let other = length-append names (name ∷ []) in
        (i, last_of names name [] n new lt, last_of ends end 0 n (omega arith) (omega arith)))
  ];
} where
  name : List ℕ
  name = get_or others i []

  end : ℕ
  end = get_or other_ends i 0

-- past the last end is 0
within : (ends : List ℕ) (n : ℕ) → 0 < get_or ends n 0 → n < length ends
within [] n some = absurd (omega arith)
within (end ∷ ends) zero some = omega arith
within (end ∷ ends) (suc n) some = let lt = within ends n some in omega arith

pub tails_from : (others : List (List ℕ)) (other_ends : List ℕ) (names : List (List ℕ)) (ends : List ℕ) → AreTails others other_ends →
    AreFrom others other_ends names ends → AreTails names ends
tails_from others other_ends names ends tails from i j some same shorter =
    let all = from.all in
    let lt_i = within ends i some in
    let lt_j = within ends j (subst (λ n. 0 < n) same some) in
    let (k, name_i, end_i) = from.each i (omega arith) in
    let (l, name_j, end_j) = from.each j (omega arith) in
    let tail : IsTailOf others k l = tails k l (subst (λ n. 0 < n) end_i some) (sym end_i ∙ same ∙ end_j) in
    subst (λ n. IsSuffix n (get_or names j [])) (sym name_i)
    (subst (λ n. IsSuffix (get_or others k []) n) (sym name_j)
    (tail (subst (λ n. length n ≤ length (get_or others l [])) name_i (subst (λ n. length (get_or names i []) ≤ length n) name_j shorter))))

-- the name of a section or symbol of a file is among those of its object
pub name_there : (fs : List ObjectValue) (named : Named) (p : Site) → IsNamedIn fs named p →
    site_name fs named p ≡ get_or (names_of_object (object_at fs p.file) named) p.index []
name_there fs Section p there = sym (get_or-map (λ s. s.name) (object_at fs p.file).sections p.index no_section [] there.1)
name_there fs Symbol p there = sym (get_or-map (λ s. s.name) (object_at fs p.file).symbols p.index no_symbol [] there.1)
