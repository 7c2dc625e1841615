-- Which fields share a byte: by the places that fields carry, which are those of their entries. Fields in ascending order share none.
use Rattle.std.proofs.Common.{◌≡◌, ℕ, ◌+◌, ◌<◌, List, length, inl, inr, sym, ◌∙◌, subst, arith, zero, suc}
use Rattle.std.proofs.lemmas.Bool.{cases_lt}
use Rattle.elf_link_map.specs.LinkMap.{LinkMapValue}
use Rattle.elf_link_relocate.specs.Fields.{Share}
use Rattle.elf_link_relocate.specs.Passes.{AreAscending, AreFieldsRead, AreSharing, HasNoOverlap, HasShared, IsFirstOverlappingField}
use Rattle.elf_link_relocate.specs.Passes.{IsFirstSharer, IsInTarget, StandsAfter, field_at}
use Rattle.elf_link_relocate.specs.declared.field.Field.{Field}
use Rattle.elf_object_type.specs.Object.{ObjectValue}

module _ (fs : List ObjectValue) (m : LinkMapValue) (ds : List Field) (read : AreFieldsRead fs m ds) where
  abbrev Shares : ℕ → ℕ → Type 0
  Shares j k = Share fs (field_at ds j).site (field_at ds j).rule (field_at ds k).site (field_at ds k).rule

  share_of : (j k : ℕ) → j < length ds → k < length ds → AreSharing (field_at ds j) (field_at ds k) → Shares j k
  share_of j k j_in k_in (file, target, (x, (from, end), (low, high))) =
      let first = (read j j_in).place in
      let second = (read k k_in).place in
      let start = first.offset in
      let other = second.offset in
      ((file, sym first.target ∙ target ∙ second.target), (x, (omega arith, omega arith), (omega arith, omega arith)))

  sharing_of : (j k : ℕ) → j < length ds → k < length ds → Shares j k → AreSharing (field_at ds j) (field_at ds k)
  sharing_of j k j_in k_in ((file, target), (x, (from, end), (low, high))) =
      let first = (read j j_in).place in
      let second = (read k k_in).place in
      let start = first.offset in
      let other = second.offset in
      (file, first.target ∙ target ∙ sym second.target, (x, (omega arith, omega arith), (omega arith, omega arith)))

  pub none_shared : (HasShared ds (length ds) → ⊥) → HasNoOverlap fs ds
  none_shared none k lt (j, below, share) = none (j, k, below, lt, sharing_of j k (omega arith) lt share)

  pub first_shared : (k : ℕ) → IsFirstSharer ds k → IsFirstOverlappingField fs ds k
  first_shared k (lt, (i, j, below, within, sharing), none) = (
    lt,
    elim (cases_lt j k) [
      | inl before ↦ absurd (none (i, j, below, before, sharing))
      | inr above ↦ (
          let same : j ≡ k = omega arith in
          (i, omega arith, share_of i k (omega arith) lt (subst (λ n. AreSharing (field_at ds i) (field_at ds n)) same sharing)))
    ],
    λ n n_lt (h, h_lt, share). none (h, n, h_lt, n_lt, sharing_of h n (omega arith) (omega arith) share),
  )

-- Fields in ascending order share no byte. Each is in a later file or section than the one before it, or starts after its end. That order
-- is transitive, so by induction it holds of any two fields.

-- after what is after
after_on : (a b c : Field) → StandsAfter a b → StandsAfter b c → StandsAfter a c
after_on a b c (inl file) (inl other) = inl (omega arith)
after_on a b c (inl file) (inr (same, rest)) = inl (omega arith)
after_on a b c (inr (same, rest)) (inl other) = inl (omega arith)
after_on a b c (inr (same, inl target)) (inr (again, inl other)) = inr (same ∙ again, inl (omega arith))
after_on a b c (inr (same, inl target)) (inr (again, inr (section, offset))) = inr (same ∙ again, inl (omega arith))
after_on a b c (inr (same, inr (section, offset))) (inr (again, inl other)) = inr (same ∙ again, inl (omega arith))
after_on a b c (inr (same, inr (section, offset))) (inr (again, inr (there, end))) = inr (same ∙ again, inr (section ∙ there, omega arith))

pub after_all : (at : ℕ → Field) (n : ℕ) → ((k : ℕ) → k + 1 < n → StandsAfter (at k) (at (k + 1))) → (j k : ℕ) → j < k → k < n →
    StandsAfter (at j) (at k)
after_all at n are j zero lt within = absurd (omega arith)
after_all at n are j (suc k) lt within =
    let next : k + 1 ≡ suc k = omega arith in
    let last = are k (omega arith) in
    subst (λ (i : ℕ). StandsAfter (at j) (at i)) next
    (elim (cases_lt j k) [
      | inl below ↦ after_on (at j) (at k) (at (k + 1)) (after_all at n are j k below (omega arith)) last
      | inr above ↦ (let same : k ≡ j = omega arith in subst (λ (i : ℕ). StandsAfter (at i) (at (k + 1))) same last)
    ])

after_apart : (fs : List ObjectValue) (d e : Field) → IsInTarget fs d → IsInTarget fs e → StandsAfter d e →
    Share fs d.site d.rule e.site e.rule → ⊥
after_apart fs d e at there (inl file) ((same, target), common) = omega arith
after_apart fs d e at there (inr (file, inl section)) ((same, target), common) =
    let first = at.target in
    let second = there.target in
    omega arith
after_apart fs d e at there (inr (file, inr (section, end))) ((same, target), (x, (low, high), (from, to))) =
    let first = at.offset in
    let second = there.offset in
    omega arith

pub ascending_apart : (fs : List ObjectValue) (m : LinkMapValue) (ds : List Field) → AreFieldsRead fs m ds → AreAscending ds →
    HasNoOverlap fs ds
ascending_apart fs m ds read are k lt (j, below, share) =
    let j_in : j < length ds = omega arith in
    after_apart fs (field_at ds j) (field_at ds k) (read j j_in).place (read k lt).place
    (after_all (field_at ds) (length ds) are j k below lt) share
