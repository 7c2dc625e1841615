-- Neighbours of sorted spots. If the field of each spot is after that of the spot before it, no two fields share a byte, since that order
-- is transitive (`after_all`). And if one is not, it is in the same section and starts before the end of that field, so these two share the
-- byte where it starts.
use Rattle.std.proofs.Common.{◌≡◌, ℕ, ◌+◌, ◌<◌, List, length, inl, inr, sym, ◌∙◌, ap, subst, arith}
use Rattle.std.proofs.lemmas.Bool.{cases_lt, cases_eq}
use Rattle.elf_link_field.specs.Field.{size_of}
use Rattle.elf_link_relocate.proofs.Held.{some_width}
use Rattle.elf_link_relocate.proofs.Sharing.{after_all}
use Rattle.elf_link_relocate.proofs.Spots.{byte_held, met_shared, ordered, place, sharing_swap}
use Rattle.elf_link_relocate.specs.Passes.{AreSharing, AreSorted, AreSpots, HasShared, IsSpotIn, StandsAfter}
use Rattle.elf_link_relocate.specs.Passes.{field_at, no_spot, spot_at}
use Rattle.elf_link_relocate.specs.declared.field.Field.{Field}
use Rattle.elf_link_relocate.specs.declared.overlaps.Spot.{Spot}

not_sharing : (d e : Field) → StandsAfter d e → AreSharing d e → ⊥
not_sharing d e (inl file) (same, target, common) = omega arith
not_sharing d e (inr (file, inl section)) (same, target, common) = omega arith
not_sharing d e (inr (file, inr (section, end))) (same, target, (x, (low, high), (from, to))) = omega arith

-- the field of the spot at a place
abbrev pub field_of : List Field → List Spot → ℕ → Field
field_of ds spots a = field_at ds (spot_at spots a).position

module _ (ds : List Field) (spots : List Spot) (are : AreSpots ds (length ds) spots) where
  abbrev its : ℕ → Field
  its a = field_of ds spots a

  pub apart_of : ((k : ℕ) → k + 1 < length spots → StandsAfter (its k) (its (k + 1))) → HasShared ds (length ds) → ⊥
  apart_of after (j, k, lt, k_in, sharing) =
      let (a, a_in, at_a) = place ds (length ds) spots are j (omega arith) in
      let (b, b_in, at_b) = place ds (length ds) spots are k k_in in
      let here : AreSharing (its a) (its b) =
      subst (λ i. AreSharing (its a) (field_at ds i)) (sym at_b)
      (subst (λ i. AreSharing (field_at ds i) (field_at ds k)) (sym at_a) sharing) in
      elim (cases_lt a b) [
        | inl below ↦ not_sharing (its a) (its b) (after_all its (length spots) after a b below b_in) here
        | inr above ↦ elim (cases_eq a b) [
          | inl same ↦ (let one = ap (λ i. (spot_at spots i).position) same in omega arith)
          | inr differ ↦ not_sharing (its b) (its a) (after_all its (length spots) after b a (omega arith) a_in)
              (sharing_swap (its a) (its b) here)
        ]
      ]

  module _ (up : AreSorted spots) (k : ℕ) (lt : k + 1 < length spots) (not_after : StandsAfter (its k) (its (k + 1)) → ⊥) where
    abbrev s : Spot
    s = spot_at spots k

    abbrev t : Spot
    t = spot_at spots (k + 1)

    is_s : IsSpotIn ds (length ds) s
    is_s = are.each k no_spot (omega arith)

    is_t : IsSpotIn ds (length ds) t
    is_t = are.each (k + 1) no_spot lt

    same_file : t.file ≡ s.file
    same_file = elim (cases_lt s.file t.file) [
      | inl below ↦ absurd (let file_s = is_s.file in let file_t = is_t.file in not_after (inl (omega arith)))
      | inr above ↦ (let le = (ordered spots up k (k + 1) (omega arith) lt).0 in omega arith)
    ]

    same_target : t.target ≡ s.target
    same_target = elim (cases_lt s.target t.target) [
      | inl below ↦ absurd (
          let target_s = is_s.target in
          let target_t = is_t.target in
          not_after (inr (sym is_s.file ∙ sym same_file ∙ is_t.file, inl (omega arith))))
      | inr above ↦ (let le = ((ordered spots up k (k + 1) (omega arith) lt).1 same_file).0 in omega arith)
    ]

    before_end : t.offset < s.offset + size_of (its k).rule.width
    before_end = elim (cases_lt t.offset (s.offset + size_of (its k).rule.width)) [
      | inl before ↦ before
      | inr past ↦ absurd (
          let offset_s = is_s.offset in
          let offset_t = is_t.offset in
          not_after (inr (sym is_s.file ∙ sym same_file ∙ is_t.file, inr (sym is_s.target ∙ sym same_target ∙ is_t.target, omega arith))))
    ]

    pub shared_of : HasShared ds (length ds)
    shared_of =
        let offset_s = is_s.offset in
        let offset_t = is_t.offset in
        let le = ((ordered spots up k (k + 1) (omega arith) lt).1 same_file).1 same_target in
        let end = before_end in
        let width = some_width (its (k + 1)).rule.width in
        met_shared ds (length ds) spots are k (k + 1) (omega arith) lt (sym same_file, sym same_target) (
          t.offset,
          byte_held ds (length ds) t.offset s is_s is_s.within (omega arith, omega arith),
          byte_held ds (length ds) t.offset t is_t is_t.within (omega arith, omega arith),
        )
