-- Tables in rows with one item changed: the item is the new one, and all other items and all lengths stay. A change to a table of vectors
-- is that change to its view.
use Rattle.std.proofs.Common.{◌≡◌, ◌≢◌, ℕ, ◌<◌, ◌⊎◌, List, [], get_or, length, map, set, inl, inr, sym, ◌∙◌, ap}
use Rattle.std.proofs.lemmas.Bool.{cases_eq}
use Rattle.std.specs.Global.{Vec}
use Rattle.std.specs.Vec.{with_item}
use Rattle.std.proofs.lemmas.List.{get_or-map, get_or-set_other, get_or-set_same, length-map, length-set, map-set}
use Rattle.elf_link_relocate.specs.Linked.{IsGrid, item, with}
use Rattle.elf_object_type.specs.Object.{ObjectValue}

module _ {A : Type 0} (none : A) (rows : List (List A)) (f s : ℕ) (new : A) (f_in : f < length rows) where
  pub item_here : s < length (get_or rows f []) → item none (with rows f s new) f s ≡ new
  item_here s_in =
      ap (λ (row : List A). get_or row s none) (get_or-set_same rows f (set (get_or rows f []) s new) [] f_in) ∙
      get_or-set_same (get_or rows f []) s new none s_in

  pub item_other : (g t : ℕ) → (g ≢ f) ⊎ (t ≢ s) → item none (with rows f s new) g t ≡ item none rows g t
  item_other g t other = elim (cases_eq g f) [
    | inr away ↦ ap (λ (row : List A). get_or row t none) (get_or-set_other rows f g (set (get_or rows f []) s new) [] away)
    | inl same ↦ elim other [
      | inl away ↦ absurd (away same)
      | inr away ↦ rw same (ap (λ (row : List A). get_or row t none) (get_or-set_same rows f (set (get_or rows f []) s new) [] f_in) ∙
          get_or-set_other (get_or rows f []) s t new none away)
    ]
  ]

  row_length : (g : ℕ) → length (get_or (with rows f s new) g []) ≡ length (get_or rows g [])
  row_length g = elim (cases_eq g f) [
    | inl same ↦
        rw same (ap (λ (row : List A). length row) (get_or-set_same rows f (set (get_or rows f []) s new) [] f_in) ∙
        length-set (get_or rows f []) s new)
    | inr away ↦ ap (λ (row : List A). length row) (get_or-set_other rows f g (set (get_or rows f []) s new) [] away)
  ]

  pub grid_with : (fs : List ObjectValue) → IsGrid fs rows → IsGrid fs (with rows f s new)
  grid_with fs is = record {
    files = length-set rows f (set (get_or rows f []) s new) ∙ is.files;
    sections = λ g lt. row_length g ∙ is.sections g lt;
  }

-- ---- a table after its view

module _ {V A : Type 0} (g : V → A) (none : A) (rows : List (Vec V)) (row : Vec V) (f : ℕ) (f_in : f < length rows)
    (at : row ≡ get_or rows f row) where
  abbrev pub viewed : Vec V → List A
  viewed r = map g r.items

  pub view_set : (s : ℕ) (new : V) → map viewed (set rows f (with_item row s new)) ≡ with (map viewed rows) f s (g new)
  view_set s new =
      map-set viewed rows f (with_item row s new) ∙
      ap (λ (r : List A). set (map viewed rows) f r)
      (map-set g row.items s new ∙ ap (λ (r : List A). set r s (g new)) (ap viewed at ∙ sym (get_or-map viewed rows f row [] f_in)))

  pub view_item : (s : ℕ) (v : V) → s < length row.items → v ≡ get_or row.items s v → item none (map viewed rows) f s ≡ g v
  view_item s v s_in there =
      ap (λ (r : List A). get_or r s none) (get_or-map viewed rows f row [] f_in ∙ sym (ap viewed at)) ∙
      get_or-map g row.items s v none s_in ∙ sym (ap g there)

  pub view_row : length (get_or (map viewed rows) f []) ≡ length row.items
  view_row = ap (λ (r : List A). length r) (get_or-map viewed rows f row [] f_in ∙ sym (ap viewed at)) ∙ length-map row.items g
