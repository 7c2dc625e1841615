-- Notes are where they begin, and the first broken rule of a note is that of its section.
use Rattle.std.proofs.Common.{◌≡◌, ℕ, zero, suc, ◌+◌, ◌<◌, ◌≤◌, List, [], ◌∷◌, None, Some, length, inl, inr, refl, sym, ap, ◌∙◌, arith, ◌-◌}
use Rattle.std.proofs.Common.{take, drop, Option, subst}
use Rattle.std.specs.Prelude.{slice_get, MatchOption, ◌⊎◌}
use Rattle.std.proofs.lemmas.Bool.{cases_lt, le-ltb, lt-ltb, cases_eq}
use Rattle.std.proofs.lemmas.List.{drop-drop, drop-take, take-take}
use Rattle.std.specs.Option.{option_map, option_or}
use Rattle.elf_extent.specs.Extent.{IsLeast, IsLowest, Never}
use Rattle.elf_extent.specs.declared.extent.Extent.{Extent}
use Rattle.elf_field.proofs.RecordTableLaws.{record_of_part}
use Rattle.elf_field.specs.Abi.{NHDR_SIZE, N_DESCSZ_AT, N_NAMESZ_AT, N_TYPE_AT, WORD_SIZE}
use Rattle.elf_field.specs.Entries.{word_at}
use Rattle.elf_field.specs.laws.Entries.{word_laws}
use Rattle.elf_field.specs.declared.number.Order.{Order}
use Rattle.elf_image_rules.specs.Rows.{FirstIn}
use Rattle.elf_image_rules.specs.Tables.{bytes_in}
use Rattle.elf_image_rules.specs.Rows.{Broken}
use Rattle.elf_table_lists.specs.Notes.{AreNotesWhole, desc_start, first_notes, note_at, note_end, note_offset, notes_in, NoteValue, descsz}
use Rattle.elf_table_lists.specs.Notes.{name_start, namesz, padded, IsCut, AtNote, IsUnclosedNoteName, name_last, note_desc_past_end}
use Rattle.elf_table_lists.specs.Notes.{note_name_past_end, note_rules, partial_note, unclosed_note_name}

-- Each note begins where the earlier one ends, and has at least a header, so the offsets of notes rise. Entry k of the list is the note at
-- offset k, if that offset is inside the content; otherwise there is no entry k. By induction on k; more steps than bytes change nothing
-- (`enough`).

-- a note has a header at least
pub end_above : (o : Order) (table : List ℕ) (x : ℕ) → x + NHDR_SIZE ≤ note_end o table x
unfolding note_end desc_start
end_above o table x = omega arith

-- each note begins where the one before it ends
pub place_next : (o : Order) (table : List ℕ) (x k : ℕ) → note_offset o table x (suc k) ≡ note_end o table (note_offset o table x k)
unfolding note_offset
place_next o table x zero = refl
place_next o table x (suc k) = place_next o table (note_end o table x) k

-- and not below an earlier one
pub place_rises : (o : Order) (table : List ℕ) (x j d : ℕ) → note_offset o table x j ≤ note_offset o table x (j + d)
place_rises o table x j zero = omega (arith, ap (note_offset o table x) (plus_none j)) where
  plus_none : (n : ℕ) → n + zero ≡ n
  plus_none n = omega arith
place_rises o table x j (suc d) =
    let before = place_rises o table x j d in
    let next = place_next o table x (j + d) in
    let above = end_above o table (note_offset o table x (j + d)) in
    let same : note_offset o table x (j + suc d) ≡ note_offset o table x (suc (j + d)) = ap (note_offset o table x) (plus_one j d) in
    omega arith where
      plus_one : (n m : ℕ) → n + suc m ≡ suc (n + m)
      plus_one n m = omega arith

pub place_above : (o : Order) (table : List ℕ) (x k : ℕ) → x ≤ note_offset o table x k
unfolding note_offset
place_above o table x zero = omega arith
place_above o table x (suc k) =
    let next = end_above o table x in
    let above = place_above o table (note_end o table x) k in
    omega arith

-- ---- the list of notes

none_past : (o : Order) (table : List ℕ) (n x : ℕ) → length table ≤ x → first_notes o table n x ≡ []
unfolding first_notes
none_past o table zero x past = refl
none_past o table (suc n) x past = rw (le-ltb x (length table) past) refl

-- one and the others
one_more : (o : Order) (table : List ℕ) (n x : ℕ) → x < length table →
    first_notes o table (suc n) x ≡ note_at o table x ∷ first_notes o table n (note_end o table x)
unfolding first_notes
one_more o table n x within = rw (lt-ltb x (length table) within) refl

-- a higher bound on their number changes nothing
enough : (o : Order) (table : List ℕ) (n m x : ℕ) → length table ≤ x + n → length table ≤ x + m →
    first_notes o table n x ≡ first_notes o table m x
enough o table zero m x low high = none_past o table zero x (omega arith) ∙ sym (none_past o table m x (omega arith))
enough o table (suc n) zero x low high = none_past o table (suc n) x (omega arith) ∙ sym (none_past o table zero x (omega arith))
enough o table (suc n) (suc m) x low high = elim (cases_lt x (length table)) [
  | inl within ↦
      let above = end_above o table x in
      let rest = enough o table n m (note_end o table x) (omega arith) (omega arith) in
      one_more o table n x within ∙ ap (λ (notes : List _). note_at o table x ∷ notes) rest ∙ sym (one_more o table m x within)
  | inr past ↦ none_past o table (suc n) x past ∙ sym (none_past o table (suc m) x past)
]

pub no_note_left : (o : Order) (table : List ℕ) (x : ℕ) → length table ≤ x → notes_in o table x ≡ []
unfolding notes_in
no_note_left o table x past = none_past o table (length table) x past

pub note_left : (o : Order) (table : List ℕ) (x : ℕ) → x < length table →
    notes_in o table x ≡ note_at o table x ∷ notes_in o table (note_end o table x)
unfolding notes_in
note_left o table x within =
    enough o table (length table) (suc (length table)) x (omega arith) (omega arith) ∙ one_more o table (length table) x within

-- where all notes are whole the first one is, and the others are
pub first_whole : (o : Order) (table : List ℕ) (x : ℕ) → AreNotesWhole o table x → x < length table → note_end o table x ≤ length table
unfolding note_offset
first_whole o table x whole within = whole zero within

pub rest_whole : (o : Order) (table : List ℕ) (x : ℕ) → AreNotesWhole o table x → AreNotesWhole o table (note_end o table x)
unfolding note_offset
rest_whole o table x whole k within = whole (suc k) within

-- entry k of the list is the note at offset k, if that is in the content
pub note_entry : (o : Order) (table : List ℕ) (x k : ℕ) → note_offset o table x k < length table →
    slice_get (notes_in o table x) k ≡ Some (note_at o table (note_offset o table x k))
unfolding note_offset
note_entry o table x zero within = ap (λ (notes : List _). slice_get notes zero) (note_left o table x within)
note_entry o table x (suc k) within =
    let low : x ≤ note_offset o table x (suc k) = place_above o table x (suc k) in
    ap (λ (notes : List _). slice_get notes (suc k)) (note_left o table x (omega arith)) ∙ note_entry o table (note_end o table x) k within

-- and there is no other
pub no_note_entry : (o : Order) (table : List ℕ) (x k : ℕ) → length table ≤ note_offset o table x k →
    slice_get (notes_in o table x) k ≡ None
unfolding note_offset
no_note_entry o table x zero past = ap (λ (notes : List _). slice_get notes zero) (no_note_left o table x past)
no_note_entry o table x (suc k) past = elim (cases_lt x (length table)) [
  | inl within ↦
      ap (λ (notes : List _). slice_get notes (suc k)) (note_left o table x within) ∙ no_note_entry o table (note_end o table x) k past
  | inr none ↦ ap (λ (notes : List _). slice_get notes (suc k)) (no_note_left o table x none)
]

-- If a note ends inside a content, it is the one at its place in the file. Its words, name and descriptor are parts of the content, and the
-- content is a part of the file; so offsets add up.

-- bytes of a part of the bytes
part_of_part : (b : List ℕ) (start len x n m k : ℕ) → x + n ≤ len → n ≡ m → start + x ≡ k →
    take n (drop x (take len (drop start b))) ≡ take m (drop k b)
part_of_part b start len x n m k within same place =
    let split : len ≡ x + (len - x) = omega arith in
    let rest : drop x (take len (drop start b)) ≡ take (len - x) (drop x (drop start b)) =
    ap (λ (n : ℕ). drop x (take n (drop start b))) split ∙ drop-take x (len - x) (drop start b) in
    ap (take n) rest ∙ take-take n (len - x) (drop x (drop start b)) (omega arith) ∙ ap (take n) (drop-drop x start b)
    ∙ ap (λ (j : ℕ). take n (drop j b)) place ∙ ap (λ (j : ℕ). take j (drop k b)) same

word_in_file : (o : Order) (b : List ℕ) (e : Extent) (x at : ℕ) → x + at + WORD_SIZE ≤ e.len →
    word_at o (bytes_in b e) (x + at) ≡ word_at o b (e.start + x + at)
word_in_file o b e x at within =
    let place : e.start + (x + at) ≡ e.start + x + at = omega arith in
    record_of_part word_laws o b e.start e.len (x + at) within ∙ ap (word_at o b) place

above_padded : (n : ℕ) → n ≤ padded n
above_padded n = omega arith

abbrev note : ℕ → List ℕ → List ℕ → NoteValue
note kind name desc = record { note_type = kind; name = name; desc = desc }

same_note : (kind other : ℕ) (name named desc held : List ℕ) → kind ≡ other → name ≡ named → desc ≡ held →
    note kind name desc ≡ note other named held
same_note kind other name named desc held kinds names descs =
    ap (λ (k : ℕ). note k name desc) kinds ∙ ap (λ (n : List ℕ). note other n desc) names ∙ ap (λ (d : List ℕ). note other named d) descs

pub note_in_file : (o : Order) (b : List ℕ) (e : Extent) (x : ℕ) → note_end o (bytes_in b e) x ≤ e.len →
    note_at o (bytes_in b e) x ≡ note_at o b (e.start + x)
unfolding note_at namesz descsz note_end desc_start
note_in_file o b e x within =
    let t : List ℕ = bytes_in b e in
    let name_low = above_padded (namesz o t x) in
    let desc_low = above_padded (descsz o t x) in
    let names : namesz o t x ≡ namesz o b (e.start + x) = word_in_file o b e x N_NAMESZ_AT (omega arith) in
    let descs : descsz o t x ≡ descsz o b (e.start + x) = word_in_file o b e x N_DESCSZ_AT (omega arith) in
    let less : namesz o t x - 1 ≡ namesz o b (e.start + x) - 1 = ap (λ (n : ℕ). n - 1) names in
    let first : e.start + name_start x ≡ name_start (e.start + x) = omega arith in
    let pads : padded (namesz o t x) ≡ padded (namesz o b (e.start + x)) = ap padded names in
    let second : e.start + desc_start o t x ≡ desc_start o b (e.start + x) = omega arith in
    same_note _ _ _ _ _ _ (word_in_file o b e x N_TYPE_AT (omega arith))
    (part_of_part b e.start e.len (name_start x) (namesz o t x - 1) (namesz o b (e.start + x) - 1) (name_start (e.start + x))
    (omega arith) less first)
    (part_of_part b e.start e.len (desc_start o t x) (descsz o t x) (descsz o b (e.start + x)) (desc_start o b (e.start + x))
    (omega arith) descs second)

-- Notes are tested one by one: all so far are whole, and the lowest name of theirs that is not closed is kept (`AreValidated`,
-- `validated_more`). A note that is cut short is the last one and breaks one of rules 59 to 61, which is the fault (`cut_fault`). If all
-- are whole, the kept name breaks rule 62, or no rule is broken; conversely, rule 61 makes all notes whole.

-- where one of the first n notes has a name that isn't closed, the last byte of it
abbrev pub UnclosedBefore : Order → List ℕ → ℕ → ℕ → Type 0
UnclosedBefore o table n =
    λ y. (k : ℕ) × (k < n) × IsUnclosedNoteName o table (note_offset o table 0 k) × (y ≡ name_last o table (note_offset o table 0 k))

-- the notes before offset x are whole, and this is the lowest name of theirs that isn't closed
pub record AreValidated (o : Order) (table : List ℕ) (x : ℕ) (unclosed : Option ℕ) : Type 0 where
  pub count : ℕ
  pub here : note_offset o table 0 count ≡ x
  pub inside : x ≤ length table
  pub whole : (k : ℕ) → k < count → note_end o table (note_offset o table 0 k) ≤ length table
  pub lowest : IsLowest (UnclosedBefore o table count) unclosed

pub none_validated : (o : Order) (table : List ℕ) → AreValidated o table 0 None
unfolding note_offset
none_validated o table = record {
  count = 0;
  here = refl;
  inside = omega arith;
  whole = λ k lt. absurd (omega arith);
  lowest = λ y here. (let lt = here.1 in omega arith);
}

-- ---- a note that is cut short

-- a note is one of those before x, or begins at x or after it
later : (o : Order) (table : List ℕ) (x : ℕ) (unclosed : Option ℕ) (are : AreValidated o table x unclosed) (k : ℕ) → are.count ≤ k →
    x ≤ note_offset o table 0 k
later o table x unclosed are k le =
    let rises = place_rises o table 0 are.count (k - are.count) in
    let same : note_offset o table 0 (are.count + (k - are.count)) ≡ note_offset o table 0 k = ap (note_offset o table 0) (omega arith) in
    let here = are.here in
    omega arith

-- and where the one at x is cut short none begins after it
at_cut : (o : Order) (table : List ℕ) (x : ℕ) (unclosed : Option ℕ) (are : AreValidated o table x unclosed) →
    length table < note_end o table x →
    (k : ℕ) → note_offset o table 0 k < length table → are.count ≤ k → note_offset o table 0 k ≡ x
at_cut o table x unclosed are cut k begins le = elim (cases_eq are.count k) [
  | inl same ↦ sym (ap (note_offset o table 0) same) ∙ are.here
  | inr other ↦
      let rises = place_rises o table 0 (suc are.count) (k - suc are.count) in
      let same : note_offset o table 0 (suc are.count + (k - suc are.count)) ≡ note_offset o table 0 k =
      ap (note_offset o table 0) (omega arith) in
      let next = place_next o table 0 are.count ∙ ap (note_end o table) are.here in
      absurd (omega arith)
]

-- a rule that is broken at none of the notes before x, nor at x, is broken at none
never_at : (o : Order) (table : List ℕ) (x : ℕ) (unclosed : Option ℕ) (P : ℕ → Type 0) (place : ℕ → ℕ) → AreValidated o table x unclosed →
    length table < note_end o table x → ((y : ℕ) → note_end o table y ≤ length table → P y → ⊥) → (P x → ⊥) → Never (AtNote o table P place)
never_at o table x unclosed P place are cut past other y broken = elim (cases_lt broken.0 are.count) [
  | inl before ↦ past (note_offset o table 0 broken.0) (are.whole broken.0 before) broken.2
  | inr le ↦ other (subst P (at_cut o table x unclosed are cut broken.0 broken.1 le) broken.2)
]

-- and one that is broken at x is broken there first
least_at : (o : Order) (table : List ℕ) (x : ℕ) (unclosed : Option ℕ) (P : ℕ → Type 0) (place : ℕ → ℕ) → AreValidated o table x unclosed →
    x < length table →
    length table < note_end o table x → ((y : ℕ) → note_end o table y ≤ length table → P y → ⊥) → P x →
    IsLeast (AtNote o table P place) (place x)
least_at o table x unclosed P place are within cut past holds = record {
  holds = (are.count, rw are.here within, subst P (sym are.here) holds, ap place (sym are.here));
  lowest = λ y broken. elim (cases_lt broken.0 are.count) [
    | inl before ↦ absurd (past (note_offset o table 0 broken.0) (are.whole broken.0 before) broken.2)
    | inr le ↦
        let same = broken.3 ∙ ap place (at_cut o table x unclosed are cut broken.0 broken.1 le) in
        omega arith
  ];
}

header_whole : (o : Order) (table : List ℕ) (y : ℕ) → note_end o table y ≤ length table → length table < y + NHDR_SIZE → ⊥
header_whole o table y whole cut = let above = end_above o table y in omega arith

desc_below : (o : Order) (table : List ℕ) (y : ℕ) → desc_start o table y ≤ note_end o table y
unfolding note_end
desc_below o table y = omega arith

header_below : (o : Order) (table : List ℕ) (y : ℕ) → y + NHDR_SIZE ≤ desc_start o table y
unfolding desc_start
header_below o table y = omega arith

name_whole : (o : Order) (table : List ℕ) (y : ℕ) → note_end o table y ≤ length table → length table < desc_start o table y → ⊥
name_whole o table y whole cut = let below = desc_below o table y in omega arith

note_whole : (o : Order) (table : List ℕ) (y : ℕ) → note_end o table y ≤ length table → length table < note_end o table y → ⊥
note_whole o table y whole cut = omega arith

pub cut_fault : (o : Order) (table : List ℕ) (start x : ℕ) (unclosed : Option ℕ) (broken : Broken ℕ) → AreValidated o table x unclosed →
    x < length table →
    IsCut o table start x broken → FirstIn (note_rules o table start) (Some (broken.rule, broken.at))
unfolding note_rules
cut_fault o table start x unclosed broken are within (inl (short, rule, at)) =
    let cut : length table < note_end o table x = (let above = end_above o table x in let d = desc_below o table x in omega arith) in
    inl (rule, rw at (least_at o table x unclosed _ (λ y. start + y) are within cut (header_whole o table) short))
cut_fault o table start x unclosed broken are within (inr (inl (header, short, rule, at))) =
    let cut : length table < note_end o table x = (let d = desc_below o table x in omega arith) in
    inr (
      never_at o table x unclosed _ (λ y. start + y) are cut (header_whole o table) (λ other. omega arith),
      inl (rule, rw at (least_at o table x unclosed _ (λ y. start + y + N_NAMESZ_AT) are within cut (name_whole o table) short)),
    )
cut_fault o table start x unclosed broken are within (inr (inr (name, cut, rule, at))) =
    let header = header_below o table x in
    inr (
      never_at o table x unclosed _ (λ y. start + y) are cut (header_whole o table) (λ other. omega arith),
      inr (
        never_at o table x unclosed _ (λ y. start + y + N_NAMESZ_AT) are cut (name_whole o table) (λ other. omega arith),
        inl (rule, rw at (least_at o table x unclosed _ (λ y. start + y + N_DESCSZ_AT) are within cut (note_whole o table) cut)),
      ),
    )

-- ---- a note that is whole

-- the last byte of a whole note's name is in it
last_inside : (o : Order) (table : List ℕ) (y : ℕ) → IsUnclosedNoteName o table y →
    (y ≤ name_last o table y) × (name_last o table y < note_end o table y)
unfolding name_last note_end desc_start
last_inside o table y unclosed = let some = unclosed.0 in (omega arith, omega arith)

-- the notes before x have their names before x
last_before : (o : Order) (table : List ℕ) (x : ℕ) (unclosed : Option ℕ) (are : AreValidated o table x unclosed) (y : ℕ) →
    UnclosedBefore o table are.count y → y < x
last_before o table x unclosed are y here =
    let k = here.0 in
    let inside = last_inside o table (note_offset o table 0 k) here.2 in
    let next = place_next o table 0 k in
    let rises = place_rises o table 0 (suc k) (are.count - suc k) in
    let lt = here.1 in
    let same : note_offset o table 0 (suc k + (are.count - suc k)) ≡ note_offset o table 0 are.count =
    ap (note_offset o table 0) (omega arith) in
    let at = are.here in
    let is = here.3 in
    omega arith

-- of one note more
one_further : (o : Order) (table : List ℕ) (n y : ℕ) → UnclosedBefore o table (suc n) y →
    UnclosedBefore o table n y ⊎ (IsUnclosedNoteName o table (note_offset o table 0 n) × (y ≡ name_last o table (note_offset o table 0 n)))
one_further o table n y here = elim (cases_lt here.0 n) [
  | inl before ↦ inl (here.0, before, here.2, here.3)
  | inr after ↦
      let lt = here.1 in
      let same : here.0 ≡ n = omega arith in
      inr (subst (λ (k : ℕ). IsUnclosedNoteName o table (note_offset o table 0 k) × (y ≡ name_last o table (note_offset o table 0 k))) same
      (here.2, here.3))
]

wider : (o : Order) (table : List ℕ) (n y : ℕ) → UnclosedBefore o table n y → UnclosedBefore o table (suc n) y
wider o table n y here = (here.0, (let lt = here.1 in omega arith), here.2, here.3)

-- what the note at x reports
abbrev pub FindsUnclosed : Order → List ℕ → ℕ → Option ℕ → Type 0
FindsUnclosed o table x found = MatchOption found (IsUnclosedNoteName o table x → ⊥)
    (λ last. IsUnclosedNoteName o table x × (last ≡ name_last o table x) × (last < length table))

lowest_more : (o : Order) (table : List ℕ) (x : ℕ) (unclosed found : Option ℕ) (are : AreValidated o table x unclosed) →
    FindsUnclosed o table x found →
    IsLowest (UnclosedBefore o table (suc are.count)) (option_or unclosed found)
lowest_more o table x None None are known = λ y here. elim (one_further o table are.count y here) [
  | inl before ↦ are.lowest y before
  | inr last ↦ known (subst (IsUnclosedNoteName o table) are.here last.0)
]
lowest_more o table x None (Some last) are known = record {
  holds = (
    are.count,
    omega arith,
    subst (IsUnclosedNoteName o table) (sym are.here) known.0,
    known.1 ∙ ap (name_last o table) (sym are.here),
  );
  lowest = λ y here. elim (one_further o table are.count y here) [
    | inl before ↦ absurd (are.lowest y before)
    | inr same ↦ (let e = same.1 ∙ ap (name_last o table) are.here in let f = known.1 in omega arith)
  ];
}
lowest_more o table x (Some low) found are known = record {
  holds = wider o table are.count low are.lowest.holds;
  lowest = λ y here. elim (one_further o table are.count y here) [
    | inl before ↦ are.lowest.lowest y before
    | inr same ↦
        let below = last_before o table x (Some low) are low are.lowest.holds in
        let inside = last_inside o table x (subst (IsUnclosedNoteName o table) are.here same.0) in
        let e = same.1 ∙ ap (name_last o table) are.here in
        omega arith
  ];
}

pub validated_more : (o : Order) (table : List ℕ) (x : ℕ) (unclosed found : Option ℕ) → AreValidated o table x unclosed →
    note_end o table x ≤ length table → FindsUnclosed o table x found → AreValidated o table (note_end o table x) (option_or unclosed found)
validated_more o table x unclosed found are whole known = record {
  count = suc are.count;
  here = place_next o table 0 are.count ∙ ap (note_end o table) are.here;
  inside = whole;
  whole = λ k lt. elim (cases_lt k are.count) [
    | inl before ↦ are.whole k before
    | inr after ↦ (let same : k ≡ are.count = omega arith in rw (same, are.here) whole)
  ];
  lowest = lowest_more o table x unclosed found are known;
}

-- ---- at the end

-- all notes are among those validated
all_validated : (o : Order) (table : List ℕ) (x : ℕ) (unclosed : Option ℕ) (are : AreValidated o table x unclosed) → length table ≤ x →
    (k : ℕ) →
    note_offset o table 0 k < length table → k < are.count
all_validated o table x unclosed are end k begins = elim (cases_lt k are.count) [
  | inl before ↦ before
  | inr le ↦ (let at = later o table x unclosed are k le in absurd (omega arith))
]

never_broken : (o : Order) (table : List ℕ) (x : ℕ) (unclosed : Option ℕ) (P : ℕ → Type 0) (place : ℕ → ℕ) →
    AreValidated o table x unclosed →
    length table ≤ x → ((y : ℕ) → note_end o table y ≤ length table → P y → ⊥) → Never (AtNote o table P place)
never_broken o table x unclosed P place are end past y broken =
    past (note_offset o table 0 broken.0) (are.whole broken.0 (all_validated o table x unclosed are end broken.0 broken.1)) broken.2

begins_inside : (o : Order) (table : List ℕ) (x : ℕ) (unclosed : Option ℕ) (are : AreValidated o table x unclosed) (k : ℕ) → k < are.count →
    note_offset o table 0 k < length table
begins_inside o table x unclosed are k lt =
    let whole = are.whole k lt in let above = end_above o table (note_offset o table 0 k) in omega arith

unclosed_rule : (o : Order) (table : List ℕ) (start x : ℕ) (unclosed : Option ℕ) → AreValidated o table x unclosed → length table ≤ x →
    IsLowest (unclosed_note_name o table start) (option_map (λ last. start + last) unclosed)
unclosed_rule o table start x None are end = λ y broken.
    are.lowest (name_last o table (note_offset o table 0 broken.0))
    (broken.0, all_validated o table x None are end broken.0 broken.1, broken.2, refl)
unclosed_rule o table start x (Some low) are end = record {
  holds =
      (let here = are.lowest.holds in
      (here.0, begins_inside o table x (Some low) are here.0 here.1, here.2, ap (λ (n : ℕ). start + n) here.3));
  lowest = λ y broken.
      (let le = are.lowest.lowest (name_last o table (note_offset o table 0 broken.0))
      (broken.0, all_validated o table x (Some low) are end broken.0 broken.1, broken.2, refl) in
      let is = broken.3 in omega arith);
}

whole_rules : (o : Order) (table : List ℕ) (start x : ℕ) (unclosed : Option ℕ) → AreValidated o table x unclosed → length table ≤ x →
    Never (partial_note o table start) × Never (note_name_past_end o table start) × Never (note_desc_past_end o table start)
whole_rules o table start x unclosed are end = (
  never_broken o table x unclosed _ (λ y. start + y) are end (header_whole o table),
  never_broken o table x unclosed _ (λ y. start + y + N_NAMESZ_AT) are end (name_whole o table),
  never_broken o table x unclosed _ (λ y. start + y + N_DESCSZ_AT) are end (note_whole o table),
)

pub closed_notes : (o : Order) (table : List ℕ) (start x : ℕ) → AreValidated o table x None → length table ≤ x →
    FirstIn (note_rules o table start) None
unfolding note_rules
closed_notes o table start x are end =
    let whole = whole_rules o table start x None are end in
    (whole.0, (whole.1, (whole.2, (unclosed_rule o table start x None are end, tt))))

pub unclosed_fault : (o : Order) (table : List ℕ) (start x last : ℕ) → AreValidated o table x (Some last) → length table ≤ x →
    FirstIn (note_rules o table start) (Some (62, start + last))
unfolding note_rules
unclosed_fault o table start x last are end =
    let whole = whole_rules o table start x (Some last) are end in
    inr (whole.0, inr (whole.1, inr (whole.2, inl (refl, unclosed_rule o table start x (Some last) are end))))

-- ---- notes that break no rule

pub sound_notes : (o : Order) (table : List ℕ) (start : ℕ) → FirstIn (note_rules o table start) None → AreNotesWhole o table 0
unfolding note_rules
sound_notes o table start sound k begins = elim (cases_lt (length table) (note_end o table (note_offset o table 0 k))) [
  | inl cut ↦ absurd (sound.1.1.0 _ (k, begins, cut, refl))
  | inr whole ↦ whole
]
