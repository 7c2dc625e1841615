-- Lists of dynamic entries, relocations and group members, read from the bytes of their sections.
use Rattle.std.proofs.Common.{◌≡◌, ℕ, ◌<◌, ◌≤◌, true, false, Option, None, Some, List, length, get_or, inl, inr, sym, ◌∙◌, ap, take, arith}
use Rattle.std.proofs.Common.{zero-add, Bool, refl, ◌+◌, ◌*◌}
use Rattle.std.specs.List.{position_or_len}
use Rattle.std.proofs.lemmas.Bool.{cases_lt, false_from_ne_true, cases_eq}
use Rattle.std.proofs.lemmas.Bool.Decides.{Decides-int_eq}
use Rattle.std.proofs.lemmas.List.FromFn.{get_or-map-range_with_len, length-map-range_with_len, take-map-range_with_len}
use Rattle.std.proofs.lemmas.List.Sums.{position_or_len_is}
use Rattle.std.specs.Prelude.{◌%◌}
use Rattle.std.specs.Ordering.{nat_cmp}
use Rattle.std.specs.BTreeSet.{BTreeSet}
use Rattle.elf_extent.specs.Extent.{IsLowest, IsLeast, Never}
use Rattle.elf_field.specs.Abi.{DT_NULL, SHT_GROUP, WORD_SIZE}
use Rattle.elf_field.specs.declared.number.Order.{Order}
use Rattle.elf_image_rules.proofs.Public.{FirstIn-after, FirstIn-front}
use Rattle.elf_image_rules.specs.Rows.{AtEntry, FirstIn}
use Rattle.elf_table_lists.specs.Dynamic.{IsNullEntry, dynamic_array_of, dynamic_entries, dynamic_entry, dynamic_entry_count, is_null_entry}
use Rattle.elf_table_lists.specs.Dynamic.{no_dynamic_entry}
use Rattle.elf_table_lists.specs.Groups.{group_front_rules, group_rules, group_section_rules, member, member_count, members_in}
use Rattle.elf_table_lists.specs.Groups.{IsNamedBefore, IsUnfit, IsWrongMember, wrong_member, MembersAscend}
use Rattle.elf_table_lists.specs.Relocations.{no_relocation_entry, relocation_count, relocation_in, relocations_in}
use Rattle.elf_table_symbols.proofs.Public.{type_of_group}
use Rattle.elf_table_symbols.specs.Sections.{Sections, content, order, own_rules, section, Below}
use Rattle.elf_table_symbols.specs.Symbols.{symbol_table_rules}
use Rattle.elf_table_symbols.specs.declared.table_section.TableKind.TheVariants.{SectionGroup}
use Rattle.std.specs.BTreeSet as sorted

-- The list of entries has n entries, and entry j is `dynamic_entry` of j. If `end` is the index of the first DT_NULL, or the count without
-- one, the first `end` entries are the dynamic array (`dynamic_array_is`). The lowest of them with a property is the lowest entry with it
-- that has no DT_NULL up to it (`lowest_before_end`).

pub length_dynamic : (o : Order) (table : List ℕ) (n : ℕ) → length (dynamic_entries o table n) ≡ n
unfolding dynamic_entries
length_dynamic o table n = length-map-range_with_len (dynamic_entry o table) 0 n

pub dynamic_get : (o : Order) (table : List ℕ) (n j : ℕ) → j < n →
    get_or (dynamic_entries o table n) j no_dynamic_entry ≡ dynamic_entry o table j
unfolding dynamic_entries
dynamic_get o table n j within = get_or-map-range_with_len (dynamic_entry o table) 0 n j j no_dynamic_entry within (zero-add j)

-- this is the index of the first entry that ends the array, or the number of entries
pub record IsEnd (o : Order) (table : List ℕ) (end : ℕ) : Type 0 where
  pub within : end ≤ dynamic_entry_count table
  pub before : (k : ℕ) → k < end → IsNullEntry (dynamic_entry o table k) → ⊥
  pub found : end < dynamic_entry_count table → IsNullEntry (dynamic_entry o table end)

take_entries : (o : Order) (table : List ℕ) (n end : ℕ) → end ≤ n → take end (dynamic_entries o table n) ≡ dynamic_entries o table end
unfolding dynamic_entries
take_entries o table n end within = take-map-range_with_len (dynamic_entry o table) 0 n end within

first_null_at : (o : Order) (table : List ℕ) (end : ℕ) → IsEnd o table end →
    position_or_len is_null_entry (dynamic_entries o table (dynamic_entry_count table)) ≡ end
first_null_at o table end is =
    let n = dynamic_entry_count table in
    let xs = dynamic_entries o table n in
    let long : length xs ≡ n = length_dynamic o table n in
    let within : end ≤ length xs = (let le = is.within in omega arith) in
    let other : (k : ℕ) → k < end → is_null_entry (get_or xs k no_dynamic_entry) ≡ false =
    λ k lt. (let inside : k < n = (let le = is.within in omega arith) in
    rw (dynamic_get o table n k inside)
    (false_from_ne_true _ (λ test. is.before k lt ((Decides-int_eq (dynamic_entry o table k).d_tag DT_NULL).0 test)))) in
    let here : end < length xs → is_null_entry (get_or xs end no_dynamic_entry) ≡ true =
    λ lt. (let inside : end < n = omega arith in
    rw (dynamic_get o table n end inside) ((Decides-int_eq (dynamic_entry o table end).d_tag DT_NULL).1 (is.found inside))) in
    position_or_len_is is_null_entry xs end no_dynamic_entry within other here

-- the entries before it are the dynamic array
pub dynamic_array_is : (f : Sections) (i : ℕ) (o : Order) (table : List ℕ) (end : ℕ) → o ≡ order f → table ≡ content f i →
    IsEnd o table end →
    dynamic_entries o table end ≡ dynamic_array_of f i
unfolding dynamic_array_of
dynamic_array_is f i o table end ordered read is =
    sym (take_entries o table (dynamic_entry_count table) end is.within)
    ∙ ap (λ k. take k (dynamic_entries o table (dynamic_entry_count table))) (sym (first_null_at o table end is))
    ∙ ap (λ (t : List ℕ). take (position_or_len is_null_entry (dynamic_entries o t (dynamic_entry_count t)))
    (dynamic_entries o t (dynamic_entry_count t))) read
    ∙ ap (λ (p : Order). take (position_or_len is_null_entry (dynamic_entries p (content f i) (dynamic_entry_count (content f i))))
    (dynamic_entries p (content f i) (dynamic_entry_count (content f i)))) ordered

-- the lowest offset of an entry with P before that index is the lowest one of an entry with P that no entry before it, nor itself, ends
pub lowest_before_end : (n end : ℕ) (Null P : ℕ → Type 0) (place : ℕ → ℕ) (found : Option ℕ) → end ≤ n → ((k : ℕ) → k < end → Null k → ⊥) →
    (end < n → Null end) → IsLowest (AtEntry end P place) found → IsLowest (AtEntry n (λ j. ((k : ℕ) → k ≤ j → ¬ Null k) × P j) place) found
lowest_before_end n end Null P place found within before null lowest = lower found lowest where
  inside : (x : ℕ) → AtEntry n (λ j. ((k : ℕ) → k ≤ j → ¬ Null k) × P j) place x → AtEntry end P place x
  inside x (j, below, clean, at) = elim (cases_lt j end) [
    | inl lt ↦ (j, lt, clean.1, at)
    | inr past ↦ (let le : end ≤ j = past in let lt : end < n = omega arith in absurd (clean.0 end le (null lt)))
  ]

  lower : (found : Option ℕ) → IsLowest (AtEntry end P place) found →
      IsLowest (AtEntry n (λ j. ((k : ℕ) → k ≤ j → ¬ Null k) × P j) place) found
  lower None never = λ x here. never x (inside x here)
  lower (Some x) least = record {
    holds = (let (j, lt, holds, at) = least.holds in (j, (let le = within in omega arith), ((λ k le. before k (omega arith)), holds), at));
    lowest = λ y here. least.lowest y (inside y here);
  }

-- The relocations of a content, by index.

pub length_relocations : (addends : Bool) (o : Order) (table : List ℕ) →
    length (relocations_in addends o table) ≡ relocation_count addends table
unfolding relocations_in
length_relocations addends o table = length-map-range_with_len (relocation_in addends o table) 0 (relocation_count addends table)

pub relocation_get : (addends : Bool) (o : Order) (table : List ℕ) (j : ℕ) → j < relocation_count addends table →
    get_or (relocations_in addends o table) j no_relocation_entry ≡ relocation_in addends o table j
unfolding relocations_in
relocation_get addends o table j within =
    get_or-map-range_with_len (relocation_in addends o table) 0 (relocation_count addends table) j j no_relocation_entry within (zero-add j)

-- The list of a group's members has `member_count` entries, and entry j is `member` of j. A group that breaks no rule has type GROUP, is
-- whole words long, and is not empty: each is one of its rules (`sound_group`).

pub length_members : (o : Order) (words : List ℕ) → length (members_in o words) ≡ member_count words
unfolding members_in
length_members o words = length-map-range_with_len (member o words) 0 (member_count words)

pub member_get : (o : Order) (words : List ℕ) (j : ℕ) → j < member_count words → get_or (members_in o words) j 0 ≡ member o words j
unfolding members_in
member_get o words j within = get_or-map-range_with_len (member o words) 0 (member_count words) j j 0 within (zero-add j)

-- ---- a group that breaks no rule

-- its section is of the type of groups, whole words long, and not empty
pub record IsWhole (f : Sections) (i : ℕ) : Type 0 where
  pub typed : (section f i).sh_type ≡ SHT_GROUP
  pub sized : (section f i).sh_size % WORD_SIZE ≡ 0
  pub some : 0 < (section f i).sh_size

pub sound_group : (f : Sections) (i : ℕ) → FirstIn (group_section_rules f i) None → IsWhole f i
unfolding group_section_rules own_rules group_rules group_front_rules
sound_group f i sound =
    let own = FirstIn-front (own_rules SectionGroup f i) _ sound in
    let rest = FirstIn-after (symbol_table_rules f (section f i).sh_link) _ (FirstIn-after (own_rules SectionGroup f i) _ sound) in
    let front = FirstIn-front (group_front_rules f i) _ rest in
    record {
      typed = elim (cases_eq (section f i).sh_type SHT_GROUP)
          [ inl same ↦ same | inr other ↦ absurd (own.0 _ ((λ is. other (type_of_group _ is)), refl)) ];
      sized = elim (cases_eq ((section f i).sh_size % WORD_SIZE) 0) [ inl same ↦ same | inr other ↦ absurd (own.1.1.0 _ (other, refl)) ];
      some = elim (cases_eq (section f i).sh_size 0) [ inl none ↦ absurd (front.0 _ (none, refl)) | inr other ↦ omega arith ];
    }

-- Members that ascend are named once, so the lowest that cannot be in the group is the lowest wrong one (`ascending_lowest`). The lowest
-- wrong member gives the lowest offset of rule 58, because offsets rise with the index (`wrong_member_row`). `AreNamed` and `AreRight`
-- state what the search keeps if the members do not ascend.

-- these are the first j members
pub record AreNamed (o : Order) (words : List ℕ) (j : ℕ) (seen : BTreeSet ℕ) : Type 0 where
  pub each : (k : ℕ) → k < j → sorted.contains nat_cmp seen (member o words k) ≡ true
  pub only : (m : ℕ) → sorted.contains nat_cmp seen m ≡ true → IsNamedBefore o words j m

-- where the members ascend the lowest that can't be in the group is the lowest wrong one
pub ascending_lowest : (f : Sections) (i : ℕ) (found : Option ℕ) →
    MembersAscend (order f) (content f i) →
    IsLowest (Below (member_count (content f i)) (λ j. IsUnfit f i (member (order f) (content f i) j))) found →
    IsLowest (Below (member_count (content f i)) (IsWrongMember f i)) found
ascending_lowest f i None above never = λ j wrong. elim wrong.1 [
  | inl unfit ↦ never j (wrong.0, unfit)
  | inr named ↦ (let lt = above named.0 j named.1 wrong.0 in let same = named.2 in absurd (omega arith))
]
ascending_lowest f i (Some x) above least = record {
  holds = (least.holds.0, inl least.holds.1);
  lowest = λ j wrong. elim wrong.1 [
    | inl unfit ↦ least.lowest j (wrong.0, unfit)
    | inr named ↦ (let lt = above named.0 j named.1 wrong.0 in let same = named.2 in absurd (omega arith))
  ];
}

-- and none of the first j members is wrong
pub record AreRight (f : Sections) (i j : ℕ) (seen : BTreeSet ℕ) : Type 0 where
  pub named : AreNamed (order f) (content f i) j seen
  pub right : (k : ℕ) → k < j → IsWrongMember f i k → ⊥

-- from the lowest wrong member to its offset
pub wrong_member_row : (f : Sections) (i j : ℕ) → IsLowest (Below (member_count (content f i)) (IsWrongMember f i)) (Some j) →
    IsLeast (wrong_member f i) ((section f i).sh_offset + WORD_SIZE * (j + 1))
wrong_member_row f i j least = record {
  holds = (j, least.holds.0, least.holds.1, refl);
  lowest = λ y other. (let le = least.lowest other.0 (other.1, other.2) in let at = other.3 in omega arith);
}

pub no_wrong_member : (f : Sections) (i : ℕ) → IsLowest (Below (member_count (content f i)) (IsWrongMember f i)) None →
    Never (wrong_member f i)
no_wrong_member f i never = λ y other. never other.0 (other.1, other.2)
