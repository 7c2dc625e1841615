-- Runs of the rules of relocatable files find what the whole list of rules finds.
use Rattle.std.proofs.Common.{None, ◌≡◌, ℕ, List, [], ◌++◌, Option, Some, Result, Ok, Err, sym, subst, ◌+◌, ◌-◌, ◌<◌, true, false, inl}
use Rattle.std.proofs.Common.{refl, ◌≢◌, ◌⊎◌, inr, Bool, arith, ◌∷◌, suc, ap, ◌∙◌}
use Rattle.std.specs.Prelude.{IfErr, IfOk, filter}
use Rattle.std.specs.Result.{IsErrAnd}
use Rattle.std.specs.List.{range_with_len}
use Rattle.std.proofs.lemmas.Bool.{cases_lt}
use Rattle.elf_extent.proofs.Public.{IsLowest-lower, IsLowest-same}
use Rattle.elf_extent.specs.Extent.{IsLeast, Never, IsLowest, lower_of}
use Rattle.elf_field.specs.Abi.{SHT_GROUP}
use Rattle.elf_image_rules.proofs.Public.{FirstIn-after, FirstIn-front, FirstIn-later, FirstIn-sooner}
use Rattle.elf_image_rules.specs.Rows.{FirstIn, Ruled}
use Rattle.elf_image_stream.specs.declared.fault.BytesFault.TheVariants.{OutOfMemory, Rule}
use Rattle.elf_image_stream.specs.declared.fault.BytesFault.{BytesFault}
use Rattle.elf_object_layout.specs.SectionsLeftOut.{left_out, symbol_table, is_kept}
use Rattle.elf_object_reader.specs.Denotes.{kept, body_kind}
use Rattle.elf_object_reader.specs.FileRules.{file_rules, front_rules, reference_rules, rules_after_front, rules_of_bodies}
use Rattle.elf_object_reader.specs.FileRules.{rules_of_symbols}
use Rattle.elf_object_reader.specs.FileRules.{symbol_outside_rules, symbol_rules_in, rules_of_body, symbol_outside, IsMemberBefore}
use Rattle.elf_object_reader.specs.FileRules.{wrong_group_member_before, wrong_group_member_of, AreMarks}
use Rattle.elf_object_layout.specs.declared.left_out.LeftOut.{LeftOut}
use Rattle.elf_table_symbols.specs.Sections.{Sections, count, section}
use Rattle.elf_table_symbols.specs.Symbols.{symbol_table_rules}
use Rattle.elf_table_symbols.specs.Verdicts.{IsTestedAfter}

-- The runs of rules of a file that breaks none: a list without a fault has none in its first run, and none in the rest, so each run has
-- none.

pub front_sound : (f : Sections) → FirstIn (file_rules f) None → FirstIn (front_rules f) None
unfolding file_rules
front_sound f clean = FirstIn-front (front_rules f) _ clean

after_sound : (f : Sections) → FirstIn (file_rules f) None → FirstIn (rules_after_front (left_out f) f (symbol_table f)) None
unfolding file_rules
after_sound f clean = FirstIn-after (front_rules f) _ clean

pub symbol_run_sound : (f : Sections) → FirstIn (file_rules f) None → FirstIn (symbol_rules_in (left_out f) f (symbol_table f)) None
unfolding rules_after_front
symbol_run_sound f clean = FirstIn-front (symbol_rules_in (left_out f) f (symbol_table f)) _ (after_sound f clean)

pub symbols_sound : (f : Sections) → FirstIn (file_rules f) None → FirstIn (rules_of_symbols f (symbol_table f)) None
unfolding symbol_rules_in
symbols_sound f clean = FirstIn-front (rules_of_symbols f (symbol_table f)) _ (symbol_run_sound f clean)

pub places_sound : (f : Sections) → FirstIn (file_rules f) None → FirstIn (symbol_outside_rules (left_out f) f (symbol_table f)) None
unfolding symbol_rules_in
places_sound f clean = FirstIn-after (rules_of_symbols f (symbol_table f)) _ (symbol_run_sound f clean)

pub all_bodies_sound : (f : Sections) → FirstIn (file_rules f) None → FirstIn (rules_of_bodies f (kept (left_out f) f)) None
unfolding rules_after_front
all_bodies_sound f clean =
    FirstIn-front (rules_of_bodies f (kept (left_out f) f)) _
    (FirstIn-after (symbol_rules_in (left_out f) f (symbol_table f)) _ (after_sound f clean))

pub references_sound : (f : Sections) → FirstIn (file_rules f) None → FirstIn (reference_rules (left_out f) f) None
unfolding rules_after_front
references_sound f clean =
    FirstIn-after (rules_of_bodies f (kept (left_out f) f)) _
    (FirstIn-after (symbol_rules_in (left_out f) f (symbol_table f)) _ (after_sound f clean))

-- Verdicts of runs of rules, joined, by cases on the result. After a run without a fault, the verdict of the next run is that of both. For
-- all rules of a file, a fault of the first run or of a later one is the file's. Out of memory is shown to be a right verdict only if the
-- first run has no fault.

-- what a call answers that tests these rules and makes nothing
abbrev pub IsVerdict : List {1} (Ruled ℕ) → Result (Unit {0}) BytesFault → Type 0
IsVerdict rules result = IsTestedAfter [] rules (λ _. Unit {0}) result

-- the first rule that is broken, as a verdict
pub verdict_found : (rules : List {1} (Ruled ℕ)) (number at : ℕ) (result : Result (Unit {0}) BytesFault) →
    FirstIn rules (Some (number, at)) →
    IsErrAnd result (λ error. error ≡ Rule number at) → IsVerdict rules result
verdict_found rules number at (Ok value) found same = absurd same
verdict_found rules number at (Err error) found same = subst (λ (e : BytesFault). IsVerdict rules (Err e)) (sym same) found

-- after a run without a fault is the verdict of the rules after it
pub verdict_later : (xs ys : List {1} (Ruled ℕ)) (result : Result (Unit {0}) BytesFault) → FirstIn xs None → IsVerdict ys result →
    IsVerdict (xs ++ ys) result
verdict_later xs ys (Ok value) clean (found, unit) = (FirstIn-later xs ys None clean found, tt)
verdict_later xs ys (Err (Rule number at)) clean found = FirstIn-later xs ys (Some (number, at)) clean found
verdict_later xs ys (Err OutOfMemory) clean said = tt

-- ---- of a file, of which memory is taken only after the first run

-- the first run's own fault
pub front_fault : {T : Type 0} (f : Sections) (Is : T → Type 0) (number at : ℕ) (result : Result T BytesFault) →
    FirstIn (front_rules f) (Some (number, at)) →
    IsErrAnd result (λ error. error ≡ Rule number at) → IsTestedAfter (front_rules f) (file_rules f) Is result
unfolding file_rules
front_fault f Is number at (Ok value) found same = absurd same
front_fault {T} f Is number at (Err error) found same =
    subst (λ (e : BytesFault). IsTestedAfter {T = T} (front_rules f) (file_rules f) Is (Err e)) (sym same)
    (FirstIn-sooner (front_rules f) _ (number, at) found)

-- what the rules after it find is what all find
pub found_after : (f : Sections) (left : LeftOut) (found : Option (ℕ × ℕ)) → left ≡ left_out f → FirstIn (front_rules f) None →
    FirstIn (rules_after_front left f left.symbol_table) found → FirstIn (file_rules f) found
unfolding file_rules
found_after f left found same clean past =
    FirstIn-later (front_rules f) _ found clean (subst (λ (l : LeftOut). FirstIn (rules_after_front l f l.symbol_table) found) same past)

-- their fault
pub fault_after : {T : Type 0} (f : Sections) (left : LeftOut) (Is : T → Type 0) (fault : BytesFault) (result : Result T BytesFault) →
    left ≡ left_out f →
    FirstIn (front_rules f) None → IsVerdict (rules_after_front left f left.symbol_table) (Err fault) →
    IsErrAnd result (λ error. error ≡ fault) →
    IsTestedAfter (front_rules f) (file_rules f) Is result
fault_after f left Is fault (Ok value) same clean said handed = absurd handed
fault_after {T} f left Is fault (Err error) same clean said handed =
    subst (λ (e : BytesFault). IsTestedAfter {T = T} (front_rules f) (file_rules f) Is (Err e)) (sym handed) (known fault said)
  where
    known : (fault : BytesFault) → IsVerdict (rules_after_front left f left.symbol_table) (Err fault) →
        IsTestedAfter {T = T} (front_rules f) (file_rules f) Is (Err fault)
    known (Rule number at) found = found_after f left (Some (number, at)) same clean found
    known OutOfMemory found = clean

-- where no rule is broken, only memory can be wanted
pub read_validated : {T : Type 0} (f : Sections) (Is : T → Type 0) (result : Result T BytesFault) → FirstIn (file_rules f) None →
    IfOk result Is →
    IfErr result (λ error. error ≡ OutOfMemory) → IsTestedAfter (front_rules f) (file_rules f) Is result
read_validated f Is (Ok value) clean is memory = (clean, is)
read_validated {T} f Is (Err error) clean is memory =
    subst (λ (e : BytesFault). IsTestedAfter {T = T} (front_rules f) (file_rules f) Is (Err e)) (sym memory) (front_sound f clean)

pub memory_wanted : {T : Type 0} (f : Sections) (Is : T → Type 0) (result : Result T BytesFault) → FirstIn (file_rules f) None →
    IsErrAnd result (λ error. error ≡ OutOfMemory) → IsTestedAfter (front_rules f) (file_rules f) Is result
memory_wanted f Is (Ok value) clean said = absurd said
memory_wanted {T} f Is (Err error) clean said =
    subst (λ (e : BytesFault). IsTestedAfter {T = T} (front_rules f) (file_rules f) Is (Err e)) (sym said) (front_sound f clean)

-- The indexes that pass from i on: i itself if it passes, and those from i + 1 on.

-- the indexes from i on are i and those from i + 1 on
range_from : (n i : ℕ) → i < n → range_with_len i (n - i) ≡ i ∷ range_with_len (i + 1) (n - (i + 1))
range_from n i lt = (let same : n - i ≡ suc (n - (i + 1)) = omega arith in ap (λ (k : ℕ). range_with_len i k) same)

filter_from_kept : (p : ℕ → Bool) (n i : ℕ) → i < n → p i ≡ true →
    filter p (range_with_len i (n - i)) ≡ i ∷ filter p (range_with_len (i + 1) (n - (i + 1)))
filter_from_kept p n i lt is = ap (λ (xs : List ℕ). filter p xs) (range_from n i lt) ∙ rw is refl

filter_from_other : (p : ℕ → Bool) (n i : ℕ) → i < n → p i ≡ false →
    filter p (range_with_len i (n - i)) ≡ filter p (range_with_len (i + 1) (n - (i + 1)))
filter_from_other p n i lt is = ap (λ (xs : List ℕ). filter p xs) (range_from n i lt) ∙ rw is refl

-- Steps of a loop over the sections. Invariant (`IsFoundByAll`): the first fault in the tables of the kept sections from i on is the first
-- of all. A section that is left out, or kept without a fault, keeps it for i + 1. If the kept section i has a fault, that is the first one
-- of all.

-- those that are kept from section i on, and "what they find is what all find"
abbrev pub kept_from : LeftOut → Sections → ℕ → List ℕ
kept_from left f i = filter (is_kept left f) (range_with_len i (count f - i))

abbrev pub IsFoundByAll : LeftOut → Sections → ℕ → Type 0
IsFoundByAll left f i = (found : Option (ℕ × ℕ)) → FirstIn (rules_of_bodies f (kept_from left f i)) found →
    FirstIn (rules_of_bodies f (kept left f)) found

-- after a section without a fault
pub bodies_next : (left : LeftOut) (f : Sections) (i : ℕ) → i < count f → is_kept left f i ≡ true → IsFoundByAll left f i →
    FirstIn (rules_of_body (body_kind (section f i).sh_type) f i) None → IsFoundByAll left f (i + 1)
bodies_next left f i lt is all clean found rest =
    all found (subst (λ (is : List ℕ). FirstIn (rules_of_bodies f is) found) (sym (filter_from_kept (is_kept left f) (count f) i lt is))
    (FirstIn-later (rules_of_body (body_kind (section f i).sh_type) f i) (rules_of_bodies f (kept_from left f (i + 1))) found clean rest))

-- and after one that is left out
pub bodies_passed : (left : LeftOut) (f : Sections) (i : ℕ) → i < count f → is_kept left f i ≡ false → IsFoundByAll left f i →
    IsFoundByAll left f (i + 1)
bodies_passed left f i lt is all found rest =
    all found (subst (λ (is : List ℕ). FirstIn (rules_of_bodies f is) found)
    (sym (filter_from_other (is_kept left f) (count f) i lt is)) rest)

-- a section's fault is that of all
pub bodies_fault : (left : LeftOut) (f : Sections) (i : ℕ) (fault : ℕ × ℕ) → i < count f → is_kept left f i ≡ true → IsFoundByAll left f i →
    FirstIn (rules_of_body (body_kind (section f i).sh_type) f i) (Some fault) → FirstIn (rules_of_bodies f (kept left f)) (Some fault)
bodies_fault left f i fault lt is all found =
    all (Some fault)
    (subst (λ (is : List ℕ). FirstIn (rules_of_bodies f is) (Some fault)) (sym (filter_from_kept (is_kept left f) (count f) i lt is))
    (FirstIn-sooner (rules_of_body (body_kind (section f i).sh_type) f i) (rules_of_bodies f (kept_from left f (i + 1))) fault found))

-- The rules of the symbol table and of the places of its symbols. Without a symbol table none is broken; with one, its own rules come
-- first, and then rule 75.

-- without a symbol table none is broken
none_kept : (left : LeftOut) (f : Sections) → FirstIn (symbol_rules_in left f None) None
unfolding symbol_rules_in symbol_outside_rules
none_kept left f = ((λ x broken. broken), tt)

pub no_symbols_kept : (left : LeftOut) (f : Sections) (table : Option ℕ) → ((t : ℕ) → table ≡ Some t → ⊥) →
    FirstIn (symbol_rules_in left f table) None
no_symbols_kept left f None not_some = none_kept left f
no_symbols_kept left f (Some t) not_some = absurd (not_some t refl)

-- with one, what is found by its rules and rule 75 is what all find
on_table : (left : LeftOut) (f : Sections) (table : Option ℕ) (t : ℕ) (found : Option (ℕ × ℕ)) → table ≡ Some t →
    FirstIn (symbol_rules_in left f (Some t)) found → FirstIn (symbol_rules_in left f table) found
on_table left f table t found is said = subst (λ (o : Option ℕ). FirstIn (symbol_rules_in left f o) found) (sym is) said

-- the symbol table's own fault comes first
own_fault : (left : LeftOut) (f : Sections) (t : ℕ) (fault : ℕ × ℕ) → FirstIn (symbol_table_rules f t) (Some fault) →
    FirstIn (symbol_rules_in left f (Some t)) (Some fault)
unfolding symbol_rules_in
own_fault left f t fault found = FirstIn-sooner (symbol_table_rules f t) _ fault found

pub symbols_fault : (left : LeftOut) (f : Sections) (table : Option ℕ) (t : ℕ) (fault : ℕ × ℕ) → table ≡ Some t →
    FirstIn (symbol_table_rules f t) (Some fault) → FirstIn (symbol_rules_in left f table) (Some fault)
symbols_fault left f table t fault is found = on_table left f table t (Some fault) is (own_fault left f t fault found)

-- then rule 75
place_fault : (left : LeftOut) (f : Sections) (t at : ℕ) → FirstIn (symbol_table_rules f t) None → IsLeast (symbol_outside left f t) at →
    FirstIn (symbol_rules_in left f (Some t)) (Some (75, at))
unfolding symbol_rules_in symbol_outside_rules
place_fault left f t at clean least = FirstIn-later (symbol_table_rules f t) _ _ clean (inl (refl, least))

pub outside_found : (left : LeftOut) (f : Sections) (table : Option ℕ) (t at : ℕ) → table ≡ Some t →
    FirstIn (symbol_table_rules f t) None → IsLeast (symbol_outside left f t) at → FirstIn (symbol_rules_in left f table) (Some (75, at))
outside_found left f table t at is clean least = on_table left f table t (Some (75, at)) is (place_fault left f t at clean least)

places_kept : (left : LeftOut) (f : Sections) (t : ℕ) → FirstIn (symbol_table_rules f t) None → Never (symbol_outside left f t) →
    FirstIn (symbol_rules_in left f (Some t)) None
unfolding symbol_rules_in symbol_outside_rules
places_kept left f t clean never = FirstIn-later (symbol_table_rules f t) _ _ clean (never, tt)

pub symbols_kept : (left : LeftOut) (f : Sections) (table : Option ℕ) (t : ℕ) → table ≡ Some t → FirstIn (symbol_table_rules f t) None →
    Never (symbol_outside left f t) → FirstIn (symbol_rules_in left f table) None
symbols_kept left f table t is clean never = on_table left f table t None is (places_kept left f t clean never)

-- Steps of the loop that looks for wrong members, over the sections of a file. A section that is no group changes neither the marks nor the
-- lowest offset. With one more group, the lowest offset is the lower one of two.

-- a section below i + 1 is below i, or i
below_next : (i h : ℕ) → h < i + 1 → (h < i) ⊎ (h ≡ i)
below_next i h lt = elim (cases_lt h i) [ inl below ↦ inl below | inr above ↦ inr (omega arith) ]

-- a section that is no group names no member
pub marks_passed : (f : Sections) (n i : ℕ) (marks : List Bool) → (section f i).sh_type ≢ SHT_GROUP →
    AreMarks n (IsMemberBefore f i) marks →
    AreMarks n (IsMemberBefore f (i + 1)) marks
marks_passed f n i marks other are = record {
  long = are.long;
  right = λ m within. (
    (λ marked. (let (h, lt, named) = (are.right m within).0 marked in (h, omega arith, named))),
    (λ (h, lt, named). elim (below_next i h lt) [
      | inl below ↦ (are.right m within).1 (h, below, named)
      | inr same ↦ absurd (other (subst (λ (k : ℕ). (section f k).sh_type ≡ SHT_GROUP) same named.0))
    ]),
  );
}

-- nor does it break the rule
pub wrong_passed : (left : LeftOut) (f : Sections) (i : ℕ) (found : Option ℕ) → (section f i).sh_type ≢ SHT_GROUP →
    IsLowest (wrong_group_member_before left f i) found → IsLowest (wrong_group_member_before left f (i + 1)) found
wrong_passed left f i found other =
    IsLowest-same (wrong_group_member_before left f i) (wrong_group_member_before left f (i + 1)) found
    (λ x (h, lt, broken). (h, omega arith, broken))
    (λ x (h, lt, broken). elim (below_next i h lt) [
      | inl below ↦ (h, below, broken)
      | inr same ↦ absurd (other (subst (λ (k : ℕ). (section f k).sh_type ≡ SHT_GROUP) same broken.0))
    ])

-- with one more group, the lower offset of two
pub wrong_next : (left : LeftOut) (f : Sections) (i : ℕ) (before here : Option ℕ) → (section f i).sh_type ≡ SHT_GROUP →
    IsLowest (wrong_group_member_before left f i) before → IsLowest (wrong_group_member_of left f i) here →
    IsLowest (wrong_group_member_before left f (i + 1)) (lower_of before here)
wrong_next left f i before here typed lowest_before lowest_here =
    IsLowest-same (λ x. wrong_group_member_before left f i x ⊎ wrong_group_member_of left f i x) (wrong_group_member_before left f (i + 1))
    (lower_of before here)
    (λ x either. elim either [
      | inl (h, lt, broken) ↦ (h, omega arith, broken)
      | inr broken ↦ (i, omega arith, (typed, broken))
    ])
    (λ x (h, lt, broken). elim (below_next i h lt) [
      | inl below ↦ inl (h, below, broken)
      | inr same ↦ inr (subst (λ (k : ℕ). wrong_group_member_of left f k x) same broken.1)
    ])
    (IsLowest-lower (wrong_group_member_before left f i) (wrong_group_member_of left f i) before here lowest_before lowest_here)
