-- What is answered of a list of rules whose last ones take memory, run by run.
use Rattle.std.proofs.Common.{◌≡◌, ℕ, None, Some, List, ◌++◌, Result, Ok, Err, sym, subst, ◌+◌, ◌<◌, Option, [], ◌∷◌, length, get_or, refl}
use Rattle.std.proofs.Common.{◌∙◌, ap, zero-add, arith}
use Rattle.std.specs.Result.{IsErrAnd}
use Rattle.std.specs.BTreeMap.{BTreeMap, Updates, get}
use Rattle.std.specs.Ordering.{nat_cmp}
use Rattle.std.proofs.lemmas.Grind.{common_steps}
use Rattle.std.proofs.lemmas.List.FromFn.{fill_by_all, get_or-map-range_with_len, length-map-range_with_len, map-range_with_len_more}
use Rattle.elf_image_rules.proofs.Public.{FirstIn-later, FirstIn-sooner}
use Rattle.elf_image_rules.specs.Rows.{FirstIn, Ruled}
use Rattle.elf_image_rules.specs.Rows.{Broken}
use Rattle.elf_image_stream.specs.Faults.{bytes_fault}
use Rattle.elf_image_stream.specs.declared.fault.BytesFault.TheVariants.{OutOfMemory, Rule}
use Rattle.elf_image_stream.specs.declared.fault.BytesFault.{BytesFault}
use Rattle.elf_image_stream.specs.declared.fault.Fault.{Fault}
use Rattle.elf_table_symbols.specs.Verdicts.{IsTestedAfter, IsValidatedAfter, fault_in, verdicts_on}

-- the fault that a run has found is handed on
pub tested_handed : {T : Type 0} (front rules : List {1} (Ruled ℕ)) (Is : T → Type 0) (broken : Broken ℕ) (result : Result T BytesFault) →
    FirstIn rules (Some (broken.rule, broken.at)) → IsErrAnd result (λ fault. fault ≡ Rule broken.rule broken.at) →
    IsTestedAfter front rules Is result
tested_handed front rules Is broken (Ok table) found same = absurd same
tested_handed front rules Is broken (Err fault) found same =
    subst (λ (f : BytesFault). IsTestedAfter front rules Is (Err f)) (sym same) found

pub tested_stop : {T : Type 0} (front xs ys : List {1} (Ruled ℕ)) (Is : T → Type 0) (broken : Broken ℕ) (result : Result T BytesFault) →
    FirstIn xs (Some (broken.rule, broken.at)) → IsErrAnd result (λ fault. fault ≡ Rule broken.rule broken.at) →
    IsTestedAfter front (xs ++ ys) Is result
tested_stop front xs ys Is broken result found same =
    tested_handed front (xs ++ ys) Is broken result (FirstIn-sooner xs ys (broken.rule, broken.at) found) same

-- a run before it without a fault
pub tested_later : {T : Type 0} (xs front rules : List {1} (Ruled ℕ)) (Is : T → Type 0) (result : Result T BytesFault) → FirstIn xs None →
    IsTestedAfter front rules Is result → IsTestedAfter (xs ++ front) (xs ++ rules) Is result
tested_later xs front rules Is (Ok table) clean tested = (FirstIn-later xs rules None clean tested.0, tested.1)
tested_later xs front rules Is (Err (Rule rule at)) clean tested = FirstIn-later xs rules (Some (rule, at)) clean tested
tested_later xs front rules Is (Err OutOfMemory) clean tested = FirstIn-later xs front None clean tested

-- a public call returns the fault of a call in memory as its own
pub tested_told : {S T : Type 0} (front rules : List {1} (Ruled ℕ)) (Is : S → Type 0) (Says : T → Type 0) (fault : BytesFault)
    (result : Result T Fault) → IsTestedAfter {T = S} front rules Is (Err fault) → IsErrAnd result (λ other. other ≡ bytes_fault fault) →
    IsValidatedAfter front rules Says result
tested_told front rules Is Says fault (Ok table) tested same = absurd same
tested_told {S} {T} front rules Is Says fault (Err other) tested same =
    subst (λ (f : Fault). IsValidatedAfter {T = T} front rules Says (Err f)) (sym same) (of_fault fault tested)
  where
    of_fault : (fault : BytesFault) → IsTestedAfter {T = S} front rules Is (Err fault) →
        IsValidatedAfter {T = T} front rules Says (Err (bytes_fault fault))
    of_fault (Rule rule at) found = found
    of_fault OutOfMemory clean = clean

-- The verdicts on the first sections, as a list. Only tables that break a rule are kept, by section; so a verdict is the entry of its
-- section, or none, and one more section adds one at the end.

pub length_verdicts : (count : ℕ) (broken : BTreeMap ℕ (Broken ℕ)) → length (verdicts_on count broken) ≡ count
length_verdicts count broken = length-map-range_with_len (λ (i : ℕ). fault_in (get nat_cmp broken i)) 0 count

verdict_at : (count : ℕ) (broken : BTreeMap ℕ (Broken ℕ)) (i : ℕ) → i < count →
    get_or (verdicts_on count broken) i None ≡ fault_in (get nat_cmp broken i)
verdict_at count broken i lt = get_or-map-range_with_len (λ (k : ℕ). fault_in (get nat_cmp broken k)) 0 count i i None lt (zero-add i)

pub verdict_get : (count : ℕ) (broken : BTreeMap ℕ (Broken ℕ)) (i : ℕ) → i < length (verdicts_on count broken) →
    get_or (verdicts_on count broken) i None ≡ fault_in (get nat_cmp broken i)
verdict_get count broken i within = verdict_at count broken i (rw (length_verdicts count broken) at within)

-- one more is the last, and the others stay
verdict_added : (count : ℕ) (old now : BTreeMap ℕ (Broken ℕ)) → ((i : ℕ) → i < count → get nat_cmp now i ≡ get nat_cmp old i) →
    verdicts_on (count + 1) now ≡ verdicts_on count old ++ fault_in (get nat_cmp now count) ∷ []
verdict_added count old now same =
    map-range_with_len_more (λ (i : ℕ). fault_in (get nat_cmp now i)) 0 count count (zero-add count)
    ∙ ap (λ (verdicts : List (Option (ℕ × ℕ))). verdicts ++ fault_in (get nat_cmp now count) ∷ [])
    (fill_by_all (λ (i : ℕ). fault_in (get nat_cmp old i)) (verdicts_on count now) count None (length_verdicts count now)
    (λ i lt. verdict_at count now i lt ∙ ap fault_in (same i lt)))

pub sound_added : (count : ℕ) (broken : BTreeMap ℕ (Broken ℕ)) → get nat_cmp broken count ≡ None →
    verdicts_on (count + 1) broken ≡ verdicts_on count broken ++ None ∷ []
sound_added count broken none =
    verdict_added count broken broken (λ i lt. refl) ∙ ap (λ (b : Option (Broken ℕ)). verdicts_on count broken ++ fault_in b ∷ []) none

pub broken_added : (count : ℕ) (old now : BTreeMap ℕ (Broken ℕ)) (broken : Broken ℕ) → Updates nat_cmp old now count (Some broken) →
    verdicts_on (count + 1) now ≡ verdicts_on count old ++ Some (broken.rule, broken.at) ∷ []
broken_added count old now broken updates =
    verdict_added count old now (λ i lt. updates.2 i (grind (arith, common_steps)))
    ∙ ap (λ (b : Option (Broken ℕ)). verdicts_on count old ++ fault_in b ∷ []) updates.1
