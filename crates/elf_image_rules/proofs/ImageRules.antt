-- After runs of rules that found nothing, what the rest finds is what all find; the lemmas `from_..` chain the runs up to rule 32. A fault
-- of these is the file's fault (`fault_of_records`). If there is none, the fault is rule 33 at the lowest byte that two extents hold, or no
-- rule is broken (`fault_of_extents`).
use Rattle.std.proofs.Common.{◌≡◌, ℕ, inl, inr, Option, None, Some, List, [], ◌∷◌, ◌++◌, Result, Ok, Err, refl, sym, ap, subst, ◌∙◌, arith}
use Rattle.std.proofs.Common.{◌<◌, ◌≤◌, ◌⊎◌, zero, suc, length}
use Rattle.std.specs.Result.{IsErrAnd}
use Rattle.std.proofs.lemmas.Bool.{cases_lt}
use Rattle.std.specs.Prelude.{IfErr, IfOk, OnErr}
use Rattle.elf_extent.specs.Extent.{IsLeast, Never, Doubly, IsLowest}
use Rattle.elf_extent.specs.declared.extent.Extent.{Extent}
use Rattle.elf_field.specs.declared.ehdr.Ehdr.{Ehdr}
use Rattle.elf_field.specs.declared.phdr.Phdr.{Phdr}
use Rattle.elf_field.specs.declared.shdr.Shdr.{Shdr}
use Rattle.elf_image_rules.specs.Rows.{fault_of, FirstBy, FirstIn, Row, Ruled}
use Rattle.elf_image_rules.specs.Rules.{IsLoad, IsLoadBefore, length_rules, ident_rules, header_rules, section_table_rules}
use Rattle.elf_image_rules.specs.Rules.{program_table_rules, section_header_rules, segment_rules, section_name_rules, shared_fault, IsFault}
use Rattle.elf_image_rules.specs.Rules.{KeepsRecordRules, extents_of_file, header_entry_rules, header_table_rules, image_rules}
use Rattle.elf_image_rules.specs.Rules.{record_rules, rules_in}
use Rattle.elf_image_rules.specs.Tables.{counts_in, header, sections, segments, names, names_at, name_table}
use Rattle.elf_image_rule_names.specs.declared.broken.Broken.{Broken}
use Rattle.elf_image_rules.specs.declared.tables.Counts.{Counts}

-- Laws of lists of rules, by induction on the list. A fault of a run is also that of the run with more rules after it; after a run without
-- a fault the rest decides. Two lists with the same numbers, broken at the same offsets one by one, have the same fault; a list has at most
-- one fault.

-- a run that has found a fault has it with more rules after it
pub FirstIn-sooner : (xs ys : List {1} (Ruled ℕ)) (fault : ℕ × ℕ) → FirstIn xs (Some fault) → FirstIn (xs ++ ys) (Some fault)
FirstIn-sooner [] ys fault found = absurd found
FirstIn-sooner (r ∷ xs) ys fault (inl here) = inl here
FirstIn-sooner (r ∷ xs) ys fault (inr (never, later)) = inr (never, FirstIn-sooner xs ys fault later)

-- after a run without a fault is what the rules after it find
pub FirstIn-later : (xs ys : List {1} (Ruled ℕ)) (found : Option (ℕ × ℕ)) → FirstIn xs None → FirstIn ys found → FirstIn (xs ++ ys) found
FirstIn-later [] ys found clean rest = rest
FirstIn-later (r ∷ xs) ys None clean rest = (clean.0, FirstIn-later xs ys None clean.1 rest)
FirstIn-later (r ∷ xs) ys (Some fault) clean rest = inr (clean.0, FirstIn-later xs ys (Some fault) clean.1 rest)

-- and what all of them find is then found by the rules after it
pub FirstIn-rest : (xs ys : List {1} (Ruled ℕ)) (found : Option (ℕ × ℕ)) → FirstIn xs None → FirstIn (xs ++ ys) found → FirstIn ys found
FirstIn-rest [] ys found clean all = all
FirstIn-rest (r ∷ xs) ys None clean all = FirstIn-rest xs ys None clean.1 all.1
FirstIn-rest (r ∷ xs) ys (Some fault) clean (inl here) = absurd (clean.0 fault.1 here.1.holds)
FirstIn-rest (r ∷ xs) ys (Some fault) clean (inr (never, later)) = FirstIn-rest xs ys (Some fault) clean.1 later

-- where no rule is broken, none of the front is, and none of the rest
pub FirstIn-front : (xs ys : List {1} (Ruled ℕ)) → FirstIn (xs ++ ys) None → FirstIn xs None
FirstIn-front [] ys clean = tt
FirstIn-front (r ∷ xs) ys clean = (clean.0, FirstIn-front xs ys clean.1)

pub FirstIn-after : (xs ys : List {1} (Ruled ℕ)) → FirstIn (xs ++ ys) None → FirstIn ys None
FirstIn-after xs ys clean = FirstIn-rest xs ys None (FirstIn-front xs ys clean) clean

-- the result that hands on what a run found is what is found, alone and with more rules after the run
pub FirstIn-handed : {T : Type 0} (xs : List {1} (Ruled ℕ)) (broken : Broken ℕ) (result : Result T (Broken ℕ)) →
    FirstIn xs (Some (broken.rule, broken.at)) → IsErrAnd result (λ error. error ≡ broken) → FirstIn xs (fault_of result)
FirstIn-handed xs broken (Ok value) found same = absurd same
FirstIn-handed xs broken (Err error) found same = subst (λ (b : Broken ℕ). FirstIn xs (Some (b.rule, b.at))) (sym same) found

pub FirstIn-stop : {T : Type 0} (xs ys : List {1} (Ruled ℕ)) (broken : Broken ℕ) (result : Result T (Broken ℕ)) →
    FirstIn xs (Some (broken.rule, broken.at)) → IsErrAnd result (λ error. error ≡ broken) → FirstIn (xs ++ ys) (fault_of result)
FirstIn-stop xs ys broken result found same =
    FirstIn-handed (xs ++ ys) broken result (FirstIn-sooner xs ys (broken.rule, broken.at) found) same

-- ---- two lists of the same rules

-- their rules are broken at the same offsets, one by one
abbrev pub AreSame : List {1} (Ruled ℕ) → List {1} (Ruled ℕ) → Type 0
AreSame [] [] = Unit {0}
AreSame [] (q ∷ qs) = ⊥
AreSame (p ∷ ps) [] = ⊥
AreSame (p ∷ ps) (q ∷ qs) =
    (p.number ≡ q.number) × ((x : ℕ) → p.row x → q.row x) × ((x : ℕ) → q.row x → p.row x) × AreSame ps qs

pub AreSame-refl : (rules : List {1} (Ruled ℕ)) → AreSame rules rules
AreSame-refl [] = tt
AreSame-refl (r ∷ rules) = (refl, (λ x broken. broken), (λ x broken. broken), AreSame-refl rules)

pub AreSame-append : (ps qs xs ys : List {1} (Ruled ℕ)) → AreSame ps qs → AreSame xs ys → AreSame (ps ++ xs) (qs ++ ys)
AreSame-append [] [] xs ys front rest = rest
AreSame-append [] (q ∷ qs) xs ys front rest = absurd front
AreSame-append (p ∷ ps) [] xs ys front rest = absurd front
AreSame-append (p ∷ ps) (q ∷ qs) xs ys front rest = (front.0, front.1, front.2, AreSame-append ps qs xs ys front.3 rest)

-- so they have the same fault
pub FirstIn-same : (ps qs : List {1} (Ruled ℕ)) (found : Option (ℕ × ℕ)) → AreSame ps qs → FirstIn ps found → FirstIn qs found
FirstIn-same [] [] found same first = first
FirstIn-same [] (q ∷ qs) found same first = absurd same
FirstIn-same (p ∷ ps) [] found same first = absurd same
FirstIn-same (p ∷ ps) (q ∷ qs) None same first = ((λ x broken. first.0 x (same.2 x broken)), FirstIn-same ps qs None same.3 first.1)
FirstIn-same (p ∷ ps) (q ∷ qs) (Some fault) same (inl (number, least)) =
    inl (number ∙ same.0, record { holds = same.1 fault.1 least.holds; lowest = λ y broken. least.lowest y (same.2 y broken) })
FirstIn-same (p ∷ ps) (q ∷ qs) (Some fault) same (inr (never, later)) =
    inr ((λ x broken. never x (same.2 x broken)), FirstIn-same ps qs (Some fault) same.3 later)

-- ---- one fault

-- a fault is a pair of a rule and where it is broken
same_fault : {At : Type 0} (f g : ℕ × At) → f.0 ≡ g.0 → f.1 ≡ g.1 → f ≡ g
same_fault (r, x) (q, y) rule at = cc

-- a list of rules has one fault, where each row has one first place, at which it is broken
module _ {At : Type 0} (IsFirst : Row At → At → Type 0) (there : (row : Row At) (x : At) → IsFirst row x → row x)
    (one : (row : Row At) (x y : At) → IsFirst row x → IsFirst row y → x ≡ y) where
  pub one_fault_by : (rules : List {1} (Ruled At)) (a b : Option (ℕ × At)) → FirstBy IsFirst rules a → FirstBy IsFirst rules b → a ≡ b
  one_fault_by [] None None p q = refl
  one_fault_by [] None (Some g) p q = absurd q
  one_fault_by [] (Some f) None p q = absurd p
  one_fault_by [] (Some f) (Some g) p q = absurd p
  one_fault_by (r ∷ rules) None None p q = refl
  one_fault_by (r ∷ rules) None (Some g) p (inl here) = absurd (p.0 g.1 (there r.row g.1 here.1))
  one_fault_by (r ∷ rules) None (Some g) p (inr later) = one_fault_by rules None (Some g) p.1 later.1
  one_fault_by (r ∷ rules) (Some f) None (inl here) q = absurd (q.0 f.1 (there r.row f.1 here.1))
  one_fault_by (r ∷ rules) (Some f) None (inr later) q = one_fault_by rules (Some f) None later.1 q.1
  one_fault_by (r ∷ rules) (Some f) (Some g) (inl here) (inl again) =
      ap Some (same_fault f g (here.0 ∙ sym again.0) (one r.row f.1 g.1 here.1 again.1))
  one_fault_by (r ∷ rules) (Some f) (Some g) (inl here) (inr later) = absurd (later.0 f.1 (there r.row f.1 here.1))
  one_fault_by (r ∷ rules) (Some f) (Some g) (inr later) (inl here) = absurd (later.0 g.1 (there r.row g.1 here.1))
  one_fault_by (r ∷ rules) (Some f) (Some g) (inr first) (inr other) = one_fault_by rules (Some f) (Some g) first.1 other.1

least_is_one : (row : Row ℕ) (x y : ℕ) → IsLeast row x → IsLeast row y → x ≡ y
least_is_one row x y one other =
    let below = one.lowest y other.holds in
    let above = other.lowest x one.holds in
    omega arith

-- rules at offsets have one fault
pub one_fault : (rules : List {1} (Ruled ℕ)) (a b : Option (ℕ × ℕ)) → FirstIn rules a → FirstIn rules b → a ≡ b
one_fault = one_fault_by IsLeast (λ row x least. least.holds) least_is_one

-- It cannot be that neither a fault nor "no fault" is the answer of a list of rules; the proof decides no rule. By induction on the list:
-- it cannot be that a row neither has a first place nor holds nowhere. For that, a predicate on numbers without a least number holds for
-- none below any bound, by induction on the bound.

-- the row has a first place, or holds nowhere
abbrev pub HasFirst : {At : Type 0} → (Row At → At → Type 0) → Row At → Type 0
HasFirst {At} IsFirst row = ((x : At) × IsFirst row x) ⊎ Never row

-- where a rule is not broken, the answer is that of the rules after it
past : {At : Type 0} (IsFirst : Row At → At → Type 0) (r : Ruled At) (rules : List {1} (Ruled At)) → Never r.row →
    ((x : Option (ℕ × At)) → ¬ FirstBy IsFirst (r ∷ rules) x) → (x : Option (ℕ × At)) → ¬ FirstBy IsFirst rules x
past IsFirst r rules never none None first = none None (never, first)
past IsFirst r rules never none (Some fault) first = none (Some fault) (inr (never, first))

pub some_first : {At : Type 0} (IsFirst : Row At → At → Type 0) → ((row : Row At) → ¬ (¬ HasFirst IsFirst row)) →
    (rules : List {1} (Ruled At)) → ¬ ((x : Option (ℕ × At)) → ¬ FirstBy IsFirst rules x)
some_first IsFirst each [] none = none None tt
some_first IsFirst each (r ∷ rules) none =
    let rest = some_first IsFirst each rules in
    each r.row (λ found. elim found [
      | inl (x, first) ↦ none (Some (r.number, x)) (inl (refl, first))
      | inr never ↦ rest (past IsFirst r rules never none)
    ])

-- a predicate on numbers that has no least one holds of none below any bound
none_below : (P : ℕ → Type 0) → ¬ ((x : ℕ) × IsLeast P x) → (n y : ℕ) → y < n → ¬ P y
none_below P none zero y lt holds = omega arith
none_below P none (suc n) y lt holds = elim (cases_lt y n) [
  | inl below ↦ none_below P none n y below holds
  | inr above ↦ (
      let same : y ≡ n = omega arith in
      none (
        n,
        record {
          holds = subst P same holds;
          lowest = λ z at. elim (cases_lt z n) [ inl less ↦ absurd (none_below P none n z less at) | inr from ↦ omega arith ];
        },
      )
      )
]

pub least_or_never : (P : ℕ → Type 0) → ¬ (¬ HasFirst IsLeast P)
least_or_never P none = none (inr (λ x holds. none_below P (λ least. none (inl least)) (suc x) x (omega arith) holds))

pub some_fault : (rules : List {1} (Ruled ℕ)) → ¬ ((x : Option (ℕ × ℕ)) → ¬ FirstIn rules x)
some_fault rules = some_first IsLeast least_or_never rules

-- The walk over the program headers that finds a loadable segment out of order (rule 29).

-- the segments below i are in order, and floor is the address of the last loadable one, or 0
pub record IsInOrder (g : ℕ → Phdr) (floor i : ℕ) : Type 0 where
  pub clean : (k j : ℕ) → j < i → IsLoad (g j) → IsLoadBefore g k j → (g j).p_vaddr < (g k).p_vaddr → ⊥
  pub nearest : (k : ℕ) → IsLoadBefore g k i → (g k).p_vaddr ≡ floor
  pub held : 0 < floor → (k : ℕ) × IsLoadBefore g k i × ((g k).p_vaddr ≡ floor)

-- rules 13 to 32 of a file with this header
abbrev pub table_rules_of : List ℕ → Ehdr → List {1} (Ruled ℕ)
table_rules_of b h = header_table_rules (length b) h (sections b h) (segments b h) (names b h)

-- rules 1 to 32 of a file
abbrev pub record_rules_of : List ℕ → List {1} (Ruled ℕ)
record_rules_of b = let h = header b in record_rules (length b) h (sections b h) (segments b h) (names b h)

-- what the run of rules 1 to 32 found is the file's fault
pub fault_of_records : (b : List ℕ) (fault : ℕ × ℕ) → FirstIn (record_rules_of b) (Some fault) → IsFault b (Some fault)
unfolding rules_in image_rules
fault_of_records b fault run = FirstIn-sooner (record_rules_of b) _ fault run

-- where none of them is broken, the fault is the lowest byte in two extents, by rule 33
pub fault_of_extents : (b : List ℕ) (found : Option ℕ) → KeepsRecordRules b →
    IsLowest (Doubly (extents_of_file b)) found →
    IsFault b (shared_fault found)
unfolding rules_in image_rules
fault_of_extents b None kept never = FirstIn-later (record_rules_of b) _ None kept (never, tt)
fault_of_extents b (Some x) kept least = FirstIn-later (record_rules_of b) _ (Some (33, x)) kept (inl (refl, least))

-- the same of a search that memory may be refused to
pub fault_of_search : {E : Type 0} (b : List ℕ) (es : List Extent) (result : Result (Option ℕ) E) → KeepsRecordRules b →
    es ≡ extents_of_file b → IfOk result (IsLowest (Doubly es)) → IfOk result (λ found. IsFault b (shared_fault found))
fault_of_search b es (Ok found) kept same lowest =
    fault_of_extents b found kept (subst (λ (xs : List Extent). IsLowest (Doubly xs) found) same lowest)
fault_of_search b es (Err error) kept same lowest = tt

-- and no other rule is broken
pub overlap_alone : (b : List ℕ) (rule at : ℕ) → KeepsRecordRules b → IsFault b (Some (rule, at)) → rule ≡ 33
unfolding rules_in image_rules
overlap_alone b rule at kept fault =
    elim (FirstIn-rest (record_rules_of b) _ (Some (rule, at)) kept fault) [ inl here ↦ here.0 | inr later ↦ absurd later.1 ]

-- what a test of rules 1 to 32 answers, by what its run found
pub validated_broken : {T : Type 0} (b : List ℕ) (result : Result T (Broken ℕ)) → FirstIn (record_rules_of b) (fault_of result) →
    IfErr result (λ broken. IsFault b (Some (broken.rule, broken.at)))
validated_broken b (Ok u) run = tt
validated_broken b (Err e) run = fault_of_records b (e.rule, e.at) run

-- where one of them is broken they are not kept
pub validated_unkept : {T : Type 0} (b : List ℕ) (result : Result T (Broken ℕ)) → FirstIn (record_rules_of b) (fault_of result) →
    OnErr result (¬ KeepsRecordRules b)
validated_unkept b (Ok u) run = tt
validated_unkept b (Err e) run = λ kept. let same = one_fault (record_rules_of b) (Some (e.rule, e.at)) None run kept in absurd cc

pub from_length : (b : List ℕ) (h : Ehdr) (found : Option (ℕ × ℕ)) → h ≡ header b →
    FirstIn (length_rules (length b) ++ (ident_rules h.e_ident ++ (header_rules (length b) h ++ table_rules_of b h))) found →
    FirstIn (record_rules_of b) found
unfolding record_rules
from_length b h found e run =
    subst (λ (k : Ehdr). FirstIn (record_rules (length b) k (sections b k) (segments b k) (names b k)) found) e run

pub from_ident : (b : List ℕ) (h : Ehdr) (found : Option (ℕ × ℕ)) → h ≡ header b →
    FirstIn (length_rules (length b)) None →
    FirstIn (ident_rules h.e_ident ++ (header_rules (length b) h ++ table_rules_of b h)) found →
    FirstIn (record_rules_of b) found
unfolding length_rules
from_ident b h found e lengths run =
    from_length b h found e (FirstIn-later (length_rules (length b)) _ found lengths run)

pub from_header : (b : List ℕ) (h : Ehdr) (found : Option (ℕ × ℕ)) → h ≡ header b →
    FirstIn (length_rules (length b)) None → FirstIn (ident_rules h.e_ident) None →
    FirstIn (header_rules (length b) h ++ table_rules_of b h) found →
    FirstIn (record_rules_of b) found
unfolding ident_rules
from_header b h found e lengths ident run =
    from_ident b h found e lengths (FirstIn-later (ident_rules h.e_ident) _ found ident run)

pub from_tables : (b : List ℕ) (h : Ehdr) (found : Option (ℕ × ℕ)) → h ≡ header b →
    FirstIn (length_rules (length b)) None → FirstIn (ident_rules h.e_ident) None →
    FirstIn (header_rules (length b) h) None → FirstIn (table_rules_of b h) found →
    FirstIn (record_rules_of b) found
unfolding header_rules
from_tables b h found e lengths ident headers run =
    from_header b h found e lengths ident
    (FirstIn-later (header_rules (length b) h) _ found headers run)

-- rules 22 to 32 of a file with this header and section header 0
abbrev entry_rules_of : List ℕ → Ehdr → Shdr → List {1} (Ruled ℕ)
entry_rules_of b h first = header_entry_rules (length b) h (counts_in h first) (sections b h) (segments b h) (names b h)

pub from_section_table : (b : List ℕ) (h : Ehdr) (first : Shdr) (found : Option (ℕ × ℕ)) →
    first ≡ sections b h 0 →
    FirstIn (section_table_rules (length b) h first ++ (program_table_rules (length b) h first ++ entry_rules_of b h first)) found →
    FirstIn (table_rules_of b h) found
unfolding header_table_rules
from_section_table b h first found e run =
    subst
    (λ (f : Shdr). FirstIn (section_table_rules (length b) h f ++ (program_table_rules (length b) h f ++ entry_rules_of b h f)) found)
    e run

pub from_program_table : (b : List ℕ) (h : Ehdr) (first : Shdr) (found : Option (ℕ × ℕ)) →
    first ≡ sections b h 0 → FirstIn (section_table_rules (length b) h first) None →
    FirstIn (program_table_rules (length b) h first ++ entry_rules_of b h first) found →
    FirstIn (table_rules_of b h) found
unfolding section_table_rules
from_program_table b h first found e table run =
    from_section_table b h first found e
    (FirstIn-later (section_table_rules (length b) h first) _ found table run)

pub from_entries : (b : List ℕ) (h : Ehdr) (first : Shdr) (c : Counts) (found : Option (ℕ × ℕ)) →
    first ≡ sections b h 0 → c ≡ counts_in h first →
    FirstIn (section_table_rules (length b) h first) None →
    FirstIn (program_table_rules (length b) h first) None →
    FirstIn (header_entry_rules (length b) h c (sections b h) (segments b h) (names_at b h c.name_table)) found →
    FirstIn (table_rules_of b h) found
unfolding program_table_rules names
from_entries b h first c found e counts_e table programs run =
    let counted = subst
    (λ (k : Counts). FirstIn (header_entry_rules (length b) h k (sections b h) (segments b h) (names_at b h k.name_table)) found) counts_e
    run in
    let named = subst
    (λ (f : Shdr). FirstIn
    (header_entry_rules (length b) h (counts_in h first) (sections b h) (segments b h) (names_at b h (name_table h f))) found) e counted in
    from_program_table b h first found e table
    (FirstIn-later (program_table_rules (length b) h first) _ found programs named)

-- the runs of rules 22 to 32, of abstract tables
pub from_sections : (len : ℕ) (h : Ehdr) (c : Counts) (s : ℕ → Shdr) (g : ℕ → Phdr) (t : List ℕ) (found : Option (ℕ × ℕ)) →
    FirstIn (section_header_rules len h c.sections s ++
    (segment_rules len h c.segments g ++ section_name_rules h c.sections c.name_table s t)) found →
    FirstIn (header_entry_rules len h c s g t) found
unfolding header_entry_rules
from_sections len h c s g t found run = run

pub from_segments : (len : ℕ) (h : Ehdr) (c : Counts) (s : ℕ → Shdr) (g : ℕ → Phdr) (t : List ℕ) (found : Option (ℕ × ℕ)) →
    FirstIn (section_header_rules len h c.sections s) None →
    FirstIn (segment_rules len h c.segments g ++ section_name_rules h c.sections c.name_table s t) found →
    FirstIn (header_entry_rules len h c s g t) found
from_segments len h c s g t found clean run =
    from_sections len h c s g t found (FirstIn-later (section_header_rules len h c.sections s) _ found clean run)

pub from_names : (len : ℕ) (h : Ehdr) (c : Counts) (s : ℕ → Shdr) (g : ℕ → Phdr) (t : List ℕ) (found : Option (ℕ × ℕ)) →
    FirstIn (section_header_rules len h c.sections s) None → FirstIn (segment_rules len h c.segments g) None →
    FirstIn (section_name_rules h c.sections c.name_table s t) found →
    FirstIn (header_entry_rules len h c s g t) found
from_names len h c s g t found clean loads run =
    from_segments len h c s g t found clean (FirstIn-later (segment_rules len h c.segments g) _ found loads run)
