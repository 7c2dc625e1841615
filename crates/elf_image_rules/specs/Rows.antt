-- Lists of rules: where a rule is broken, and the first rule broken with the first place where it is. These words know no rule of any file:
-- a rule is a number and a row, and a list of rules is tested in its order. They serve rules at an offset of a file, of which the lowest is
-- reported, and rules of a link, at a file, index and entry, of which the first is.
use Rattle.std.specs.Prelude.{◌≡◌, ℕ, ◌<◌, ◌⊎◌, Option, None, Some, List, [], ◌∷◌, Result, Ok, Err}
use Rattle.elf_extent.specs.Extent.{Never, IsLeast}
pub use Rattle.elf_image_rule_names.specs.declared.broken.Broken.{Broken}

-- the row of a rule: where it is broken
abbrev pub Row : Type 0 → Type 1
Row At = At → Type 0

-- the row of a rule that is broken at one offset, when P holds
abbrev pub When : Type 0 → ℕ → Row ℕ
When P at = λ x. P × (x ≡ at)

-- the row of a rule that several rows make: broken wherever one of them is
abbrev pub Either : List {1} (Row ℕ) → Row ℕ
Either [] = λ x. ⊥
Either (row ∷ rows) = λ x. row x ⊎ Either rows x

-- the row of a rule on each index below n: broken at the place of one with P
abbrev pub AtEntry : ℕ → (ℕ → Type 0) → (ℕ → ℕ) → Row ℕ
AtEntry n P place = λ x. (i : ℕ) × (i < n) × P i × (x ≡ place i)

-- the row of a rule on what may be missing: broken nowhere where it is
abbrev pub OfSome : Option ℕ → (ℕ → Row ℕ) → Row ℕ
OfSome None row = λ x. ⊥
OfSome (Some i) row = row i

-- a rule: its number, and its row
pub record Ruled (At : Type 0) : Type 1 where
  pub number : ℕ
  pub row : Row At

abbrev pub rule : {At : Type 0} → ℕ → Row At → Ruled At
rule number row = record { number = number; row = row }

-- what was found is the number of the first rule in the list that is broken, with the first place where it is, and None if none is broken;
-- IsFirst says what it is to be the first place of a row. A number may be in the list twice
abbrev pub FirstBy : {At : Type 0} → (Row At → At → Type 0) → List {1} (Ruled At) → Option (ℕ × At) → Type 0
FirstBy IsFirst [] None = Unit {0}
FirstBy IsFirst [] (Some fault) = ⊥
FirstBy IsFirst (r ∷ rules) None = Never r.row × FirstBy IsFirst rules None
FirstBy IsFirst (r ∷ rules) (Some fault) =
    ((fault.0 ≡ r.number) × IsFirst r.row fault.1) ⊎ (Never r.row × FirstBy IsFirst rules (Some fault))

-- of rules at offsets: with its lowest offset
abbrev pub FirstIn : List {1} (Ruled ℕ) → Option (ℕ × ℕ) → Type 0
FirstIn = FirstBy IsLeast

-- no second rule and offset is found in these rules
abbrev pub HaveOneFault : List {1} (Ruled ℕ) → Type 0
HaveOneFault rules = (x y : Option (ℕ × ℕ)) → FirstIn rules x → FirstIn rules y → x ≡ y

-- A broken rule as what is found in a list of rules.

-- the rule that a test of rules returns, and where it is broken; None if all of them hold
abbrev pub fault_of : {T At : Type 0} → Result T (Broken At) → Option (ℕ × At)
fault_of (Ok _) = None
fault_of (Err broken) = Some (broken.rule, broken.at)
