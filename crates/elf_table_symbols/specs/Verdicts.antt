-- Files and their verdicts, as contracts see them.
use Rattle.std.specs.Prelude.{ℕ, List, None, Some, Result, Ok, Err, ◌≡◌, ◌≤◌, Option, map, option_map}
use Rattle.std.specs.BTreeMap.{BTreeMap, get}
use Rattle.std.specs.List.{range_with_len}
use Rattle.std.specs.Ordering.{nat_cmp}
use Rattle.elf_image_outline.specs.Image.{ImageValue, OfItsBytes}
use Rattle.elf_image_rules.specs.Rows.{FirstIn, HaveOneFault, Ruled}
use Rattle.elf_image_rules.specs.Rows.{Broken}
use Rattle.elf_image_stream.specs.declared.fault.BytesFault.TheVariants.{OutOfMemory as NoRoom, Rule as Breaks}
use Rattle.elf_image_stream.specs.declared.fault.BytesFault.{BytesFault}
use Rattle.elf_image_stream.specs.declared.fault.Fault.TheVariants.{OutOfMemory, Io, Rule}
use Rattle.elf_image_stream.specs.declared.fault.Fault.{Fault}
use Rattle.elf_table_symbols.specs.Sections.{Sections, sections_in}
use Rattle.elf_table_symbols.specs.declared.verdicts.Verdicts.TheInside.{Inside}

-- What a call that makes a table of a section returns: the table if none of its rules is broken, otherwise the first one
-- that is, at its lowest offset.

-- of a call that takes no memory: the table is this value, by its view
abbrev pub IsValidated : {T : Type 0} → List {1} (Ruled ℕ) → (T → Type 0) → Result T Fault → Type 0
IsValidated rules Is (Ok table) = FirstIn rules None × Is table
IsValidated rules Is (Err (Rule rule at)) = FirstIn rules (Some (rule, at))
IsValidated rules Is (Err OutOfMemory) = ⊥
IsValidated rules Is (Err (Io at)) = ⊥

-- of a call that takes memory: it is refused only where no rule of `front` is broken, which are tested before any is taken
abbrev pub IsValidatedAfter : {T : Type 0} → List {1} (Ruled ℕ) → List {1} (Ruled ℕ) → (T → Type 0) → Result T Fault → Type 0
IsValidatedAfter front rules Is (Ok table) = FirstIn rules None × Is table
IsValidatedAfter front rules Is (Err (Rule rule at)) = FirstIn rules (Some (rule, at))
IsValidatedAfter front rules Is (Err OutOfMemory) = FirstIn front None
IsValidatedAfter front rules Is (Err (Io at)) = ⊥

-- the same of a call that only looks at bytes in memory
abbrev pub IsTestedAfter : {T : Type 0} → List {1} (Ruled ℕ) → List {1} (Ruled ℕ) → (T → Type 0) → Result T BytesFault → Type 0
IsTestedAfter front rules Is (Ok table) = FirstIn rules None × Is table
IsTestedAfter front rules Is (Err (Breaks rule at)) = FirstIn rules (Some (rule, at))
IsTestedAfter front rules Is (Err NoRoom) = FirstIn front None

-- and no other rule and offset is the first that is broken
abbrev pub IsOnlyValidated : {T : Type 0} → List {1} (Ruled ℕ) → (T → Type 0) → Result T Fault → Type 0
IsOnlyValidated rules Is result = HaveOneFault rules × IsValidated rules Is result

abbrev pub IsOnlyValidatedAfter : {T : Type 0} → List {1} (Ruled ℕ) → List {1} (Ruled ℕ) → (T → Type 0) → Result T Fault → Type 0
IsOnlyValidatedAfter front rules Is result = HaveOneFault rules × IsValidatedAfter front rules Is result

-- what is said of the sections that an image's bytes have, the one list that represents it
abbrev pub OfItsFile : ImageValue → (Sections → Type 0) → Type 0
OfItsFile v Says = (f : Sections) × OfItsBytes v (λ b. f ≡ sections_in b) × Says f

-- What contracts see of the verdicts on the first sections of an image.

-- a broken rule that is noted, and where it is broken; None where none is
abbrev pub fault_in : Option (Broken ℕ) → Option (ℕ × ℕ)
fault_in = option_map (λ (broken : Broken ℕ). (broken.rule, broken.at))

-- the verdicts on so many sections, by the broken rules that are noted
abbrev pub verdicts_on : ℕ → BTreeMap ℕ (Broken ℕ) → List (Option (ℕ × ℕ))
verdicts_on count broken = map (λ i. fault_in (get nat_cmp broken i)) (range_with_len 0 count)

abbrev pub verdicts_view : Inside → List (Option (ℕ × ℕ))
verdicts_view a = verdicts_on a.count a.broken

-- no rule is noted for a further section
abbrev pub AreOfFirst : Inside → Type 0
AreOfFirst a = (i : ℕ) → a.count ≤ i → get nat_cmp a.broken i ≡ None
