-- The call that returns the verdicts on tables of a file.
use Rattle.std.specs.Prelude.{◌≡◌, ◌⊎◌, ◌<◌, ◌≤◌, ◌+◌, ◌-◌, ℕ, List, None, Option, Some, get_or, length, min}
use Rattle.elf_c_engines.specs.Calls.{fault_numbers, fault_status, verdict_numbers, verdict_status}
use Rattle.elf_c_engines.specs.declared.calls.CallFault.TheVariants.{OutOfMemory}
use Rattle.elf_c_engines.specs.declared.calls.Outcome.{Outcome}
use Rattle.elf_c_engines.specs.declared.tables.TableFault.{TableFault}
use Rattle.elf_image_outline.specs.Image.{ImageValue, IsImage}
use Rattle.elf_image_rules.specs.Rows.{FirstIn}
use Rattle.elf_image_rules.specs.Rules.{IsFault}
use Rattle.elf_image_stream.specs.declared.fault.BytesFault.TheVariants as fault
use Rattle.elf_image_stream.specs.declared.fault.BytesFault.{BytesFault}
use Rattle.elf_table_all.specs.Tables.{table_rules}
use Rattle.elf_table_symbols.specs.Sections.{Sections, count, sections_of}
use Rattle.elf_tool_check.specs.declared.calls.Refusal.TheVariants.{File}
use Rattle.elf_tool_check.specs.declared.calls.Verdict.TheVariants.{Done, Refused}

-- a broken rule with its offset; no rule has number 0
abbrev pub fault_slot : Option (ℕ × ℕ) → TableFault
fault_slot None = record { at = 0; rule = 0 }
fault_slot (Some (rule, at)) = record { at = at; rule = rule }

-- the slot of an index
abbrev pub slot_at : List TableFault → ℕ → TableFault
slot_at slots k = get_or slots k (fault_slot None)

-- a slot has the first rule that the table in section i breaks, with its lowest offset
abbrev pub HasTableFault : Sections → ℕ → TableFault → Type 0
HasTableFault f i slot = (found : Option (ℕ × ℕ)) × FirstIn (table_rules f i) found × (slot ≡ fault_slot found)

-- a buffer that held `old` holds `new`: slot k has the verdict on the table in section `first` + k, and the slots after the last section
-- are unchanged
pub record ArePut (f : Sections) (first : ℕ) (old new : List TableFault) (filled : ℕ) : Type 0 where
  pub filled_is : filled ≡ min (count f - first) (length old)
  pub long : length new ≡ length old
  pub right : (k : ℕ) → k < filled → HasTableFault f (first + k) (slot_at new k)
  pub others : (k : ℕ) → filled ≤ k → slot_at new k ≡ slot_at old k

-- why nothing is put into it
abbrev pub IsTablesFault : List ℕ → BytesFault → Type 0
IsTablesFault b (fault.Rule rule at) = IsFault b (Some (rule, at))
IsTablesFault b fault.OutOfMemory = Unit {0}

-- the call: the file is an image, and `length` says how many slots were filled; or the rule of images that it breaks; or out of memory
abbrev pub IsTablesCall : List ℕ → ℕ → List TableFault → List TableFault → Outcome → ℕ → Type 0
IsTablesCall b first old new outcome status =
    ((v : ImageValue) × IsImage v b × ((filled : ℕ) × ArePut (sections_of v) first old new filled
    × (status ≡ verdict_status Done) × (outcome ≡ verdict_numbers Done filled)))
    ⊎ (((rule : ℕ) × (at : ℕ) × IsFault b (Some (rule, at)) × (new ≡ old)
    × (status ≡ verdict_status (Refused (File 0 rule at))) × (outcome ≡ verdict_numbers (Refused (File 0 rule at)) 0))
    ⊎ ((new ≡ old) × (status ≡ fault_status OutOfMemory) × (outcome ≡ fault_numbers OutOfMemory)))
