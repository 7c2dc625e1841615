-- Verdicts on tables in slots that a caller lends.
use Rattle.std.specs.Prelude.{◌≡◌, ◌≢◌, ◌+◌, ◌<◌, ◌==◌, if◌then◌else◌, ℕ, List, None, Option, Some, get_or, length}
use Rattle.elf_table_symbols.specs.declared.slots.TableFault.{TableFault}

-- in place of a rule's number, in a slot for which no verdict is wanted
abbrev pub LEFT_OUT : ℕ
LEFT_OUT = 65535

-- a broken rule with its offset; no rule has number 0
abbrev pub verdict_slot : Option (ℕ × ℕ) → TableFault
verdict_slot None = record { at = 0; rule = 0 }
verdict_slot (Some (rule, at)) = record { at = at; rule = rule }

-- and what a slot says
abbrev pub fault_in_slot : TableFault → Option (ℕ × ℕ)
fault_in_slot slot = if slot.rule == 0 then None else Some (slot.rule, slot.at)

-- the slot of an index
abbrev pub verdict_slot_at : List TableFault → ℕ → TableFault
verdict_slot_at slots k = get_or slots k (verdict_slot None)

-- the verdict on section `section` is in its slot, of slots for the sections from `first` on
abbrev pub IsKept : ℕ → List TableFault → ℕ → Option (ℕ × ℕ) → Type 0
IsKept first slots section found =
    (k : ℕ) × (k < length slots) × (section ≡ first + k) × ((verdict_slot_at slots k).rule ≢ LEFT_OUT) ×
    (found ≡ fault_in_slot (verdict_slot_at slots k))
