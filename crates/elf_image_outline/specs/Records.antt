-- What reads of records of a source return: a record, a table of them, the ends of a string table; and when one fails.
use Rattle.std.specs.Prelude.{◌≡◌, ◌<◌, ◌≤◌, ◌+◌, ℕ, List, length, take, drop, Option, Some, Result, Ok, Err, ◌-◌, ◌*◌, ◌⊎◌, map, [], ◌∷◌}
use Rattle.std.specs.List.{AllByRecursion, range_with_len}
use Rattle.elf_field.specs.Bytes.{IsBytes}
use Rattle.elf_image_rules.specs.Rules.{AreEnds}
use Rattle.elf_image_rules.specs.declared.name_rules.TableEnds.{TableEnds}
use Rattle.elf_image_stream.specs.declared.fault.Fault.TheVariants.{Io as FailedAt, OutOfMemory as NoMemory}
use Rattle.elf_image_stream.specs.declared.fault.Fault.{Fault}
use Rattle.elf_image_stream.specs.Source.{HasFailed}
use Rattle.elf_image_outline.specs.declared.records.RecordsFault.TheVariants.{Io, OutOfMemory}
use Rattle.elf_image_outline.specs.declared.records.RecordsFault.{RecordsFault}
use Rattle.elf_image_stream.specs.declared.source.Failures.{Failures}
use Rattle.elf_image_stream.specs.declared.source.ReadFault.{ReadFault}

-- the record of n bytes at an offset, whose fields fit, and no call failed; or a read failed
abbrev pub ReadsRecord : {T : Type 0} → (List ℕ → ℕ → T) → (T → Type 0) → ℕ → Option (List ℕ) → Failures → Failures → ℕ →
    Result T ReadFault → Type 0
ReadsRecord record_at IsValid n content old new at (Ok v) = (new ≡ old) × IsValid v × ((b : List ℕ) → content ≡ Some b → v ≡ record_at b at)
ReadsRecord record_at IsValid n content old new at (Err fault) = HasFailed content old new at n fault.at

-- so many records of n bytes, one after the other from an offset on
abbrev pub table_at : {T : Type 0} → (List ℕ → ℕ → T) → ℕ → List ℕ → ℕ → ℕ → List T
table_at record_at n b at count = map (λ i. record_at b (at + n * i)) (range_with_len 0 count)

-- so many of these values follow: where the old ones are the first of a list by position, the new ones are as many more of it
abbrev pub Extends : {T : Type 0} → (ℕ → T) → ℕ → List T → List T → Type 0
Extends {T = T} value several old new = (from : ℕ) (f : ℕ → T) → ((i : ℕ) → i < several → f (from + i) ≡ value i) →
    old ≡ map f (range_with_len 0 from) → new ≡ map f (range_with_len 0 (from + several))

-- the records of n bytes from an offset on, whose fields fit, and no call failed
pub record HasTable {T : Type 0} (record_at : List ℕ → ℕ → T) (IsValid : T → Type 0) (n : ℕ) (content : Option (List ℕ))
    (old new : Failures) (at count : ℕ) (vs : List T) : Type 0 where
  pub failures : new ≡ old
  pub many : length vs ≡ count
  pub valid : AllByRecursion IsValid vs
  pub known : (b : List ℕ) → content ≡ Some b → vs ≡ table_at record_at n b at count

-- why there is no table of so many bytes: an allocation failed, and no call failed; or a read failed
abbrev pub IsRecordsFault : Option (List ℕ) → Failures → Failures → ℕ → ℕ → RecordsFault → Type 0
IsRecordsFault content old new at n OutOfMemory = new ≡ old
IsRecordsFault content old new at n (Io failed_at) = HasFailed content old new at n failed_at

-- the same as a fault of a file
abbrev pub records_fault : RecordsFault → Fault
records_fault OutOfMemory = NoMemory
records_fault (Io at) = FailedAt at

-- the byte at an offset, and no call failed; or a read failed
abbrev pub ReadsByte : Option (List ℕ) → Failures → Failures → ℕ → Result ℕ ReadFault → Type 0
ReadsByte content old new at (Ok byte) = (new ≡ old) × ((b : List ℕ) → content ≡ Some b → byte ∷ [] ≡ take 1 (drop at b))
ReadsByte content old new at (Err fault) = HasFailed content old new at 1 fault.at

-- the ends of a table of so many bytes from an offset on, and no call failed; or a read of one of them failed. Some table has these ends,
-- which holds of
-- a source that gives other bytes each time too
abbrev pub ReadsEnds : Option (List ℕ) → Failures → Failures → ℕ → ℕ → Result TableEnds ReadFault → Type 0
ReadsEnds content old new start len (Ok ends) =
    (new ≡ old) × ((table : List ℕ) × AreEnds ends table × IsBytes table) × (ends.len ≡ len)
    × ((b : List ℕ) → content ≡ Some b → start + len ≤ length b → AreEnds ends (take len (drop start b)))
ReadsEnds content old new start len (Err fault) =
    HasFailed content old new start len fault.at × ((fault.at ≡ start) ⊎ (fault.at ≡ start + len - 1))
