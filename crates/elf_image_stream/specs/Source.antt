-- What a source of bytes says of them: a list that no call changes, where it reports it, and its failures: how many calls failed, and what
-- the last of them was asked for.
use Rattle.std.specs.Prelude.{◌≡◌, ◌<◌, ◌≤◌, ◌+◌, ◌%◌, ◌^◌, ℕ, List, length, take, drop, Option, None, Some, Result, Ok, Err, IfOk, IfSome}
use Rattle.std.specs.Prelude.{◌⊎◌}
use Rattle.elf_field.specs.Bytes.{IsBytes}
use Rattle.elf_image_stream.specs.declared.source.Failures.{Failures}
use Rattle.elf_image_stream.specs.declared.source.ReadFault.{ReadFault}

-- no call failed
abbrev pub no_failures : Failures
no_failures = record { count = 0; last = 0 }

-- one call more failed, and was asked for this offset
abbrev pub Fails : Failures → Failures → ℕ → Type 0
Fails old new at = (new.count ≡ (old.count + 1) % 2 ^ 64) × (new.last ≡ at)

-- a call failed that was asked for this offset, or none did
abbrev pub Remembers : Option ℕ → Failures → Failures → Type 0
Remembers None old new = new ≡ old
Remembers (Some at) old new = Fails old new at

-- a call that was asked for an offset failed if it returned so
abbrev pub RemembersCall : {T E : Type 0} → ℕ → Failures → Failures → Result T E → Type 0
RemembersCall at old new (Ok t) = new ≡ old
RemembersCall at old new (Err e) = Fails old new at

-- a read gives no byte though its buffer is not empty, and the source does not report where its bytes end
abbrev pub IsDry : Option (List ℕ) → ℕ → ℕ → Type 0
IsDry content room k = (content ≡ None) × (0 < room) × (k ≡ 0)

-- a read of an offset failed if it returned so, or if it is dry
abbrev pub RemembersRead : {E : Type 0} → Option (List ℕ) → ℕ → ℕ → Failures → Failures → Result ℕ E → Type 0
RemembersRead content at room old new (Ok k) = (IsDry content room k → Fails old new at) × (¬ IsDry content room k → new ≡ old)
RemembersRead content at room old new (Err e) = Fails old new at

-- what a source reports are bytes: each number is below 256
abbrev pub ReportsBytes : Option (List ℕ) → Type 0
ReportsBytes content = (b : List ℕ) → content ≡ Some b → IsBytes b

-- the length that is returned is that of the content
abbrev pub SaysLength : {E : Type 0} → Option (List ℕ) → Result ℕ E → Type 0
SaysLength content result = IfOk result (λ len. IfSome content (λ b. len ≡ length b))

-- the source reports its bytes, and none is at this offset
abbrev pub EndsBy : Option (List ℕ) → ℕ → Type 0
EndsBy content at = (b : List ℕ) × (content ≡ Some b) × (length b ≤ at)

-- where the source reports its bytes, they reach to this offset
abbrev pub Reaches : Option (List ℕ) → ℕ → Type 0
Reaches content end = (b : List ℕ) → content ≡ Some b → end ≤ length b

-- the first k bytes of a buffer are those of b from an offset on; there are none only where b ends, or none was asked for
pub record GivesAt (b : List ℕ) (at k : ℕ) (buf : List ℕ) : Type 0 where
  pub bytes : take k buf ≡ take k (drop at b)
  pub within : 0 < k → at + k ≤ length b
  pub some : k ≡ 0 → 0 < length buf → length b ≤ at

abbrev pub GivesFrom : {E : Type 0} → Option (List ℕ) → ℕ → Result ℕ E → List ℕ → Type 0
GivesFrom content at result buf = IfOk result (λ k. IfSome content (λ b. GivesAt b at k buf))

-- What whole reads of a source return, and when one fails.

-- a read of n bytes from an offset on failed at one of them: a call failed that was asked for this one; or none failed, and the source
-- reports that no byte is there
abbrev pub HasFailed : Option (List ℕ) → Failures → Failures → ℕ → ℕ → ℕ → Type 0
HasFailed content old new at n failed_at =
    (at ≤ failed_at) × (failed_at < at + n) × (Fails old new failed_at ⊎ ((new ≡ old) × EndsBy content failed_at))

-- a buffer is filled with the bytes from an offset on, and no call failed; or a read failed
abbrev pub Reads : Option (List ℕ) → Failures → Failures → ℕ → List ℕ → Result (Unit {0}) ReadFault → Type 0
Reads content old new at buf (Ok u) = (new ≡ old) × ((b : List ℕ) → content ≡ Some b → buf ≡ take (length buf) (drop at b))
Reads content old new at buf (Err fault) = HasFailed content old new at (length buf) fault.at
