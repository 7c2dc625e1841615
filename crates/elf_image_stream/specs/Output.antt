-- What writing a list of bytes does to what a writer holds.
use Rattle.std.specs.Prelude.{ℕ, ◌<◌, List, length, take, Option, Result, MatchResult, ◌≡◌, ◌+◌}
use Rattle.std.specs.Io.KnownBytes.{Appends}
use Rattle.std.specs.Io.Iter.{u64_saturate}
use Rattle.elf_image_stream.specs.declared.fault.WriteFault.{WriteFault}

-- all of the bytes were written, or exactly the first `written` of them, fewer than all, and then the writer failed
abbrev pub Writes : {T : Type 0} → Option (List ℕ) → Option (List ℕ) → List ℕ → Result T WriteFault → Type 0
Writes old new bytes result =
    MatchResult result (λ _. Appends old new bytes) (λ fault. (fault.written < length bytes) × Appends old new (take fault.written bytes))

-- A text that is written chunk by chunk, with the count of the bytes that are written: 2 ^ 64 - 1 if they are more.

-- after `out` bytes all of a text was written, and `all` is the count of both
abbrev pub WentOut : Option (List ℕ) → Option (List ℕ) → ℕ → List ℕ → ℕ → Type 0
WentOut old new out text all = (all ≡ u64_saturate (out + length text)) × Appends old new text

-- after `out` bytes only the first ones of a text were written, and `written` is the count of both
abbrev pub StoppedIn : Option (List ℕ) → Option (List ℕ) → ℕ → List ℕ → ℕ → Type 0
StoppedIn old new out text written =
    (n : ℕ) × (written ≡ u64_saturate (out + n)) × (n < length text) × Appends old new (take n text)

-- all of a text is written, or the first bytes of it, fewer than all, and the writer failed
abbrev pub Sends : Option (List ℕ) → Option (List ℕ) → ℕ → List ℕ → Result ℕ WriteFault → Type 0
Sends old new out text result =
    MatchResult result (WentOut old new out text) (λ fault. StoppedIn old new out text fault.written)
