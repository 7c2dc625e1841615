-- A source with one byte changed.
use Rattle.std.specs.Prelude.{ℕ, List, Option, None, Some, set}

-- the bytes that a source reports, with another one at an offset, if a byte is there; a source that reports none still reports none
abbrev pub with_byte : ℕ → ℕ → Option (List ℕ) → Option (List ℕ)
with_byte at value None = None
with_byte at value (Some bytes) = Some (set bytes at value)
