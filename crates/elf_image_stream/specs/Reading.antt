-- What reading a whole file returns besides its bytes.
use Rattle.std.specs.Prelude.{◌≡◌, ℕ, List, Option, ◌++◌}
use Rattle.std.specs.Io.KnownBytes.{Consumes}
use Rattle.elf_image_stream.specs.declared.fault.Fault.{Fault}
use Rattle.elf_image_stream.specs.declared.fault.Fault.TheVariants.{OutOfMemory, Io, Rule}
use Rattle.elf_image_stream.specs.declared.fault.InputFault.TheVariants.{OutOfMemory as NoMemory, Io as FailedAt}
use Rattle.elf_image_stream.specs.declared.fault.InputFault.{InputFault}

-- a fault of reading, after so many bytes: it reports their number, or an allocation failed; no rule is tested yet
abbrev pub IsReadFault : Fault → ℕ → Type 0
IsReadFault OutOfMemory count = Unit {0}
IsReadFault (Io at) count = at ≡ count
IsReadFault (Rule rule at) count = ⊥

-- the same where no rule can be named
abbrev pub IsInputFailure : InputFault → ℕ → Type 0
IsInputFailure NoMemory count = Unit {0}
IsInputFailure (FailedAt at) count = at ≡ count

-- what a buffer holds then is what it held, and after it what the reader gave
pub record AppendsRead (before after : Option (List ℕ)) (old new : List ℕ) : Type 0 where
  pub given : List ℕ
  pub appended : new ≡ old ++ given
  pub taken : Consumes before after given
