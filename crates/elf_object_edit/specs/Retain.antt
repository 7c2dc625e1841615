-- An object with the sections that a closure keeps: by the results of its calls, and by a test that it computes. (gABI chapter 4,
-- Sections.)
use Rattle.std.specs.Prelude.{◌≡◌, ◌<◌, ℕ, Bool, not, false, List, get_or, length, map}
use Rattle.std.specs.Fn.{Shared}
use Rattle.std.specs.List.{range_with_len}
use denote.Ref.{Bor}
use Rattle.elf_object_edit.specs.Without.{AreUnneeded, IsWithoutFault, object_without}
use Rattle.elf_object_edit.specs.declared.fault.WithoutFault.TheVariants.{Dangling, OutOfMemory}
use Rattle.elf_object_edit.specs.declared.fault.WithoutFault.{WithoutFault}
use Rattle.elf_object_type.specs.Object.{ObjectValue, SectionValue, section_at}
use Rattle.elf_object_type.specs.ObjectView.{section_value}
use Rattle.elf_object_type.specs.declared.parts.Section.{Section}

-- Where the closure computes a test of a position and its section: then the test says what stays.

-- each call of `keep` returns what the test says
abbrev pub ComputesTest : {F : Type 0} → Shared F (ℕ × (Bor Section × Unit {0})) Bool → F → (ℕ → SectionValue → Bool) → Type 0
ComputesTest g keep test = (p : ℕ) (s : Bor Section) (b : Bool) → g.post keep (p, (s, tt)) b → b ≡ test p (section_value s.now)

-- a mark for each section: whether it fails the test
abbrev pub failing_sections : ObjectValue → (ℕ → SectionValue → Bool) → List Bool
failing_sections o test = map (λ p. not (test p (section_at o p))) (range_with_len 0 (length o.sections))

-- the object with just the sections that pass the test, and without the symbols that are defined in others
unfoldable pub object_retained : ObjectValue → (ℕ → SectionValue → Bool) → ObjectValue
object_retained o test = object_without o (failing_sections o test)

-- For any closure: the result of one call for each section says whether it stays.

-- a call of `keep` for section p returned this
pub record IsResultAt {F : Type 0} (g : Shared F (ℕ × (Bor Section × Unit {0})) Bool) (keep : F) (o : ObjectValue) (p : ℕ)
    (result : Bool) : Type 0 where
  pub section : Bor Section
  pub section_is : section_value section.now ≡ section_at o p
  pub returned : g.post keep (p, (section, tt)) result

-- a mark for each section: whether a call of `keep` for it returned false
pub record AreRejected {F : Type 0} (g : Shared F (ℕ × (Bor Section × Unit {0})) Bool) (keep : F) (o : ObjectValue)
    (left_out : List Bool) : Type 0 where
  pub long : length left_out ≡ length o.sections
  pub each : (p : ℕ) → p < length o.sections → IsResultAt g keep o p (not (get_or left_out p false))

-- the object without just the sections that `keep` rejected, where nothing else refers to them
pub record IsRetained {F : Type 0} (g : Shared F (ℕ × (Bor Section × Unit {0})) Bool) (keep : F) (o rest : ObjectValue) : Type 0 where
  pub left_out : List Bool
  pub rejected : AreRejected g keep o left_out
  pub rest_is : rest ≡ object_without o left_out
  pub unneeded : AreUnneeded o left_out

-- the first reference to one of them, or to a symbol in one; out of memory says nothing
abbrev pub IsRetainFault : {F : Type 0} → Shared F (ℕ × (Bor Section × Unit {0})) Bool → F → ObjectValue → WithoutFault → Type 0
IsRetainFault g keep o (Dangling i r) = (left_out : List Bool) × AreRejected g keep o left_out × IsWithoutFault o left_out (Dangling i r)
IsRetainFault g keep o OutOfMemory = Unit {0}
