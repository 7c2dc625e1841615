-- What a closure keeps of an object. If it computes a test, each of its marks is what the test says of its section, so the marks are those
-- of the test.
use Rattle.std.proofs.Common.{◌≡◌, ℕ, ◌<◌, Bool, true, false, List, get_or, length, sym, ap, ◌∙◌, arith, zero-add, Result, Ok, Err}
use Rattle.std.specs.Prelude.{IfErr, IfOk, MatchResult, OnOk, not}
use Rattle.std.specs.Fn.{Shared}
use Rattle.std.proofs.lemmas.List.{ext_get_or}
use Rattle.std.proofs.lemmas.List.FromFn.{get_or-map-range_with_len, length-map-range_with_len}
use denote.Ref.{Bor}
use Rattle.elf_object_edit.specs.Retain.{AreRejected, ComputesTest, IsRetainFault, IsRetained, failing_sections}
use Rattle.elf_object_edit.specs.Without.{AreUnneeded, IsWithoutFault, object_without}
use Rattle.elf_object_edit.specs.declared.fault.WithoutFault.TheVariants.{Dangling, OutOfMemory}
use Rattle.elf_object_edit.specs.declared.fault.WithoutFault.{WithoutFault}
use Rattle.elf_object_type.specs.Object.{ObjectValue, SectionValue, section_at}
use Rattle.elf_object_type.specs.declared.parts.Section.{Section}

mark_of_test : (b t : Bool) → not b ≡ t → b ≡ not t
mark_of_test true t is = ap not is
mark_of_test false t is = ap not is

pub rejected_fail : {F : Type 0} (g : Shared F (ℕ × (Bor Section × Unit {0})) Bool) (keep : F) (o : ObjectValue) (left_out : List Bool)
    (test : ℕ → SectionValue → Bool) → AreRejected g keep o left_out → ComputesTest g keep test → left_out ≡ failing_sections o test
rejected_fail g keep o left_out test rejected computes =
    let fails : ℕ → Bool = λ p. not (test p (section_at o p)) in
    let n = length o.sections in
    ext_get_or false left_out (failing_sections o test) (rejected.long ∙ sym (length-map-range_with_len fails 0 n)) (λ p lt. (
    let long = rejected.long in
    let within : p < n = omega arith in
    let call = rejected.each p within in
    let says = computes p call.section (not (get_or left_out p false)) call.returned in
    mark_of_test (get_or left_out p false) (test p (section_at o p)) (says ∙ ap (test p) call.section_is) ∙
    sym (get_or-map-range_with_len fails 0 n p p false within (zero-add p))))

pub retained_by_results : {F : Type 0} (g : Shared F (ℕ × (Bor Section × Unit {0})) Bool) (keep : F) (o : ObjectValue)
    (left_out : List Bool) (result : Result ObjectValue WithoutFault) → AreRejected g keep o left_out →
    IfOk result (λ rest. rest ≡ object_without o left_out) →
    OnOk result (AreUnneeded o left_out) → IfErr result (IsWithoutFault o left_out) →
    MatchResult result (IsRetained g keep o) (IsRetainFault g keep o)
retained_by_results g keep o left_out (Ok rest) rejected is unneeded fault =
    record { left_out = left_out; rejected = rejected; rest_is = is; unneeded = unneeded }
retained_by_results g keep o left_out (Err (Dangling i r)) rejected is unneeded fault = (left_out, rejected, fault)
retained_by_results g keep o left_out (Err OutOfMemory) rejected is unneeded fault = tt
