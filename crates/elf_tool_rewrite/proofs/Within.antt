-- What is said of the object that a file denotes is said of the file, and so is why it denotes none. What is said of an object whose file
-- is known is this file: so its length is the one that the layout has.
use Rattle.std.proofs.Common.{◌≡◌, ◌∙◌, ◌≤◌, ℕ, List, [], Option, Result, Ok, Err, ap, arith, inl, length, refl, subst, sym}
use Rattle.std.specs.Io.KnownBytes.{Keeps}
use Rattle.std.proofs.KnownBytes.{Appends-nil, Keeps-refl}
use Rattle.elf_image_stream.specs.declared.fault.BytesFault.TheVariants as fault
use Rattle.elf_image_stream.specs.declared.fault.BytesFault.{BytesFault}
use Rattle.elf_object_file.specs.ObjectFile.{IsWrittenFile}
use Rattle.elf_object_type.specs.Object.{ObjectValue}
use Rattle.elf_tool_check.specs.Engine.{Prints}
use Rattle.elf_tool_check.specs.declared.calls.ToolFault.TheVariants.{Read, Write, OutOfMemory}
use Rattle.elf_tool_check.specs.declared.calls.ToolFault.{ToolFault}
use Rattle.elf_tool_check.specs.declared.calls.Refusal.TheVariants.{File}
use Rattle.elf_tool_check.specs.declared.calls.Verdict.TheVariants.{Done, Refused}
use Rattle.elf_tool_check.specs.declared.calls.Verdict.{Verdict}
use Rattle.elf_tool_rewrite.proofs.OneRewrite.{of_object}
use Rattle.elf_tool_rewrite.specs.Rewrite.{DenotesNone, DenotesObject, ObjectSays, PrintsWithin, RewriteSays, unread_answer}

pub denoted_says : (b : List ℕ) (o : ObjectValue) → DenotesObject b o → (verdict : Verdict) (text : List ℕ) → ObjectSays o verdict text →
    RewriteSays b verdict text
denoted_says b o (v, image, (clean, denotes)) verdict text says = inl (v, image, inl (clean, (o, denotes, says)))

-- ---- no object

pub none_printed : (b : List ℕ) (old : Option (List ℕ)) (fault : BytesFault) → DenotesNone b fault →
    Prints (RewriteSays b) old old (unread_answer fault)
none_printed b old (fault.Rule rule at) says = ([], says, Appends-nil old)
none_printed b old fault.OutOfMemory done = Keeps-refl old

pub none_within : (b : List ℕ) (most : ℕ) (old : Option (List ℕ)) (fault : BytesFault) (verdict : Verdict) → DenotesNone b fault →
    unread_answer fault ≡ Ok verdict → PrintsWithin (RewriteSays b) most old old (Ok (verdict, 0))
none_within b most old (fault.Rule rule at) verdict says is =
    let same : Refused (File 0 rule at) ≡ verdict = cc in
    ([], subst (λ (v : Verdict). RewriteSays b v []) same says, refl, (λ fits. Appends-nil old), (λ long. Keeps-refl old))
none_within b most old fault.OutOfMemory verdict done is = absurd cc

pub none_fails : (b : List ℕ) (most : ℕ) (old : Option (List ℕ)) (fault : BytesFault) (failed : ToolFault) → DenotesNone b fault →
    unread_answer fault ≡ Err failed → PrintsWithin (RewriteSays b) most old old (Err failed)
none_fails b most old (fault.Rule rule at) failed says is = absurd cc
none_fails b most old fault.OutOfMemory (Read at) done is = absurd cc
none_fails b most old fault.OutOfMemory (Write written) done is = absurd cc
none_fails b most old fault.OutOfMemory OutOfMemory done is = Keeps-refl old

-- ---- an object

pub within_more : (Says More : Verdict → List ℕ → Type 0) (most : ℕ) (old new : Option (List ℕ)) →
    ((verdict : Verdict) (text : List ℕ) → Says verdict text → More verdict text) → (result : Result (Verdict × ℕ) ToolFault) →
    PrintsWithin Says most old new result → PrintsWithin More most old new result
within_more Says More most old new more (Ok (verdict, n)) (text, says, long, fits, over) =
    (text, more verdict text says, long, fits, over)
within_more Says More most old new more (Err (Read at)) said = said
within_more Says More most old new more (Err (Write written)) (verdict, text, says, cut) = (verdict, text, more verdict text says, cut)
within_more Says More most old new more (Err OutOfMemory) said = said

-- all of its file is written
pub file_within : (o : ObjectValue) (b : List ℕ) (n most : ℕ) (old new : Option (List ℕ)) (verdict : Verdict) → IsWrittenFile o b →
    n ≡ length b → n ≤ most → Prints (ObjectSays o) old new (Ok verdict) → PrintsWithin (ObjectSays o) most old new (Ok (verdict, n))
file_within o b n most old new verdict file long fits (text, says, out) =
    let one = of_object o verdict Done text b says file in
    (text, says, long ∙ ap length (sym one.1), (λ fit. out), (λ more. absurd (omega arith)))
