-- What `link` reads, and what it refuses.
use Rattle.std.proofs.Common.{◌≡◌, ◌∙◌, ℕ, ◌<◌, ◌≤◌, List, [], ◌∷◌, ◌++◌, ap, arith, get_or, length, map, subst, sym, MatchResult, Option}
use Rattle.std.proofs.Common.{Result, Ok, Err, inl, inr, refl}
use Rattle.std.proofs.lemmas.List.{get_or-map, length-map}
use Rattle.std.proofs.KnownBytes.{Appends-nil, Keeps-refl}
use Rattle.elf_link_field.specs.declared.rule.RelocRule.{RelocRule}
use Rattle.elf_link_files.specs.declared.fault.LinkFault.{LinkFault}
use Rattle.elf_link_files.specs.declared.fault.Options.{Options}
use Rattle.elf_link_map.specs.LinkMap.{LinkMapValue}
use Rattle.elf_link_relocate.specs.Fields.{IsRelocationFault}
use Rattle.elf_object_type.specs.Object.{ObjectValue}
use Rattle.elf_tool_link.specs.Link.{FilesLink, MapLinks, unlinked_length, unlinked_verdict}
use Rattle.elf_tool_link.specs.ObjectFiles.{AreObjectFiles, BeginAsObjects, IsFirstRefused, IsObjectFile, IsRefusedFile, IsUnlinked}
use Rattle.elf_tool_link.specs.ObjectFiles.{link_unlinked}
use Rattle.elf_tool_link.specs.declared.mapped.Unlinked.TheVariants.{Refused, OutOfMemory}
use Rattle.elf_tool_link.specs.declared.mapped.Unlinked.{Unlinked}
use Rattle.elf_tool_check.specs.Engine.{HasLength, Prints}
use Rattle.elf_tool_check.specs.declared.calls.Refusal.TheVariants.{File, Link, TooLong}
use Rattle.elf_tool_check.specs.declared.calls.ToolFault.TheVariants as fault
use Rattle.elf_tool_check.specs.declared.calls.Verdict.{Verdict}
use Rattle.elf_link_files.specs.declared.fault.LinkFault.TheVariants as link

-- Files as objects, file by file. A file that is an object is one more; the first that is not is refused, with all before it objects;
-- after the last file all are objects.

-- one more file is an object
pub one_more : (files : List (List ℕ)) (objects : List ObjectValue) (d : List ℕ) (o : ObjectValue) → length objects < length files
    → BeginAsObjects files objects → IsObjectFile (get_or files (length objects) d) o → BeginAsObjects files (objects ++ o ∷ [])
one_more [] objects d o within begin is = absurd (omega arith)
one_more (b ∷ files) [] d o within begin is = (is, tt)
one_more (b ∷ files) (p ∷ objects) d o within begin is = (begin.0, one_more files objects d o (omega arith) begin.1 is)

-- or it is the first one that is refused
pub first_refused : (files : List (List ℕ)) (objects : List ObjectValue) (d : List ℕ) (rule at : ℕ) → length objects < length files
    → BeginAsObjects files objects → IsRefusedFile (get_or files (length objects) d) rule at → IsFirstRefused files (length objects) rule at
first_refused [] objects d rule at within begin is = absurd (omega arith)
first_refused (b ∷ files) [] d rule at within begin is = is
first_refused (b ∷ files) (p ∷ objects) d rule at within begin is =
    ((p, begin.0), first_refused files objects d rule at (omega arith) begin.1 is)

-- all of them are
pub all_objects : (files : List (List ℕ)) (objects : List ObjectValue) → length files ≤ length objects → BeginAsObjects files objects
    → AreObjectFiles files objects
all_objects [] [] past begin = tt
all_objects [] (o ∷ objects) past begin = absurd begin
all_objects (b ∷ files) [] past begin = absurd (omega arith)
all_objects (b ∷ files) (o ∷ objects) past begin = (begin.0, all_objects files objects (omega arith) begin.1)

-- the same of a list of files by their bytes
module _ {X : Type 0} (bytes : X → List ℕ) (xs : List X) (objects : List ObjectValue) (d : X)
    (begin : BeginAsObjects (map bytes xs) objects) where
  pub next_object : (i : ℕ) (b : List ℕ) (o : ObjectValue) → length objects ≡ i → i < length xs → b ≡ bytes (get_or xs i d) →
      IsObjectFile b o
      → BeginAsObjects (map bytes xs) (objects ++ o ∷ [])
  next_object i b o same within is object =
      let long = length-map xs bytes in
      let at : b ≡ get_or (map bytes xs) (length objects) (bytes d) =
      is ∙ sym (get_or-map bytes xs i d (bytes d) within) ∙ ap (λ (n : ℕ). get_or (map bytes xs) n (bytes d)) (sym same) in
      one_more (map bytes xs) objects (bytes d) o (omega arith) begin (subst (λ (c : List ℕ). IsObjectFile c o) at object)

  pub next_refused : (i : ℕ) (b : List ℕ) (rule at : ℕ) → length objects ≡ i → i < length xs → b ≡ bytes (get_or xs i d) →
      IsRefusedFile b rule at
      → IsFirstRefused (map bytes xs) i rule at
  next_refused i b rule offset same within is refused =
      let long = length-map xs bytes in
      let at : b ≡ get_or (map bytes xs) (length objects) (bytes d) =
      is ∙ sym (get_or-map bytes xs i d (bytes d) within) ∙ ap (λ (n : ℕ). get_or (map bytes xs) n (bytes d)) (sym same) in
      subst (λ (n : ℕ). IsFirstRefused (map bytes xs) n rule offset) same
      (first_refused (map bytes xs) objects (bytes d) rule offset (omega arith) begin
      (subst (λ (c : List ℕ). IsRefusedFile c rule offset) at refused))

-- What is refused, as what `link` makes of files: nothing is written.

pub files_refused : (opt : Options) (rules : List RelocRule) (files : List (List ℕ)) (unlinked : Unlinked) (held : Option (List ℕ)) →
    IsUnlinked opt files unlinked → Prints (FilesLink opt rules files) held held (unlinked_verdict unlinked)
files_refused opt rules files (Refused (File file rule at)) held is = ([], inr (is, refl), Appends-nil held)
files_refused opt rules files (Refused (Link rule file index entry)) held (fs, are, stands) =
    ([], inl (fs, are, inr (stands, refl)), Appends-nil held)
files_refused opt rules files (Refused TooLong) held is = absurd is
files_refused opt rules files OutOfMemory held is = Keeps-refl held

pub relocation_refused : (rules : List RelocRule) (fs : List ObjectValue) (m : LinkMapValue) (fault : LinkFault) (held : Option (List ℕ)) →
    IsRelocationFault fs m rules fault → Prints (MapLinks rules fs m) held held (unlinked_verdict (link_unlinked fault))
relocation_refused rules fs m (link.Rule rule file index entry) held is = ([], inr (is, refl), Appends-nil held)
relocation_refused rules fs m link.OutOfMemory held is = Keeps-refl held

-- How long what is said is, said of other words; nothing is as long as 0 bytes.

pub length_as : {E : Type 0} (Fails : E → Type 0) (P Q : Verdict → List ℕ → Type 0) (result : Result (Verdict × ℕ) E) →
    ((v : Verdict) (t : List ℕ) → P v t → Q v t) → MatchResult result (HasLength P) Fails → MatchResult result (HasLength Q) Fails
length_as Fails P Q (Ok said) into (t, says, long) = (t, into said.0 t says, long)
length_as Fails P Q (Err fault) into fails = fails

pub no_file_length : (opt : Options) (rules : List RelocRule) (files : List (List ℕ)) (unlinked : Unlinked) →
    IsUnlinked opt files unlinked →
    MatchResult (unlinked_length unlinked) (HasLength (FilesLink opt rules files)) (λ out. out ≡ fault.OutOfMemory)
no_file_length opt rules files (Refused (File file rule at)) is = ([], inr (is, refl), refl)
no_file_length opt rules files (Refused (Link rule file index entry)) (fs, are, stands) = ([], inl (fs, are, inr (stands, refl)), refl)
no_file_length opt rules files (Refused TooLong) is = absurd is
no_file_length opt rules files OutOfMemory is = refl

pub no_exec_length : (rules : List RelocRule) (fs : List ObjectValue) (m : LinkMapValue) (cause : LinkFault) →
    IsRelocationFault fs m rules cause →
    MatchResult (unlinked_length (link_unlinked cause)) (HasLength (MapLinks rules fs m)) (λ out. out ≡ fault.OutOfMemory)
no_exec_length rules fs m (link.Rule rule file index entry) is = ([], inr (is, refl), refl)
no_exec_length rules fs m link.OutOfMemory is = refl
