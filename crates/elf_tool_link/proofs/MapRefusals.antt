-- What `map` prints, item by item, and what it refuses.
use Rattle.std.proofs.Common.{◌≡◌, ℕ, List, [], ◌∷◌, length, refl, ◌+◌, ◌++◌, ap, get_or, sym, ◌∙◌, arith, length-append, Option, inl, inr}
use Rattle.std.specs.List.{flat_map, range_with_len}
use Rattle.std.proofs.Math.Seq.{get_or-append_seam}
use Rattle.std.proofs.lemmas.List.{append_assoc}
use Rattle.std.specs.Prelude.{Some}
use Rattle.elf_link_field.specs.declared.rule.RelocRule.{RelocRule}
use Rattle.elf_link_files.specs.declared.fault.LinkFault.{LinkFault}
use Rattle.elf_link_files.specs.declared.fault.Options.{Options}
use Rattle.elf_link_map.specs.LinkMap.{LinkMapValue}
use Rattle.elf_link_relocate.specs.Fields.{IsRelocationFault}
use Rattle.elf_object_type.specs.Object.{ObjectValue}
use Rattle.elf_tool_link.specs.Map.{MapSays, RelocationSays, SaysUnlinked}
use Rattle.elf_tool_link.specs.ObjectFiles.{IsUnlinked, link_unlinked}
use Rattle.elf_tool_link.specs.declared.mapped.Unlinked.TheVariants.{Refused, OutOfMemory}
use Rattle.elf_tool_link.specs.declared.mapped.Unlinked.{Unlinked}
use Rattle.elf_tool_check.specs.declared.calls.Refusal.TheVariants.{File, Link, TooLong}
use Rattle.elf_tool_check.specs.declared.calls.Verdict.{Verdict}
use Rattle.elf_link_files.specs.declared.fault.LinkFault.TheVariants as link

-- Texts of the items of a list, by position and without.

module _ {A : Type 0} (text : A → List ℕ) (none : A) (all : List A) where
  from_position : (before xs : List A) → all ≡ before ++ xs →
      flat_map (λ k. text (get_or all k none)) (range_with_len (length before) (length xs)) ≡ flat_map text xs
  from_position before [] same = refl
  from_position before (x ∷ xs) same =
      let here : get_or all (length before) none ≡ x =
      ap (λ (ys : List A). get_or ys (length before) none) same ∙ get_or-append_seam before x xs none in
      let more = from_position (before ++ x ∷ []) xs (same ∙ sym (append_assoc before (x ∷ []) xs)) in
      let next : length before + 1 ≡ length (before ++ x ∷ []) = (let long = length-append before (x ∷ []) in omega arith) in
      ap (λ (y : A). text y ++ flat_map (λ k. text (get_or all k none)) (range_with_len ((length before + 1)) (length xs))) here ∙
      ap (λ (n : ℕ). text x ++ flat_map (λ k. text (get_or all k none)) (range_with_len n (length xs))) next ∙
      ap (λ (ys : List ℕ). text x ++ ys) more

  pub by_position : flat_map (λ k. text (get_or all k none)) (range_with_len 0 (length all)) ≡ flat_map text all
  by_position = from_position [] all refl

-- What is refused, as what `map` says of files.

pub files_refused : (opt : Options) (rules : Option (List RelocRule)) (files : List (List ℕ)) (unlinked : Unlinked) (v : Verdict)
    (text : List ℕ) →
    IsUnlinked opt files unlinked → SaysUnlinked unlinked v text → MapSays opt rules files v text
files_refused opt rules files (Refused (File file rule at)) v text is said = rw said.0 (inr (is, said.1))
files_refused opt rules files (Refused (Link rule file index entry)) v text (fs, are, stands) said =
    rw said.0 (inl (fs, are, inr (stands, said.1)))
files_refused opt rules files (Refused TooLong) v text is said = absurd is
files_refused opt rules files OutOfMemory v text is said = absurd said

pub relocation_refused : (rules : List RelocRule) (fs : List ObjectValue) (m : LinkMapValue) (fault : LinkFault) (v : Verdict)
    (text : List ℕ) →
    IsRelocationFault fs m rules fault → SaysUnlinked (link_unlinked fault) v text → RelocationSays (Some rules) fs m v text
relocation_refused rules fs m (link.Rule rule file index entry) v text is said = rw said.0 (is, said.1)
relocation_refused rules fs m link.OutOfMemory v text is said = absurd said
