-- By the rules one after the other: each is broken at a section, a symbol or an entry of the objects, or is about no record.
use Rattle.std.proofs.Common.{◌≡◌, ◌≢◌, ◌∙◌, ℕ, List, ap, inl, inr, refl, subst}
use Rattle.std.specs.Prelude.{None, Option, Some}
use Rattle.elf_link_field.specs.declared.rule.RelocRule.{RelocRule}
use Rattle.elf_link_files.specs.Rows.{FirstAt}
use Rattle.elf_link_files.specs.declared.fault.Options.{Options}
use Rattle.elf_link_files.specs.declared.site.Site.{Site}
use Rattle.elf_link_map.specs.LinkMap.{FirstOfLink, LinkMapValue}
use Rattle.elf_link_names.specs.Binds.{input_rules}
use Rattle.elf_link_relocate.specs.Fields.{applied_entry_rules}
use Rattle.elf_object_type.specs.Object.{ObjectValue}
use Rattle.elf_tool_laws.proofs.Found.{entry_found, section_found, symbol_found}
use Rattle.elf_tool_link.specs.ObjectFiles.{AreObjectFiles}
use Rattle.elf_tool_link.specs.Places.{IsRecordAt, subject_of}
use Rattle.elf_tool_link.specs.declared.places.RecordPlace.{RecordPlace}

module _ (files : List (List ℕ)) (fs : List ObjectValue) (are : AreObjectFiles files fs) (x : ℕ × Site) (found : Option RecordPlace)
    (is : IsRecordAt files (subject_of x.0) x.1 found) where
  -- by the number of the rule
  by_number : (n : ℕ) → x.0 ≡ n → IsRecordAt files (subject_of n) x.1 found
  by_number n same = subst (λ (number : ℕ). IsRecordAt files (subject_of number) x.1 found) same is

  none_asked : (n : ℕ) → x.0 ≡ n → subject_of n ≡ None → subject_of x.0 ≢ None → found ≢ None
  none_asked n same none some = absurd (some (ap subject_of same ∙ none))

  input_found : (opt : Options) → FirstAt (input_rules opt fs) (Some x) → subject_of x.0 ≢ None → found ≢ None
  input_found opt (inl (same, first)) some = none_asked 1 same refl some
  input_found opt (inr (_, inl (same, first))) some = none_asked 2 same refl some
  input_found opt (inr (_, inr (_, inl (same, first)))) some =
      section_found files fs x.1 found are first.stands.0 first.stands.1 (by_number 3 same)
  input_found opt (inr (_, inr (_, inr (_, inl (same, first))))) some =
      section_found files fs x.1 found are first.stands.0 first.stands.1 (by_number 4 same)
  input_found opt (inr (_, inr (_, inr (_, inr (_, inl (same, first)))))) some =
      section_found files fs x.1 found are first.stands.0 first.stands.1 (by_number 5 same)
  input_found opt (inr (_, inr (_, inr (_, inr (_, inr (_, inl (same, first))))))) some =
      symbol_found files fs x.1 found are first.stands.0 first.stands.1 (by_number 6 same)
  input_found opt (inr (_, inr (_, inr (_, inr (_, inr (_, inr (_, inl (same, first)))))))) some =
      symbol_found files fs x.1 found are first.stands.0 first.stands.1 (by_number 7 same)
  input_found opt (inr (_, inr (_, inr (_, inr (_, inr (_, inr (_, inr (_, inl (same, first))))))))) some =
      symbol_found files fs x.1 found are first.stands.0 first.stands.1 (by_number 8 same)
  input_found opt (inr (_, inr (_, inr (_, inr (_, inr (_, inr (_, inr (_, inr (_, inl (same, first)))))))))) some =
      symbol_found files fs x.1 found are first.stands.0 first.stands.1 (by_number 9 same)
  input_found opt (inr (_, inr (_, inr (_, inr (_, inr (_, inr (_, inr (_, inr (_, inr (_, never)))))))))) some = absurd never

  pub link_found : (opt : Options) → FirstOfLink opt fs (Some x) → subject_of x.0 ≢ None → found ≢ None
  link_found opt (inl first) some = input_found opt first some
  link_found opt (inr (clean, (l, plan, inl (same, first)))) some = none_asked 10 same refl some
  link_found opt (inr (clean, (l, plan, inr (_, inl (same, first))))) some = none_asked 11 same refl some
  link_found opt (inr (clean, (l, plan, inr (_, inr (_, never))))) some = absurd never

  pub relocation_found : (rules : List RelocRule) (m : LinkMapValue) → FirstAt (applied_entry_rules fs m rules) (Some x) → found ≢ None
  relocation_found rules m (inl (same, first)) = entry_found files fs x.1 found are first.stands.0.0 (by_number 12 same)
  relocation_found rules m (inr (_, inl (same, first))) =
      entry_found files fs x.1 found are first.stands.1.applied.0 (by_number 13 same)
  relocation_found rules m (inr (_, inr (_, inl (same, first)))) =
      entry_found files fs x.1 found are first.stands.1.applied.0 (by_number 14 same)
  relocation_found rules m (inr (_, inr (_, inr (_, inl (same, first))))) =
      entry_found files fs x.1 found are first.stands.1.applied.0 (by_number 15 same)
  relocation_found rules m (inr (_, inr (_, inr (_, inr (_, inl (same, first)))))) =
      entry_found files fs x.1 found are first.stands.1.applied.0 (by_number 16 same)
  relocation_found rules m (inr (_, inr (_, inr (_, inr (_, inr (_, never)))))) = absurd never
