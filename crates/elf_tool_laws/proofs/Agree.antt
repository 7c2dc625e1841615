-- `map` and `link` both say the first file that is refused, or else the first rule of the link that is broken, by cases on what each says.
-- There is one such answer, since files are one list of objects, which have one link map.
use Rattle.std.proofs.Common.{◌≡◌, ◌∙◌, ◌⊎◌, ℕ, List, ap, inl, inr, refl, subst, sym}
use Rattle.std.specs.Prelude.{None, Option, Some}
use Rattle.elf_link_field.specs.declared.rule.RelocRule.{RelocRule}
use Rattle.elf_link_files.proofs.Public.{one_found}
use Rattle.elf_link_files.specs.declared.fault.Options.{Options}
use Rattle.elf_link_files.specs.declared.site.Site.{Site}
use Rattle.elf_link_map.proofs.Public.{one_link_fault, one_link_map}
use Rattle.elf_link_map.specs.LinkMap.{FirstOfLink, IsLinkMap, LinkMapValue}
use Rattle.elf_link_relocate.specs.Fields.{applied_entry_rules}
use Rattle.elf_object_type.specs.Object.{ObjectValue}
use Rattle.elf_tool_check.proofs.SaysOne.{none_some, same_some}
use Rattle.elf_tool_check.specs.declared.calls.Refusal.TheVariants.{File, Link, TooLong}
use Rattle.elf_tool_check.specs.declared.calls.Verdict.TheVariants.{Done, Refused}
use Rattle.elf_tool_check.specs.declared.calls.Verdict.{Verdict}
use Rattle.elf_tool_laws.specs.Agree.{but_length}
use Rattle.elf_tool_link.proofs.OneInput.{objects_not_refused, one_objects, one_refused}
use Rattle.elf_tool_link.specs.Link.{FilesLink, MapLinks, RuleRefuses}
use Rattle.elf_tool_link.specs.Map.{LinkRefuses, MapSays, RelocationSays}
use Rattle.elf_tool_link.specs.ObjectFiles.{AreObjectFiles, IsFirstRefused}
use Rattle.elf_tool_link.specs.Verdicts.{FirstOfEntries, FirstOfObjects, IsLinkVerdict, SaysFirst}

abbrev at_site : ℕ → ℕ → ℕ → ℕ → ℕ × Site
at_site rule file index entry = (rule, record { file = file; index = index; entry = entry })

-- ---- what is said of objects is the verdict on their link

-- of the files that they are
of_objects : (opt : Options) (rules : Option (List RelocRule)) (files : List (List ℕ)) (fs : List ObjectValue) → AreObjectFiles files fs →
    (v : Verdict) → SaysFirst (FirstOfObjects opt rules fs) v → IsLinkVerdict opt rules files v
of_objects opt rules files fs are Done says = (fs, are, says)
of_objects opt rules files fs are (Refused (File file rule at)) says = absurd says
of_objects opt rules files fs are (Refused (Link rule file index entry)) says = (fs, are, says)
of_objects opt rules files fs are (Refused TooLong) says = absurd says

-- ---- `map`

relocation_verdict : (opt : Options) (rules : Option (List RelocRule)) (fs : List ObjectValue) (m : LinkMapValue) (v : Verdict)
    (s : List ℕ) → FirstOfLink opt fs None → IsLinkMap opt fs m → RelocationSays rules fs m v s → SaysFirst (FirstOfObjects opt rules fs) v
relocation_verdict opt None fs m Done s clean is says = inl (clean, (m, is, refl))
relocation_verdict opt (Some rules) fs m Done s clean is (l, linked, text) = inl (clean, (m, is, linked.sound))
relocation_verdict opt (Some rules) fs m (Refused (Link rule file index entry)) s clean is (first, text) = inl (clean, (m, is, first))
relocation_verdict opt None fs m (Refused (Link rule file index entry)) s clean is says = absurd says
relocation_verdict opt None fs m (Refused (File file rule at)) s clean is says = absurd says
relocation_verdict opt (Some rules) fs m (Refused (File file rule at)) s clean is says = absurd says
relocation_verdict opt None fs m (Refused TooLong) s clean is says = absurd says
relocation_verdict opt (Some rules) fs m (Refused TooLong) s clean is says = absurd says

refused_verdict : (opt : Options) (rules : Option (List RelocRule)) (fs : List ObjectValue) (v : Verdict) (s : List ℕ) →
    LinkRefuses opt fs v s → SaysFirst (FirstOfObjects opt rules fs) v
refused_verdict opt rules fs Done s says = absurd says
refused_verdict opt rules fs (Refused (File file rule at)) s says = absurd says
refused_verdict opt rules fs (Refused (Link rule file index entry)) s (first, text) =
    inr ((rule, record { file = file; index = index; entry = entry }, refl), first)
refused_verdict opt rules fs (Refused TooLong) s says = absurd says

pub map_verdict : (opt : Options) (rules : Option (List RelocRule)) (files : List (List ℕ)) (v : Verdict) (s : List ℕ) →
    MapSays opt rules files v s → IsLinkVerdict opt rules files v
map_verdict opt rules files v s (inl (fs, are, inl (clean, (m, is, says)))) =
    of_objects opt rules files fs are v (relocation_verdict opt rules fs m v s clean is says)
map_verdict opt rules files v s (inl (fs, are, inr refuses)) =
    of_objects opt rules files fs are v (refused_verdict opt rules fs v s refuses)
map_verdict opt rules files Done s (inr says) = absurd says
map_verdict opt rules files (Refused (File file rule at)) s (inr (first, text)) = first
map_verdict opt rules files (Refused (Link rule file index entry)) s (inr says) = absurd says
map_verdict opt rules files (Refused TooLong) s (inr says) = absurd says

-- ---- `link`

map_links_verdict : (opt : Options) (rules : List RelocRule) (fs : List ObjectValue) (m : LinkMapValue) (v : Verdict) (s : List ℕ) →
    FirstOfLink opt fs None → IsLinkMap opt fs m → MapLinks rules fs m v s → SaysFirst (FirstOfObjects opt (Some rules) fs) (but_length v)
map_links_verdict opt rules fs m Done s clean is (inl (sound, says)) = inl (clean, (m, is, sound))
map_links_verdict opt rules fs m Done s clean is (inr never) = absurd never
map_links_verdict opt rules fs m (Refused (File file rule at)) s clean is (inl (sound, never)) = absurd never
map_links_verdict opt rules fs m (Refused (File file rule at)) s clean is (inr never) = absurd never
map_links_verdict opt rules fs m (Refused (Link rule file index entry)) s clean is (inl (sound, never)) = absurd never
map_links_verdict opt rules fs m (Refused (Link rule file index entry)) s clean is (inr (first, none)) = inl (clean, (m, is, first))
map_links_verdict opt rules fs m (Refused TooLong) s clean is (inl (sound, says)) = inl (clean, (m, is, sound))
map_links_verdict opt rules fs m (Refused TooLong) s clean is (inr never) = absurd never

rule_verdict : (opt : Options) (rules : List RelocRule) (fs : List ObjectValue) (v : Verdict) (s : List ℕ) →
    RuleRefuses (λ rule site. FirstOfLink opt fs (Some (rule, site))) v s → SaysFirst (FirstOfObjects opt (Some rules) fs) (but_length v)
rule_verdict opt rules fs Done s never = absurd never
rule_verdict opt rules fs (Refused (File file rule at)) s never = absurd never
rule_verdict opt rules fs (Refused (Link rule file index entry)) s (first, none) =
    inr ((rule, record { file = file; index = index; entry = entry }, refl), first)
rule_verdict opt rules fs (Refused TooLong) s never = absurd never

pub link_verdict : (opt : Options) (rules : List RelocRule) (files : List (List ℕ)) (v : Verdict) (s : List ℕ) →
    FilesLink opt rules files v s → IsLinkVerdict opt (Some rules) files (but_length v)
link_verdict opt rules files v s (inl (fs, are, inl (clean, (m, is, says)))) =
    of_objects opt (Some rules) files fs are (but_length v) (map_links_verdict opt rules fs m v s clean is says)
link_verdict opt rules files v s (inl (fs, are, inr refuses)) =
    of_objects opt (Some rules) files fs are (but_length v) (rule_verdict opt rules fs v s refuses)
link_verdict opt rules files Done s (inr says) = absurd says
link_verdict opt rules files (Refused (File file rule at)) s (inr (first, none)) = first
link_verdict opt rules files (Refused (Link rule file index entry)) s (inr says) = absurd says
link_verdict opt rules files (Refused TooLong) s (inr says) = absurd says

-- ---- there is one verdict

one_of_entries : (rules : Option (List RelocRule)) (fs : List ObjectValue) (m : LinkMapValue) (x y : Option (ℕ × Site)) →
    FirstOfEntries rules fs m x → FirstOfEntries rules fs m y → x ≡ y
one_of_entries None fs m x y one other = one ∙ sym other
one_of_entries (Some rules) fs m x y one other = one_found (applied_entry_rules fs m rules) x y one other

one_of_objects : (opt : Options) (rules : Option (List RelocRule)) (fs : List ObjectValue) (x y : Option (ℕ × Site)) →
    FirstOfObjects opt rules fs x → FirstOfObjects opt rules fs y → x ≡ y
one_of_objects opt rules fs x y (inl (clean, (m, is, one))) (inl (sound, (n, also, other))) =
    one_of_entries rules fs m x y one
    (subst (λ (k : LinkMapValue). FirstOfEntries rules fs k y) (one_link_map opt fs n m also is) other)
one_of_objects opt rules fs x y (inl (clean, one)) (inr ((rule, site, some), first)) =
    absurd (none_some (rule, site) (one_link_fault opt fs None y clean first ∙ some))
one_of_objects opt rules fs x y (inr ((rule, site, some), first)) (inl (clean, other)) =
    absurd (none_some (rule, site) (one_link_fault opt fs None x clean first ∙ some))
one_of_objects opt rules fs x y (inr (one, first)) (inr (other, second)) = one_link_fault opt fs x y first second

one_first : (Is : Option (ℕ × Site) → Type 0) → ((x y : Option (ℕ × Site)) → Is x → Is y → x ≡ y) → (v w : Verdict) → SaysFirst Is v →
    SaysFirst Is w → v ≡ w
one_first Is one Done Done says also = refl
one_first Is one Done (Refused (File file rule at)) says also = absurd also
one_first Is one Done (Refused (Link rule file index entry)) says also =
    absurd (none_some (at_site rule file index entry) (one None (Some (at_site rule file index entry)) says also))
one_first Is one Done (Refused TooLong) says also = absurd also
one_first Is one (Refused (File file rule at)) w says also = absurd says
one_first Is one (Refused (Link rule file index entry)) Done says also =
    absurd (none_some (at_site rule file index entry) (one None (Some (at_site rule file index entry)) also says))
one_first Is one (Refused (Link rule file index entry)) (Refused (File f r a)) says also = absurd also
one_first Is one (Refused (Link rule file index entry)) (Refused (Link r f i e)) says also =
    ap (λ (x : ℕ × Site). Refused (Link x.0 x.1.file x.1.index x.1.entry))
    (same_some (at_site rule file index entry) (at_site r f i e)
    (one (Some (at_site rule file index entry)) (Some (at_site r f i e)) says also))
one_first Is one (Refused (Link rule file index entry)) (Refused TooLong) says also = absurd also
one_first Is one (Refused TooLong) w says also = absurd says

-- a verdict says a file that is refused, or is on objects
on_objects : (opt : Options) (rules : Option (List RelocRule)) (files : List (List ℕ)) (v : Verdict) → IsLinkVerdict opt rules files v →
    ((x : ℕ × ℕ × ℕ) × IsFirstRefused files x.0 x.1 x.2 × (v ≡ Refused (File x.0 x.1 x.2)))
    ⊎ ((fs : List ObjectValue) × AreObjectFiles files fs × SaysFirst (FirstOfObjects opt rules fs) v)
on_objects opt rules files Done is = inr is
on_objects opt rules files (Refused (File file rule at)) first = inl ((file, rule, at), first, refl)
on_objects opt rules files (Refused (Link rule file index entry)) is = inr is
on_objects opt rules files (Refused TooLong) is = inr is

pub one_verdict : (opt : Options) (rules : Option (List RelocRule)) (files : List (List ℕ)) (v w : Verdict) →
    IsLinkVerdict opt rules files v → IsLinkVerdict opt rules files w → v ≡ w
one_verdict opt rules files v w is also = elim (on_objects opt rules files v is) [
  | inl (x, first, said) ↦ elim (on_objects opt rules files w also) [
    | inl (y, other, says) ↦
        said ∙ ap (λ (z : ℕ × ℕ × ℕ). Refused (File z.0 z.1 z.2)) (one_refused files x y first other) ∙ sym says
    | inr (gs, are, says) ↦ absurd (objects_not_refused files gs x are first)
  ]
  | inr (fs, are, said) ↦ elim (on_objects opt rules files w also) [
    | inl (y, other, says) ↦ absurd (objects_not_refused files fs y are other)
    | inr (gs, are_also, says) ↦
        one_first (FirstOfObjects opt rules fs) (one_of_objects opt rules fs) v w said
        (subst (λ (os : List ObjectValue). SaysFirst (FirstOfObjects opt rules os) w) (one_objects files gs fs are_also are) says)
  ]
]
