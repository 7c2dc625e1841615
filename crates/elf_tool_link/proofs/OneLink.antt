-- `link` prints at most one thing of files, by cases. They are one list of objects, or one file is refused first. The objects have one link
-- map and one executable, which is too long or not, or one rule is broken first. No two of these come together.
use Rattle.std.proofs.Common.{◌≡◌, ◌∙◌, ◌⊎◌, ℕ, List, [], ap, arith, inl, inr, length, refl, sym}
use Rattle.std.specs.Prelude.{None, Some}
use Rattle.elf_exec.proofs.Public.{one_exec}
use Rattle.elf_exec.specs.ExecWriting.{IsTooLongFor}
use Rattle.elf_exec.specs.Executable.{ExecLaid, ExecFits}
use Rattle.elf_link_field.specs.declared.rule.RelocRule.{RelocRule}
use Rattle.elf_link_files.specs.Rows.{FirstAt}
use Rattle.elf_link_files.specs.declared.fault.Options.{Options}
use Rattle.elf_link_files.specs.declared.site.Site.{Site}
use Rattle.elf_link_map.proofs.Public.{one_link_map}
use Rattle.elf_link_map.specs.LinkMap.{FirstOfLink, IsLinkMap, LinkMapValue}
use Rattle.elf_link_relocate.specs.Fields.{applied_entry_rules}
use Rattle.elf_link_relocate.specs.Linked.{IsSoundMap}
use Rattle.elf_object_type.specs.Object.{ObjectValue}
use Rattle.elf_tool_check.proofs.SaysOne.{of_holding, of_one, or_refused}
use Rattle.elf_tool_check.specs.Engine.{SaysOne}
use Rattle.elf_tool_link.proofs.OneInput.{none_among, none_of_link, objects_not_refused, one_among, one_objects, one_of_link, one_refused}
use Rattle.elf_tool_link.specs.Link.{ExecSays, FileRefuses, FilesLink, MapLinks, ObjectsLink, RuleRefuses}
use Rattle.elf_tool_link.specs.ObjectFiles.{AreObjectFiles, IsFirstRefused}
use Rattle.elf_tool_check.specs.declared.calls.Refusal.TheVariants.{File, Link, TooLong}
use Rattle.elf_tool_check.specs.declared.calls.Verdict.TheVariants.{Done, Refused}
use Rattle.elf_tool_check.specs.declared.calls.Verdict.{Verdict}

-- ---- the executable

module _ (fs : List ObjectValue) (m : LinkMapValue) (rules : List RelocRule)
    (one : (a b : List ℕ) → ExecLaid fs m rules a → ExecLaid fs m rules b → a ≡ b) where
  -- what is written is not too long
  not_long : (s : List ℕ) → ExecFits fs m rules s → IsTooLongFor fs m rules → ⊥
  not_long s exec (inl many) = (let few = exec.few in omega arith)
  not_long s exec (inr (b, also, long)) =
      let same : length b ≡ length s = ap (λ (c : List ℕ). length c) (one b s also exec.laid) in
      let short = exec.short in
      omega arith

  of_linked : SaysOne (ExecSays fs m rules)
  of_linked Done Done s t here there = (refl, one s t here.0.laid there.0.laid)
  of_linked Done (Refused TooLong) s t here there = absurd (not_long s here.0 there.0)
  of_linked (Refused TooLong) Done s t here there = absurd (not_long t there.0 here.0)
  of_linked (Refused TooLong) (Refused TooLong) s t here there = (refl, here.1 ∙ sym there.1)
  of_linked (Refused (File file rule at)) w s t here there = absurd here
  of_linked (Refused (Link rule file index entry)) w s t here there = absurd here
  of_linked v (Refused (File file rule at)) s t here there = absurd there
  of_linked v (Refused (Link rule file index entry)) s t here there = absurd there

-- ---- rules of the link

abbrev verdict_at : ℕ × Site → Verdict
verdict_at x = Refused (Link x.0 x.1.file x.1.index x.1.entry)

-- of rules of which this says that one is broken first
abbrev Refuses : (ℕ × Site → Type 0) → Verdict → List ℕ → Type 0
Refuses IsFirst = RuleRefuses (λ rule site. IsFirst (rule, site))

refused : (IsFirst : ℕ × Site → Type 0) (v : Verdict) (s : List ℕ) → Refuses IsFirst v s →
    (x : ℕ × Site) × IsFirst x × (v ≡ verdict_at x) × (s ≡ [])
refused IsFirst Done s never = absurd never
refused IsFirst (Refused (File file rule at)) s never = absurd never
refused IsFirst (Refused (Link rule file index entry)) s (first, none) =
    ((rule, record { file = file; index = index; entry = entry }), first, refl, none)
refused IsFirst (Refused TooLong) s never = absurd never

or_rule : (IsFirst : ℕ × Site → Type 0) (Says : Verdict → List ℕ → Type 0) → SaysOne Says →
    ((x y : ℕ × Site) → IsFirst x → IsFirst y → x ≡ y) →
    ((v : Verdict) (s : List ℕ) (x : ℕ × Site) → Says v s → IsFirst x → ⊥) → SaysOne (λ v s. Says v s ⊎ Refuses IsFirst v s)
or_rule IsFirst Says says one = or_refused IsFirst verdict_at (λ x. []) Says (Refuses IsFirst) says one (refused IsFirst)

of_map : (rules : List RelocRule) (fs : List ObjectValue) (m : LinkMapValue) → IsSoundMap fs m → SaysOne (MapLinks rules fs m)
of_map rules fs m is =
    let entries = applied_entry_rules fs m rules in
    or_rule (λ x. FirstAt entries (Some x)) (λ v s. FirstAt entries None × ExecSays fs m rules v s)
    (of_holding (FirstAt entries None) (ExecSays fs m rules) (λ sound. of_linked fs m rules (λ a b. one_exec fs m rules a b is sound)))
    (one_among entries) (λ v s x (sound, says). none_among entries x sound)

of_objects : (opt : Options) (rules : List RelocRule) (fs : List ObjectValue) → SaysOne (ObjectsLink opt rules fs)
of_objects opt rules fs =
    or_rule (λ x. FirstOfLink opt fs (Some x))
    (λ v s. FirstOfLink opt fs None × ((m : LinkMapValue) × IsLinkMap opt fs m × MapLinks rules fs m v s))
    (of_holding (FirstOfLink opt fs None) (λ v s. (m : LinkMapValue) × IsLinkMap opt fs m × MapLinks rules fs m v s)
    (λ sound. of_one (IsLinkMap opt fs) (MapLinks rules fs) (one_link_map opt fs) (λ m is. of_map rules fs m (opt, is, sound))))
    (one_of_link opt fs) (λ v s x (sound, says). none_of_link opt fs x sound)

-- ---- the objects, or the file that is refused first

file_refused : (files : List (List ℕ)) (v : Verdict) (s : List ℕ) → FileRefuses files v s →
    (x : ℕ × ℕ × ℕ) × IsFirstRefused files x.0 x.1 x.2 × (v ≡ Refused (File x.0 x.1 x.2)) × (s ≡ [])
file_refused files Done s never = absurd never
file_refused files (Refused (File file rule at)) s (first, none) = ((file, rule, at), first, refl, none)
file_refused files (Refused (Link rule file index entry)) s never = absurd never
file_refused files (Refused TooLong) s never = absurd never

pub one_link : (opt : Options) (rules : List RelocRule) (files : List (List ℕ)) → SaysOne (FilesLink opt rules files)
one_link opt rules files =
    or_refused (λ (x : ℕ × ℕ × ℕ). IsFirstRefused files x.0 x.1 x.2) (λ (x : ℕ × ℕ × ℕ). Refused (File x.0 x.1 x.2)) (λ (x : ℕ × ℕ × ℕ). [])
    (λ v s. (fs : List ObjectValue) × AreObjectFiles files fs × ObjectsLink opt rules fs v s) (FileRefuses files)
    (of_one (AreObjectFiles files) (ObjectsLink opt rules) (one_objects files) (λ fs are. of_objects opt rules fs))
    (one_refused files) (file_refused files) (λ v s x (fs, are, says). objects_not_refused files fs x are)
