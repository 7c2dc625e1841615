-- `map` prints at most one thing of files, by cases. They are one list of objects, or one file is refused first. The objects have one link
-- map and, with relocation rules, one value of relocated bytes, or one rule is broken first. No two of these come together.
use Rattle.std.proofs.Common.{◌≡◌, ◌∙◌, ◌⊎◌, ◌+◌, ◌++◌, ◌<◌, ℕ, List, [], ap, arith, get_or, inl, inr, length, refl, subst, sym}
use Rattle.std.specs.Prelude.{Option, None, Some, MatchOption}
use Rattle.std.proofs.lemmas.List.{ext_get_or}
use Rattle.elf_link_field.specs.declared.rule.RelocRule.{RelocRule}
use Rattle.elf_link_files.specs.Rows.{FirstAt}
use Rattle.elf_link_files.specs.declared.fault.Options.{Options}
use Rattle.elf_link_files.specs.declared.site.Site.{Site}
use Rattle.elf_link_map.proofs.Public.{one_link_map}
use Rattle.elf_link_map.specs.LinkMap.{FirstOfLink, IsLinkMap, LinkMapValue}
use Rattle.elf_link_relocate.proofs.Public.{any_options, one_byte}
use Rattle.elf_link_relocate.specs.Fields.{applied_entry_rules}
use Rattle.elf_link_relocate.specs.Linked.{AreBytesOf, HasLiveBits, IsLinked, IsSoundMap, IsMemory, LinkedValue, bytes_at}
use Rattle.elf_object_type.specs.Object.{ObjectValue}
use Rattle.elf_tool_check.proofs.SaysOne.{of_answer, of_holding, of_one, or_refused, same_some}
use Rattle.elf_tool_check.specs.Engine.{SaysOne}
use Rattle.elf_tool_link.proofs.OneInput.{none_among, none_of_link, objects_not_refused, one_among, one_objects, one_of_link, one_refused}
use Rattle.elf_tool_link.specs.Map.{FilesRefuse, LinkRefuses, LinkSays, MapSays, RelocationSays, bytes_lines, file_refused_line}
use Rattle.elf_tool_link.specs.Map.{link_refused_line, map_text}
use Rattle.elf_tool_link.specs.ObjectFiles.{AreObjectFiles, IsFirstRefused}
use Rattle.elf_tool_check.specs.declared.calls.Refusal.TheVariants.{File, Link, TooLong}
use Rattle.elf_tool_check.specs.declared.calls.Verdict.TheVariants.{Done, Refused}
use Rattle.elf_tool_check.specs.declared.calls.Verdict.{Verdict}

-- Objects, their link map and relocation rules have at most one value of relocated bytes: the bytes of each live section are those of
-- memory at its addresses, and memory has one byte at each address.

module _ (fs : List ObjectValue) (m : LinkMapValue) (rules : List RelocRule) (is : IsSoundMap fs m) where
  one_bytes : (f s : ℕ) (l : LinkedValue) (xs ys : List ℕ) → IsLinked fs m rules l → AreBytesOf fs m rules f s xs →
      AreBytesOf fs m rules f s ys → xs ≡ ys
  one_bytes f s l xs ys linked one other =
      let (a, begins, each) = one.memory in
      let (b, also, every) = other.memory in
      let same : b ≡ a = same_some b a (sym also ∙ begins) in
      let long = one.long ∙ sym other.long in
      ext_get_or 0 xs ys long (λ k lt.
      one_byte fs m rules (any_options fs m is) linked.sound (a + k) (get_or xs k 0) (get_or ys k 0) (each k lt)
      (subst (λ (x : ℕ). IsMemory fs m rules (x + k) (get_or ys k 0)) same (every k (omega arith))))

  one_copy : (f s : ℕ) (l : LinkedValue) (x y : Option (List ℕ)) → IsLinked fs m rules l →
      MatchOption x (¬ HasLiveBits fs f s) (AreBytesOf fs m rules f s) →
      MatchOption y (¬ HasLiveBits fs f s) (AreBytesOf fs m rules f s) → x ≡ y
  one_copy f s l None None linked one other = refl
  one_copy f s l None (Some ys) linked one other = absurd (one other.live)
  one_copy f s l (Some xs) None linked one other = absurd (other one.live)
  one_copy f s l (Some xs) (Some ys) linked one other = ap Some (one_bytes f s l xs ys linked one other)

  one_copies : (l n : LinkedValue) → IsLinked fs m rules l → IsLinked fs m rules n → l.copies ≡ n.copies
  one_copies l n one other = ext_get_or [] l.copies n.copies (one.grid.files ∙ sym other.grid.files) (λ f lt. (
      let within : f < length fs = (let files = one.grid.files in omega arith) in
      ext_get_or None (get_or l.copies f []) (get_or n.copies f []) (one.grid.sections f within ∙ sym (other.grid.sections f within))
      (λ s below. one_copy f s l (bytes_at l f s) (bytes_at n f s) one (one.bytes f s) (other.bytes f s))))

  pub one_linked : (l n : LinkedValue) → IsLinked fs m rules l → IsLinked fs m rules n → l ≡ n
  one_linked l n one other =
      ap (λ (x : LinkMapValue). record { map = x; objects = l.objects; rules = l.rules; copies = l.copies })
      (one.same_map ∙ sym other.same_map)
      ∙ ap (λ (x : List ObjectValue). record { map = n.map; objects = x; rules = l.rules; copies = l.copies })
      (one.same_objects ∙ sym other.same_objects)
      ∙ ap (λ (x : List RelocRule). record { map = n.map; objects = n.objects; rules = x; copies = l.copies })
      (one.same_rules ∙ sym other.same_rules)
      ∙ ap (λ (x : List (List (Option (List ℕ)))). record { map = n.map; objects = n.objects; rules = n.rules; copies = x })
      (one_copies l n one other)

-- the verdict and the line on a rule that is broken first at a site
abbrev verdict_at : ℕ × Site → Verdict
verdict_at x = Refused (Link x.0 x.1.file x.1.index x.1.entry)

abbrev line_at : ℕ × Site → List ℕ
line_at x = link_refused_line x.0 x.1.file x.1.index x.1.entry

-- ---- relocated bytes, or the first of rules 12 to 16 that is broken

module _ (fs : List ObjectValue) (m : LinkMapValue) (rules : List RelocRule) where
  abbrev Is : LinkedValue ⊎ (ℕ × Site) → Type 0
  Is (inl l) = IsLinked fs m rules l
  Is (inr x) = FirstAt (applied_entry_rules fs m rules) (Some x)

  abbrev verdict_of : LinkedValue ⊎ (ℕ × Site) → Verdict
  verdict_of (inl l) = Done
  verdict_of (inr x) = verdict_at x

  abbrev text_of : LinkedValue ⊎ (ℕ × Site) → List ℕ
  text_of (inl l) = map_text fs m ++ bytes_lines l
  text_of (inr x) = line_at x

  one_answer : IsSoundMap fs m → (x y : LinkedValue ⊎ (ℕ × Site)) → Is x → Is y → x ≡ y
  one_answer is (inl l) (inl n) one other = ap inl (one_linked fs m rules is l n one other)
  one_answer is (inl l) (inr y) one other = absurd (none_among (applied_entry_rules fs m rules) y one.sound other)
  one_answer is (inr x) (inl n) one other = absurd (none_among (applied_entry_rules fs m rules) x other.sound one)
  one_answer is (inr x) (inr y) one other = ap inr (one_among (applied_entry_rules fs m rules) x y one other)

  known : (v : Verdict) (s : List ℕ) → RelocationSays (Some rules) fs m v s →
      (x : LinkedValue ⊎ (ℕ × Site)) × Is x × (v ≡ verdict_of x) × (s ≡ text_of x)
  known Done s (l, linked, text) = (inl l, linked, refl, text)
  known (Refused (Link rule file index entry)) s (first, line) =
      (inr (rule, record { file = file; index = index; entry = entry }), first, refl, line)
  known (Refused (File file rule at)) s never = absurd never
  known (Refused TooLong) s never = absurd never

of_relocation : (rules : Option (List RelocRule)) (fs : List ObjectValue) (m : LinkMapValue) → IsSoundMap fs m →
    SaysOne (RelocationSays rules fs m)
of_relocation None fs m is Done Done s t here there = (refl, here ∙ sym there)
of_relocation None fs m is (Refused refusal) w s t here there = absurd here
of_relocation None fs m is v (Refused refusal) s t here there = absurd there
of_relocation (Some rules) fs m is v w s t here there =
    of_answer (Is fs m rules) (verdict_of fs m rules) (text_of fs m rules) (RelocationSays (Some rules) fs m) (one_answer fs m rules is)
    (known fs m rules) v w s t
    here there

-- ---- the link map, or the first of rules 1 to 11 that is broken

refused : (opt : Options) (fs : List ObjectValue) (v : Verdict) (s : List ℕ) → LinkRefuses opt fs v s →
    (x : ℕ × Site) × FirstOfLink opt fs (Some x) × (v ≡ verdict_at x) × (s ≡ line_at x)
refused opt fs Done s never = absurd never
refused opt fs (Refused (File file rule at)) s never = absurd never
refused opt fs (Refused (Link rule file index entry)) s (first, line) =
    ((rule, record { file = file; index = index; entry = entry }), first, refl, line)
refused opt fs (Refused TooLong) s never = absurd never

of_objects : (opt : Options) (rules : Option (List RelocRule)) (fs : List ObjectValue) → SaysOne (LinkSays opt rules fs)
of_objects opt rules fs =
    or_refused (λ (x : ℕ × Site). FirstOfLink opt fs (Some x)) verdict_at line_at
    (λ v s. FirstOfLink opt fs None × ((m : LinkMapValue) × IsLinkMap opt fs m × RelocationSays rules fs m v s)) (LinkRefuses opt fs)
    (of_holding (FirstOfLink opt fs None) (λ v s. (m : LinkMapValue) × IsLinkMap opt fs m × RelocationSays rules fs m v s)
    (λ sound. of_one (IsLinkMap opt fs) (RelocationSays rules fs) (one_link_map opt fs)
    (λ m is. of_relocation rules fs m (opt, is, sound))))
    (one_of_link opt fs) (refused opt fs) (λ v s x (sound, says). none_of_link opt fs x sound)

-- ---- the objects, or the file that is refused first

file_refused : (files : List (List ℕ)) (v : Verdict) (s : List ℕ) → FilesRefuse files v s →
    (x : ℕ × ℕ × ℕ) × IsFirstRefused files x.0 x.1 x.2 × (v ≡ Refused (File x.0 x.1 x.2)) × (s ≡ file_refused_line x.0 x.1 x.2)
file_refused files Done s never = absurd never
file_refused files (Refused (File file rule at)) s (first, line) = ((file, rule, at), first, refl, line)
file_refused files (Refused (Link rule file index entry)) s never = absurd never
file_refused files (Refused TooLong) s never = absurd never

pub one_map : (opt : Options) (rules : Option (List RelocRule)) (files : List (List ℕ)) → SaysOne (MapSays opt rules files)
one_map opt rules files =
    or_refused (λ (x : ℕ × ℕ × ℕ). IsFirstRefused files x.0 x.1 x.2) (λ (x : ℕ × ℕ × ℕ). Refused (File x.0 x.1 x.2))
    (λ (x : ℕ × ℕ × ℕ). file_refused_line x.0 x.1 x.2)
    (λ v s. (fs : List ObjectValue) × AreObjectFiles files fs × LinkSays opt rules fs v s) (FilesRefuse files)
    (of_one (AreObjectFiles files) (LinkSays opt rules) (one_objects files) (λ fs are. of_objects opt rules fs))
    (one_refused files) (file_refused files) (λ v s x (fs, are, says). objects_not_refused files fs x are)
