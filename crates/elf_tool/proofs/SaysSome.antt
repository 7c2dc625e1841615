-- It can't be that a command prints nothing of its input, if that is a list of bytes. For `link` the page must be below 2^64. The fault of
-- each list of rules, and each value that is printed, is there or it is absurd that it is not. So nothing need be decided.
use Rattle.std.proofs.Common.{ℕ, List, inl, inr, subst, length, refl, ◌<◌, ◌^◌, zero, suc, [], ◌∷◌, ◌++◌}
use Rattle.std.specs.Prelude.{Option, None, Some}
use Rattle.std.proofs.lemmas.Bool.{cases_lt}
use Rattle.elf_exec.proofs.Public.{some_exec}
use Rattle.elf_link_relocate.specs.Loads.{loads}
use Rattle.elf_exec.specs.Executable.{ExecLaid, ExecFits}
use Rattle.elf_field.specs.Abi.{PN_XNUM}
use Rattle.elf_field.specs.Bytes.{IsBytes}
use Rattle.elf_image_outline.specs.Image.{ImageValue, IsImage}
use Rattle.elf_image_rules.proofs.Public.{some_fault}
use Rattle.elf_image_rules.specs.Rows.{FirstIn}
use Rattle.elf_image_rules.specs.Rules.{rules_in, MAX_LEN}
use Rattle.elf_image_type.proofs.Public.{some_image}
use Rattle.elf_link_field.specs.declared.rule.RelocRule.{RelocRule}
use Rattle.elf_link_files.proofs.Public.{some_site}
use Rattle.elf_link_files.specs.Rows.{FirstAt}
use Rattle.elf_link_files.specs.declared.fault.Options.{Options}
use Rattle.elf_link_files.specs.declared.site.Site.{Site}
use Rattle.elf_link_map.proofs.Public.{some_each, some_link_fault, some_link_map}
use Rattle.elf_link_map.specs.LinkMap.{FirstOfLink, IsLinkMap, LinkMapValue}
use Rattle.elf_link_relocate.proofs.Public.{any_options, ready_of, some_linked}
use Rattle.elf_link_relocate.specs.Fields.{applied_entry_rules}
use Rattle.elf_link_relocate.specs.Linked.{IsLinked, LinkedValue}
use Rattle.elf_object_file.proofs.Public.{file_of, sound_object}
use Rattle.elf_object_reader.proofs.Public.{some_object}
use Rattle.elf_object_reader.specs.FileRules.{file_rules}
use Rattle.elf_object_type.specs.Object.{ObjectValue, ObjectFits}
use Rattle.elf_object_type.specs.ObjectRules.{IsObject}
use Rattle.elf_object_layout.proofs.Public.{one_layout, some_layout}
use Rattle.elf_table_all.specs.Tables.{table_rules}
use Rattle.elf_table_symbols.specs.Sections.{sections_of}
use Rattle.elf_tool.proofs.FileLinks.{executable}
use Rattle.elf_tool.specs.Laws.{IsSoundFileLink, AreFilesOfBytes, SaysSome}
use Rattle.elf_tool_check.specs.Check.{CheckSays, file_sections, file_segments}
use Rattle.elf_tool_link.specs.Link.{ExecSays, FilesLink}
use Rattle.elf_tool_link.specs.Map.{MapSays, RelocationSays, bytes_lines, file_refused_line, link_refused_line, map_text}
use Rattle.elf_tool_link.specs.ObjectFiles.{AreObjectFiles, IsFirstRefused, IsObjectFile, IsRefusedFile}
use Rattle.elf_tool_rewrite.specs.Rewrite.{ObjectSays, RewriteSays}
use Rattle.elf_tool_show.specs.Show.{ShowSays, show_text}
use Rattle.elf_tool_check.specs.FileLines.{ok_line, refused_line}
use Rattle.elf_tool_check.specs.declared.calls.Refusal.TheVariants.{File, Link, TooLong}
use Rattle.elf_tool_check.specs.declared.calls.Verdict.TheVariants.{Done, Refused}

-- ---- of one file

pub some_check : (b : List ℕ) → SaysSome (CheckSays b)
some_check b none = some_fault (rules_in b) known where
  known : (x : Option (ℕ × ℕ)) → ¬ FirstIn (rules_in b) x
  known None clean = none Done (ok_line (length b) (file_sections b) (file_segments b)) (clean, refl)
  known (Some (rule, at)) broken = none (Refused (File 0 rule at)) (refused_line rule at) (broken, refl, refl)

pub some_show : (b : List ℕ) → IsBytes b → SaysSome (ShowSays b)
some_show b bytes none = some_fault (rules_in b) known where
  of_image : (v : ImageValue) → IsImage v b → ⊥
  of_image v image =
      some_each None (λ i verdict. FirstIn (table_rules (sections_of v) i) verdict) (length v.sections)
      (λ i lt. some_fault (table_rules (sections_of v) i))
      (λ verdicts are. none Done (show_text b (record { image = v; verdicts = verdicts }))
      (record { image = v; verdicts = verdicts }, record { image = image; verdicts = record { long = are.count; right = are.each } }, refl))

  known : (x : Option (ℕ × ℕ)) → ¬ FirstIn (rules_in b) x
  known None clean = (let (v, image) = some_image b bytes clean in of_image v image)
  known (Some (rule, at)) broken = none (Refused (File 0 rule at)) (refused_line rule at) (broken, refl, refl)

some_rewritten : (o : ObjectValue) → IsObject o → ObjectFits o → SaysSome (ObjectSays o)
some_rewritten o kept fits none =
    let (b, laid) = some_layout o in
    elim (cases_lt MAX_LEN (length b)) [
      | inl long ↦
          none (Refused TooLong) [] ((λ c also. subst (λ (d : List ℕ). MAX_LEN < length d) (one_layout o b c laid also) long), refl)
      | inr short ↦ none Done b (file_of o kept fits b laid short)
    ]

pub some_rewrite : (b : List ℕ) → IsBytes b → SaysSome (RewriteSays b)
some_rewrite b bytes none = some_fault (rules_in b) known where
  of_file : (v : ImageValue) → IsImage v b → (x : Option (ℕ × ℕ)) → ¬ FirstIn (file_rules (sections_of v)) x
  of_file v image None first =
      let (o, denotes) = some_object (sections_of v) in
      let (kept, fits) = sound_object v b o image first denotes in
      some_rewritten o kept fits (λ verdict text says. none verdict text (inl (v, image, inl (first, (o, denotes, says)))))
  of_file v image (Some (rule, at)) first = none (Refused (File 0 rule at)) [] (inl (v, image, inr (first, refl, refl)))

  known : (x : Option (ℕ × ℕ)) → ¬ FirstIn (rules_in b) x
  known None clean = (let (v, image) = some_image b bytes clean in some_fault (file_rules (sections_of v)) (of_file v image))
  known (Some (rule, at)) broken = none (Refused (File 0 rule at)) [] (inr (broken, refl, refl))

-- ---- the objects that files are

-- a file is an object, or it is refused
some_object_file : (b : List ℕ) → IsBytes b → ((o : ObjectValue) → ¬ IsObjectFile b o) → ¬ ((rule at : ℕ) → ¬ IsRefusedFile b rule at)
some_object_file b bytes no_object no_refusal = some_fault (rules_in b) known where
  of_file : (v : ImageValue) → IsImage v b → (x : Option (ℕ × ℕ)) → ¬ FirstIn (file_rules (sections_of v)) x
  of_file v image None first = (let (o, denotes) = some_object (sections_of v) in no_object o (v, image, first, denotes))
  of_file v image (Some (rule, at)) first = no_refusal rule at (inr (v, image, first))

  known : (x : Option (ℕ × ℕ)) → ¬ FirstIn (rules_in b) x
  known None clean = (let (v, image) = some_image b bytes clean in some_fault (file_rules (sections_of v)) (of_file v image))
  known (Some (rule, at)) broken = no_refusal rule at (inl broken)

-- each of several is, or one is the first that is refused
some_objects : (files : List (List ℕ)) → AreFilesOfBytes files → ((fs : List ObjectValue) → ¬ AreObjectFiles files fs) →
    ¬ ((f rule at : ℕ) → ¬ IsFirstRefused files f rule at)
some_objects [] bytes no_objects no_refusal = no_objects [] tt
some_objects (b ∷ files) (here, rest) no_objects no_refusal =
    some_object_file b here
    (λ o is. some_objects files rest (λ fs are. no_objects (o ∷ fs) (is, are))
    (λ f rule at refused. no_refusal (suc f) rule at ((o, is), refused)))
    (λ rule at refused. no_refusal zero rule at refused)

-- ---- of several

some_relocation : (rules : Option (List RelocRule)) (opt : Options) (fs : List ObjectValue) (m : LinkMapValue) → IsLinkMap opt fs m →
    FirstOfLink opt fs None → SaysSome (RelocationSays rules fs m)
some_relocation None opt fs m is clean none = none Done (map_text fs m) refl
some_relocation (Some rules) opt fs m is clean none = some_site (applied_entry_rules fs m rules) known where
  known : (x : Option (ℕ × Site)) → ¬ FirstAt (applied_entry_rules fs m rules) x
  known None sound =
      some_linked fs m rules (any_options fs m (opt, is, clean)) sound
      (λ l linked. none Done (map_text fs m ++ bytes_lines l) (l, linked, refl))
  known (Some (rule, p)) first =
      none (Refused (Link rule p.file p.index p.entry)) (link_refused_line rule p.file p.index p.entry) (first, refl)

pub some_map : (opt : Options) (rules : Option (List RelocRule)) (files : List (List ℕ)) → AreFilesOfBytes files →
    SaysSome (MapSays opt rules files)
some_map opt rules files bytes none = some_objects files bytes of_objects refused where
  linked : (fs : List ObjectValue) → AreObjectFiles files fs → (x : Option (ℕ × Site)) → ¬ FirstOfLink opt fs x
  linked fs are None clean =
      some_link_map opt fs clean
      (λ m is. some_relocation rules opt fs m is clean (λ verdict text says. none verdict text (inl (fs, are, inl (clean, (m, is, says))))))
  linked fs are (Some (rule, p)) first =
      none (Refused (Link rule p.file p.index p.entry)) (link_refused_line rule p.file p.index p.entry) (inl (fs, are, inr (first, refl)))

  of_objects : (fs : List ObjectValue) → ¬ AreObjectFiles files fs
  of_objects fs are = some_link_fault opt fs (linked fs are)

  refused : (f rule at : ℕ) → ¬ IsFirstRefused files f rule at
  refused f rule at first = none (Refused (File f rule at)) (file_refused_line f rule at) (inr (first, refl))

-- the executable of a link, or that it is too long
some_executable : (opt : Options) (rules : List RelocRule) (files : List (List ℕ)) (fs : List ObjectValue) (m : LinkMapValue) →
    IsSoundFileLink opt rules files fs m → SaysSome (ExecSays fs m rules)
some_executable opt rules files fs m link none =
    some_linked fs m rules (any_options fs m (opt, link.map, link.linked)) link.relocated of_linked where
      laid : (b : List ℕ) → ¬ ExecLaid fs m rules b
      laid b is = elim (cases_lt (length (loads m)) PN_XNUM) [
        | inr many ↦ none (Refused TooLong) [] (inl many, refl)
        | inl few ↦ elim (cases_lt MAX_LEN (length b)) [
          | inl long ↦ none (Refused TooLong) [] (inr (b, is, long), refl)
          | inr short ↦
              let file : ExecFits fs m rules b = record { laid = is; few = few; short = short } in
              none Done b (file, executable opt rules files fs m b link file)
        ]
      ]

      of_linked : (l : LinkedValue) → ¬ IsLinked fs m rules l
      of_linked l linked =
          let (b, is) = some_exec l (ready_of fs m rules l (opt, link.map, link.linked) linked) in
          laid b (subst (λ (rs : List RelocRule). ExecLaid fs m rs b) linked.same_rules
          (subst (λ (n : LinkMapValue). ExecLaid fs n l.rules b) linked.same_map
          (subst (λ (gs : List ObjectValue). ExecLaid gs l.map l.rules b) linked.same_objects is)))

pub some_link : (opt : Options) (rules : List RelocRule) (files : List (List ℕ)) → opt.page < 2 ^ 64 → AreFilesOfBytes files →
    SaysSome (FilesLink opt rules files)
some_link opt rules files page bytes none = some_objects files bytes of_objects refused where
  relocated : (fs : List ObjectValue) → AreObjectFiles files fs → FirstOfLink opt fs None → (m : LinkMapValue) → IsLinkMap opt fs m →
      (x : Option (ℕ × Site)) → ¬ FirstAt (applied_entry_rules fs m rules) x
  relocated fs are clean m is None sound =
      some_executable opt rules files fs m (record { objects = are; linked = clean; map = is; page = page; relocated = sound })
      (λ verdict text says. none verdict text (inl (fs, are, inl (clean, (m, is, inl (sound, says))))))
  relocated fs are clean m is (Some (rule, p)) first =
      none (Refused (Link rule p.file p.index p.entry)) [] (inl (fs, are, inl (clean, (m, is, inr (first, refl)))))

  linked : (fs : List ObjectValue) → AreObjectFiles files fs → (x : Option (ℕ × Site)) → ¬ FirstOfLink opt fs x
  linked fs are None clean =
      some_link_map opt fs clean (λ m is. some_site (applied_entry_rules fs m rules) (relocated fs are clean m is))
  linked fs are (Some (rule, p)) first = none (Refused (Link rule p.file p.index p.entry)) [] (inl (fs, are, inr (first, refl)))

  of_objects : (fs : List ObjectValue) → ¬ AreObjectFiles files fs
  of_objects fs are = some_link_fault opt fs (linked fs are)

  refused : (f rule at : ℕ) → ¬ IsFirstRefused files f rule at
  refused f rule at first = none (Refused (File f rule at)) [] (inr (first, refl))
