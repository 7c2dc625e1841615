-- The executable of a sound link is an image whose entry is the map's and that loads the link's memory (`ExecMemory`), also by pages
-- (`PageLaws`). No other list of bytes is its executable (`one_exec`). Its header and segments are read as they were written (`exec_read`).
use Rattle.elf_exec.proofs.ExecMemory.{loads_memory, memory_loads}
use Rattle.elf_exec.proofs.PageLaws.{loads_pages}
use Rattle.std.proofs.Common.{◌≡◌, ◌<◌, ◌+◌, ◌-◌, ◌^◌, ℕ, List, [], get_or, sym, ap, subst, ◌∙◌, arith, ap₂, Ok, Err}
use Rattle.std.specs.Prelude.{slice_index, ◌↔◌, MatchOption, None, Option, Some}
use Rattle.std.proofs.lemmas.List.{ext_get_or}
use Rattle.std.specs.Io.KnownBytes.{Appends}
use Rattle.elf_exec.proofs.ExecFile.{exec_accepted, exec_is_bytes, exec_read}
use Rattle.elf_exec.proofs.ExecText.{exec_laid, length-exec, sent_text, text_is}
use Rattle.elf_link_relocate.proofs.Public.{any_options, one_byte}
use Rattle.elf_exec.specs.ExecWriting.{HasExecOf, exec_end, load_contents, IsLoadable, WritesExec, exec_text, IsPlacedExec, PlacedExecValue}
use Rattle.elf_link_relocate.specs.Loads.{load_in, loads}
use Rattle.elf_exec.specs.Executable.{ExecFits, IsSoundLink, AreLoadBytes, ExecLaid, bytes_from, exec_bytes, load_parts, LoadsLink}
use Rattle.elf_link_relocate.specs.declared.load.Load.{Load}
use Rattle.elf_extent.proofs.Public.{least_places, same_least}
use Rattle.elf_field.specs.declared.ehdr.Ehdr.{Ehdr}
use Rattle.elf_field.specs.declared.phdr.Phdr.{Phdr}
use Rattle.elf_image_outline.specs.Image.{ImageValue, Stands}
use Rattle.elf_image_stream.proofs.Public.{stopped_whole}
use Rattle.elf_image_stream.specs.Output.{StoppedIn, WentOut}
use Rattle.elf_image_type.proofs.Public.{some_image}
use Rattle.elf_image_type.specs.ImageView.{Loads, LoadsFirst, loaded}
use Rattle.elf_link_field.specs.declared.rule.RelocRule.{RelocRule}
use Rattle.elf_link_files.specs.Rows.{FirstAt}
use Rattle.elf_link_map.specs.LinkMap.{LinkMapValue}
use Rattle.elf_link_map.specs.Standing.{AreObjects, ObjectsFit}
use Rattle.elf_link_relocate.specs.Fields.{applied_entry_rules}
use Rattle.elf_link_relocate.specs.Linked.{IsMemory, LinkedValue, IsSoundMap, IsSoundLinked}
use Rattle.elf_object_type.specs.Object.{ObjectValue}

-- ---- what is found at an address, where the segments give what memory has there

pub found_memory : (b : List ℕ) (gs : List Phdr) (x : ℕ) (found : Option ℕ) (M : ℕ → Type 0) → ((w : ℕ) → Loads b gs x w ↔ M w) →
    LoadsFirst b gs x found → MatchOption found ((w : ℕ) → ¬ M w) M
found_memory b gs x None M both none = λ w memory. (let (j, lt, has, is) = (both w).1 memory in none j lt has)
found_memory b gs x (Some w) M both (j, (lt, has, before), is) = (both w).0 (j, lt, has, is)

-- Relocated bytes have an executable, at the least places. Two executables of one link that keeps the rules are equal. Least places are one
-- list, and each byte of a segment is that of memory, which has one there (`one_byte`).

pub some_exec : (l : LinkedValue) → IsSoundLinked l → (b : List ℕ) × ExecLaid l.objects l.map l.rules b
some_exec l ready =
    let (places, least) = least_places (load_parts l.map) (bytes_from l.map) in
    (exec_bytes l.objects l.map places (load_contents l), exec_laid l places ready least)

-- ---- one and no other

module _ (fs : List ObjectValue) (m : LinkMapValue) (rules : List RelocRule) (is : IsSoundMap fs m)
    (sound : FirstAt (applied_entry_rules fs m rules) None) where
  -- the bytes of a segment are one list
  same_bytes : (load : Load) (s t : List ℕ) → AreLoadBytes fs m rules load s → AreLoadBytes fs m rules load t → s ≡ t
  same_bytes load s t are also =
      let first = are.long in
      let second = also.long in
      ext_get_or 0 s t (omega arith)
      (λ k lt. one_byte fs m rules (any_options fs m is) sound (load.address + k) (slice_index s k) (slice_index t k) (are.memory k lt)
      (also.memory k (omega arith)))

  same_exec : (a b : List ℕ) → ExecLaid fs m rules a → ExecLaid fs m rules b → a ≡ b
  same_exec a b this that =
      let places = same_least (load_parts m) (bytes_from m) this.places that.places this.least that.least in
      let first = this.memory.count in
      let second = that.memory.count in
      let contents : this.contents ≡ that.contents = ext_get_or [] this.contents that.contents (omega arith)
      (λ j lt. same_bytes (load_in m j) (get_or this.contents j []) (get_or that.contents j []) (this.memory.each j (omega arith))
      (that.memory.each j (omega arith))) in
      this.bytes ∙ ap₂ (exec_bytes fs m) places contents ∙ sym that.bytes

pub one_exec : (fs : List ObjectValue) (m : LinkMapValue) (rules : List RelocRule) (a b : List ℕ) → IsSoundMap fs m →
    FirstAt (applied_entry_rules fs m rules) None →
    ExecLaid fs m rules a → ExecLaid fs m rules b → a ≡ b
one_exec fs m rules a b is sound = same_exec fs m rules is sound a b

pub executable : (fs : List ObjectValue) (m : LinkMapValue) (rules : List RelocRule) (b : List ℕ) → IsSoundLink fs m rules →
    ExecFits fs m rules b →
    LoadsLink fs m rules b
executable fs m rules b link file = record {
  accepted = exec_accepted fs m rules link b file;
  image = some_image b (exec_is_bytes fs m rules link b file) (exec_accepted fs m rules link b file);
  entry = λ v stands. ap (λ (h : Ehdr). h.e_entry) (exec_read fs m rules link b file v stands).header;
  memory = loaded;
  pages = λ size some divides. loads_pages size fs m rules b some divides link file;
  load = λ v stands x found. found_memory b v.segments x found (IsMemory fs m rules x) (loaded v stands x);
  one = λ c laid. one_exec fs m rules c b link.map link.relocated laid file.laid;
}
  where
    loaded : (v : ImageValue) → Stands v b → (x w : ℕ) → Loads b v.segments x w ↔ IsMemory fs m rules x w
    loaded v stands x w =
        let same = (exec_read fs m rules link b file v stands).segments in (
          (λ loads. loads_memory fs m rules link b file x w (subst (λ (gs : List Phdr). Loads b gs x w) same loads)),
          (λ memory. subst (λ (gs : List Phdr). Loads b gs x w) (sym same) (memory_loads fs m rules link b file x w memory)),
        )

-- What is written is the executable of the link, or exactly its first bytes if the writer fails; it is as long as its parts. The text sent
-- is that of the definition
-- (`text_is`), short enough, and so an image that loads the memory of the link (`executable`).

abbrev pub HasSoundLink : LinkedValue → Type 0
HasSoundLink l = IsSoundLink l.objects l.map l.rules

pub sound_link : (l : LinkedValue) → IsSoundLinked l → AreObjects l.objects → ObjectsFit l.objects → l.map.page < 2 ^ 64 → HasSoundLink l
sound_link l ready kept fit page = record { objects = kept; widths = fit; map = ready.map; page = page; relocated = ready.linked.sound }

module _ (p : PlacedExecValue) (placed : IsPlacedExec p) (link : IsSoundLink p.linked.objects p.linked.map p.linked.rules) where
  loadable : IsLoadable p.linked (exec_text p)
  loadable =
      let l = p.linked in
      let long = length-exec l p.places placed.ready placed.least in
      let short = placed.short in
      let file : ExecFits l.objects l.map l.rules (exec_text p) = record {
        laid = exec_laid l p.places placed.ready placed.least;
        few = placed.few;
        short = omega arith;
      } in
      (file, executable l.objects l.map l.rules (exec_text p) link file)

  pub exec_sent : (a b : Option (List ℕ)) (all : ℕ) → WentOut a b 0 (sent_text p) all → WritesExec p.linked a b (Ok tt)
  exec_sent a b all went = (exec_text p, loadable, subst (Appends a b) (sym (text_is p placed)) went.1)

  pub exec_cut : (a b : Option (List ℕ)) (written : ℕ) → StoppedIn a b 0 (sent_text p) written →
      WritesExec p.linked a b (Err (record { written = written }))
  exec_cut a b written stopped =
      let long = length-exec p.linked p.places placed.ready placed.least in
      let short = placed.short in
      let of_text = subst (λ (s : List ℕ). StoppedIn a b 0 s written) (sym (text_is p placed)) stopped in
      (exec_text p, loadable, stopped_whole a b (exec_text p) written (omega arith) of_text)

  -- and so long it is
  pub exec_long : (n : ℕ) → n ≡ exec_end p.linked.map p.places → HasExecOf p.linked n
  exec_long n end = (exec_text p, loadable, end ∙ sym (length-exec p.linked p.places placed.ready placed.least))
