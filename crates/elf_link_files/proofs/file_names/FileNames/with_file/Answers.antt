use Rattle.std.proofs.Common.{◌∙◌, ◌+◌, ap, length, length-append, map, sym}
use Rattle.std.proofs.lemmas.List.{length-map, map-append}
use Rattle.elf_link_files.specs.FileNames.{numbered_end}
use Rattle.elf_link_files.proofs.NumberedEnds.{files_of_both, tails_of_both}
use Rattle.elf_object_strings.specs.StringTable.{texts}
use Rattle.elf_link_files.proofs.file_names.FileNames.with_file.Goals as goal

pub invariant_of-result : goal.invariant_of-result
invariant_of-result c =
    let l = c.self.inside in
    let own = c.args.names.now in
    let ends = map (numbered_end l.files l.count) c.args.ends.now in
    let numbers = c.in_ok-add_numbers.ensures in
    let names = c.in_ok-extend_from_slice.ensures.items in
    let many = length-map c.args.ends.now (numbered_end l.files l.count) in
    let old_names = length-map l.names.items (λ n. n.now) in
    record {
      all = ap length numbers ∙ length-append l.ends.items ends ∙ ap (λ n. n + length ends) c.self.invariant.all
          ∙ ap (λ n. length l.names.items + n) (many ∙ c.requires.all) ∙ sym (length-append l.names.items own) ∙ sym (ap length names);
      tails = rw (numbers, names, map-append)
          (tails_of_both (texts l.names.items) (texts own) l.ends.items c.args.ends.now l.files l.count
          (c.self.invariant.all ∙ sym old_names)
          c.self.invariant.tails c.requires.tails c.self.invariant.files);
      files = rw numbers (files_of_both l.ends.items c.args.ends.now l.files c.next_file.result l.count
          c.next_file.ensures.same c.next_file.ensures.next c.self.invariant.files);
    }
