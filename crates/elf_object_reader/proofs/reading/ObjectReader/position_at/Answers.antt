use Rattle.std.proofs.Common.{◌+◌, ◌<◌, List, get_or, inl, inr, ap, ◌∙◌, sym, arith}
use Rattle.std.proofs.lemmas.Bool.{cases_lt}
use Rattle.std.proofs.lemmas.List.{get_or_default}
use Rattle.elf_object_layout.proofs.Public.{not_kept_past}
use Rattle.elf_object_layout.specs.SectionsLeftOut.{is_kept}
use Rattle.elf_object_reader.specs.Denotes.{position_of}
use Rattle.elf_table_symbols.specs.Sections.{count}
use Rattle.elf_object_reader.specs.FileRules.{sections_of_file}
use Rattle.elf_object_type.proofs.Public.{place_get, place_past}
use Rattle.elf_object_reader.proofs.reading.ObjectReader.position_at.Goals as goal

pub returns : goal.returns
returns c =
    let f = sections_of_file c.args.self.now.file in
    let left = c.args.self.now.file.left in
    let m = c.min.result in
    let own = c.args.self.now.own_positions in
    let long = own.long in
    let within : m < count f + 1 = omega arith in
    c.index.ensures ∙ sym (get_or_default c.args.self.now.positions.items m 0 c.index.result.now (omega arith)) ∙
    ap (λ (xs : List _). get_or xs m 0) own.right ∙ place_get (is_kept left f) (count f) m within ∙
    elim (cases_lt c.args.k (count f)) [
      | inl there ↦ ap (position_of left f) (omega arith)
      | inr past ↦ ap (position_of left f) (omega arith) ∙ sym (place_past (is_kept left f) (count f) c.args.k (not_kept_past left f) past)
    ]
