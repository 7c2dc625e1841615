use Rattle.std.proofs.Common.{◌≡◌, ◌<◌, ℕ, List, length, ap, ◌∙◌, arith}
use Rattle.std.specs.Global.{Vec}
use Rattle.std.specs.Prelude.{Option, None, Some}
use Rattle.std.proofs.Math.Facts.{to_z-of_z}
use Rattle.std.proofs.lemmas.List.{with_items_is}
use Rattle.elf_link_relocate.specs.Passes.{copies_view, copy_view}
use Rattle.elf_link_relocate.specs.Linked.{with}
use Rattle.elf_link_relocate.proofs.Grids.{view_item, view_row, view_set}
use Rattle.elf_link_relocate.proofs.copies.patch_in.Goals as goal

pub returns-in-Some : goal.returns-in-Some
returns-in-Some c =
    let rows = c.args.copies.now.items in
    let row = c.index_mut.result.now in
    let at = c.index_mut.ensures.value in
    let long = view_row copy_view None rows row c.args.file c.requires.file at in
    let section = c.requires.section in
    let s_in : c.args.section < length row.items = omega arith in
    let same = view_item copy_view None rows row c.args.file c.requires.file at
    c.args.section c.index_mut-2.result.now s_in c.index_mut-2.ensures.value in
    let kept : length c.patch.new.bytes ≡ c.in-Some.copy.len = c.patch.auto.bytes ∙ c.deref_mut.ensures.len in
    let fits = c.ranges.number in
    let put = simp (to_z-of_z, fits, c.deref_mut.ensures.value) at c.patch.ensures in (
      c.in-Some.copy.items,
      same ∙ ap (λ (copy : Option (Vec ℕ)). copy_view copy) c.in-Some.is,
      view_set copy_view None rows row c.args.file c.requires.file at c.args.section _ ∙
          ap (λ (bytes : List ℕ). with (copies_view rows) c.args.file c.args.section (Some bytes))
          (with_items_is c.in-Some.copy c.patch.new.bytes kept ∙ put),
    )
