use Rattle.std.proofs.Common.{◌≡◌, ◌∙◌, [], Bool, rules, ap, get_or, map, sym}
use Rattle.std.proofs.lemmas.List.{get_or-map, map-set}
use Rattle.std.specs.Global.{Vec}
use Rattle.elf_link_files.proofs.MarkedFiles.{object_is}
use Rattle.elf_link_files.proofs.discarded.mark_group.Goals as goal

pub returns : goal.returns
returns c =
    let fs = c.args.objects.now in
    let p = c.args.group in
    let is = object_is fs p.file c.index-objects-group.result c.requires.group.0 c.index-objects-group.is in
    let row : get_or (map (λ (r : Vec Bool). r.items) c.args.marks.now.items) p.file [] ≡ c.index_mut.result.now.items =
    get_or-map (λ (r : Vec Bool). r.items) c.args.marks.now.items p.file c.index_mut.result.now [] (search rules)
    ∙ ap (λ (r : Vec Bool). r.items) (sym c.index_mut.ensures.value) in (
      c.mark_members.new.marks.items,
      map-set (λ (r : Vec Bool). r.items) c.args.marks.now.items p.file c.mark_members.new.marks,
      rw (row, is) c.mark_members.ensures,
    )
