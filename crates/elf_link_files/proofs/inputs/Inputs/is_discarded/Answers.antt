use Rattle.std.proofs.Common.{false, sym, ◌∙◌, arith}
use Rattle.std.proofs.lemmas.List.{length-map}
use Rattle.elf_link_files.proofs.SiteLists.{item_read}
use Rattle.elf_link_files.proofs.inputs.Inputs.is_discarded.Goals as goal

pub returns : goal.returns
returns c =
    let id = c.args.id in
    let rows = c.self.inside.marks.items in
    let asked = rw (← c.self.view_is) at c.requires in
    let marks = c.self.invariant in
    let many = length-map rows (λ row. row.items) in
    let files = marks.files in
    let file = asked.0 in
    let read = item_read false rows c.index.result.now id.file id.index c.index-2.result.now (omega arith)
    (rw (marks.long id.file file) asked.1) c.index.ensures c.index-2.ensures in
    let right = marks.right id.file id.index file asked.1 in
    rw (← c.self.view_is) ((λ yes. right.0 (read ∙ yes)), (λ is. sym read ∙ right.1 is))
