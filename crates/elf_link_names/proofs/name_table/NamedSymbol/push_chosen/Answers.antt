use Rattle.elf_link_names.proofs.ChosenCommons.{chosen_more, chosen_past}
use Rattle.elf_link_names.proofs.name_table.NamedSymbol.push_chosen.Goals as goal

pub returns-in_default : goal.returns-in_default
returns-in_default c =
    let s = c.args.self.now in
    chosen_past s.table.now s.id.file s.id.index c.args.commons.now.items c.in_default.ensures c.requires

pub returns : goal.returns
returns c =
    let s = c.args.self.now in
    let (here, at, largest) = c.in-Some.ensures in
    rw c.in_ok-push.ensures.items (chosen_more s.table.now s.id.file s.id.index c.args.commons.now.items c.in-Some.chosen
    s.there.0 s.there.1 here at largest c.requires)
