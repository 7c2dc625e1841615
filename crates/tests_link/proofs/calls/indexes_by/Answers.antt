use Rattle.tests_link.proofs.calls.indexes_by.Goals as goal

pub name_indexes-requires : goal.name_indexes-requires
name_indexes-requires c =
    let m = c.in_ok-made.made.map in
    (c.args.options.now, m.base, m.page, m.entry, c.in_ok-made.ensures.map)
