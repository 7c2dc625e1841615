use Rattle.std.proofs.Common.{map}
use Rattle.elf_link_names.specs.Tables.{name_position}
use Rattle.elf_link_names.specs.KnownNames.{first_site}
use Rattle.elf_link_names.proofs.ChosenCommons.{chosen_symbols, have_chosen}
use Rattle.elf_link_names.proofs.KnownNames.{whole_firsts}
use Rattle.elf_link_names.proofs.resolution.Resolution.new.Goals as goal

pub invariant_of-result : goal.invariant_of-result
invariant_of-result c =
    let t = c.table.inside in
    let fs = t.inputs in
    let cs = c.args.placed.list.items in
    let chosen = rw (← c.table.view_is) at c.requires.chosen in
    let ranks = rw (← c.table.view_is) at c.requires.ranks in
    record {
      names = c.table.invariant.names;
      indexes = c.table.invariant.indexes;
      bound = rw (← c.table.view_is) at c.requires.bound;
      chosen = chosen;
      symbols = chosen_symbols fs cs chosen;
      all = have_chosen fs cs chosen;
      ranks = ranks (map first_site t.names.known)
          (whole_firsts fs (name_position t.names.positions) t.names.known c.table.invariant.names);
    }
