use Rattle.std.proofs.Common.{map, subst, ℕ}
use Rattle.std.specs.Global.{Vec}
use Rattle.elf_link_map.specs.Naming.{AreBindingIndexes}
use Rattle.elf_link_relocate.specs.Passes.{LinkingValue}
use Rattle.elf_link_relocate.proofs.Patches.{index_stands}
use Rattle.elf_link_relocate.proofs.values.Values.name_index.Goals as goal

pub returns : goal.returns
returns c =
    let l = c.args.self.now in
    let v = c.self.inside in
    let is = subst
    (λ (now : LinkingValue). AreBindingIndexes now.objects now.map (map (λ (row : Vec ℕ). row.items) v.indexes.now)) c.self.view_is
    c.self.invariant in
    index_stands l.objects l.map v.indexes.now c.index-indexes-file.result c.args.file c.args.index c.index.result.now
    c.requires.symbol.0 c.requires.symbol.1 c.requires.entry c.index-indexes-file.is c.index.ensures is
