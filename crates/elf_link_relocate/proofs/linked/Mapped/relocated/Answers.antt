use Rattle.std.proofs.Common.{List, sym, subst}
use Rattle.elf_object_type.specs.Object.{ObjectValue}
use Rattle.elf_link_relocate.specs.Linked.{MappedValue, IsLinked, IsSoundLinked, IsSoundMapButOptions, IsSoundMap}
use Rattle.elf_link_relocate.proofs.Held.{if_ok_linked}
use Rattle.elf_link_relocate.proofs.MemoryLaws.{ready_of}
use Rattle.elf_link_relocate.proofs.linked.Mapped.relocated.Goals as goal

pub relocate_indexed-requires-clause-map : goal.relocate_indexed-requires-clause-map
relocate_indexed-requires-clause-map c =
    let m = c.self.inside.link.map in
    subst (λ (fs : List ObjectValue). IsSoundMapButOptions fs m) (sym c.deref.ensures.value) (m.base, m.page, m.entry, c.self.invariant.map)

pub returns-clause-map : goal.returns-clause-map
returns-clause-map c = subst (λ (l : MappedValue). IsSoundMap l.objects l.map) c.self.view_is c.self.invariant.map

pub returns-clause-ready : goal.returns-clause-ready
returns-clause-ready c =
    let m = c.self.inside.link.map in
    let fs = c.deref.result.now in
    let rules = c.args.rules.now in
    let sound = subst (λ (gs : List ObjectValue). IsSoundMap gs m) (sym c.deref.ensures.value) c.self.invariant.map in
    if_ok_linked (IsLinked fs m rules) IsSoundLinked c.relocate_indexed.result (λ l is. ready_of fs m rules l sound is)
    c.relocate_indexed.ensures.linked
