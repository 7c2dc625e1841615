use Rattle.std.proofs.Common.{List, map, subst}
use Rattle.std.specs.Prelude.{None}
use Rattle.elf_object_type.specs.Object.{ObjectValue}
use Rattle.elf_link_map.specs.Naming.{AreBindingIndexes}
use Rattle.elf_link_map.specs.LinkMap.{FirstOfLink, IsLinkMap}
use Rattle.elf_link_relocate.proofs.linked.Mapped.new.Goals as goal

pub invariant_of-result : goal.invariant_of-result
invariant_of-result g c =
    let link = c.in_ok-link.link in
    record {
      map = (
        c.args.options.now,
        subst (λ (fs : List ObjectValue). IsLinkMap c.args.options.now fs link.map) c.deref.ensures.value c.in_ok-link.ensures.map,
        subst (λ (fs : List ObjectValue). FirstOfLink c.args.options.now fs None) c.deref.ensures.value c.in_ok-link.ensures.sound,
      );
      indexes = subst
          (λ (fs : List ObjectValue). AreBindingIndexes fs link.map (map (λ row. row.items) link.indexes.items)) c.deref.ensures.value
          c.in_ok-link.ensures.indexes;
    }

pub returns-clause-sound : goal.returns-clause-sound
returns-clause-sound g c =
    subst (λ (fs : List ObjectValue). FirstOfLink c.args.options.now fs None) c.deref.ensures.value c.in_ok-link.ensures.sound
