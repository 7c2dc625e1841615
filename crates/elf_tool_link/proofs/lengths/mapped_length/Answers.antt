-- As in `link_mapped`: the relocated bytes are of the objects, the map and the relocation rules in hand.
use Rattle.std.proofs.Common.{List, inl, subst}
use Rattle.elf_link_field.specs.declared.rule.RelocRule.{RelocRule}
use Rattle.elf_link_map.specs.LinkMap.{LinkMapValue}
use Rattle.elf_object_type.specs.Object.{ObjectValue}
use Rattle.elf_link_relocate.proofs.Public.{ready_of}
use Rattle.elf_tool_link.specs.Link.{ExecSays}
use Rattle.elf_tool_link.proofs.LinkRefusals.{length_as, no_exec_length}
use Rattle.elf_tool_link.proofs.lengths.mapped_length.Goals as goal

pub linked_length-requires : goal.linked_length-requires
linked_length-requires c = ready_of _ _ _ _ c.in-Ok.ensures.map c.in-Ok.ensures.linked

pub returns-in-Ok : goal.returns-in-Ok
returns-in-Ok c =
    let linked = c.in-Ok.ensures.linked in
    let l = c.in-Ok.linked in
    let mapped = c.args.mapped.now in
    let rules = c.args.rules.now in
    length_as _ _ _ c.linked_length.result (λ v text says. inl (
      linked.sound,
      subst (λ (rs : List RelocRule). ExecSays mapped.objects mapped.map rs v text) linked.same_rules
          (subst (λ (m : LinkMapValue). ExecSays mapped.objects m l.rules v text) linked.same_map
          (subst (λ (fs : List ObjectValue). ExecSays fs l.map l.rules v text) linked.same_objects says)),
    )) c.linked_length.ensures

pub returns-in-Err : goal.returns-in-Err
returns-in-Err c =
    let mapped = c.args.mapped.now in
    rw (c.refused_length.ensures, c.into.ensures)
    (no_exec_length c.args.rules.now mapped.objects mapped.map c.in-Err.fault c.in-Err.ensures.err)
