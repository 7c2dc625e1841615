-- The relocated bytes are of the objects, the map and the relocation rules in hand: what is said of theirs is said of these.
use Rattle.std.proofs.Common.{inl, List, subst}
use Rattle.elf_link_field.specs.declared.rule.RelocRule.{RelocRule}
use Rattle.elf_link_map.specs.LinkMap.{LinkMapValue}
use Rattle.elf_object_type.specs.Object.{ObjectValue}
use Rattle.elf_link_relocate.proofs.Public.{ready_of}
use Rattle.elf_tool_link.specs.Link.{ExecSays}
use Rattle.elf_tool_link.proofs.LinkRefusals.{relocation_refused}
use Rattle.elf_tool_check.proofs.EngineCalls.{said_as}
use Rattle.elf_tool_link.proofs.linking.link_mapped.Goals as goal

pub link_relocated-requires : goal.link_relocated-requires
link_relocated-requires g c = ready_of _ _ _ _ c.in-Ok.ensures.map c.in-Ok.ensures.linked

pub returns-in-Ok : goal.returns-in-Ok
returns-in-Ok g c =
    let linked = c.in-Ok.ensures.linked in
    let l = c.in-Ok.linked in
    let mapped = c.args.mapped.now in
    let rules = c.args.rules.now in
    said_as _ _ _ _ c.link_relocated.result (λ v text says. inl (
      linked.sound,
      subst (λ (rs : List RelocRule). ExecSays mapped.objects mapped.map rs v text) linked.same_rules
          (subst (λ (m : LinkMapValue). ExecSays mapped.objects m l.rules v text) linked.same_map
          (subst (λ (fs : List ObjectValue). ExecSays fs l.map l.rules v text) linked.same_objects says)),
    )) c.link_relocated.ensures

pub returns-in-Err : goal.returns-in-Err
returns-in-Err g c =
    let mapped = c.args.mapped.now in
    rw (c.verdict_of.ensures, c.into.ensures)
    (relocation_refused c.args.rules.now mapped.objects mapped.map c.in-Err.fault
    (g.W.Write.contents c.args.writer.now) c.in-Err.ensures.err)
