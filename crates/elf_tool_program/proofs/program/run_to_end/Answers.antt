-- The rules that were read are those of the request, so the engine's report is the one that is asked for.
use Rattle.std.proofs.Common.{Some, ap, arith, inl, length, refl}
use Rattle.std.proofs.lemmas.List.{length-map}
use Rattle.elf_tool_words.specs.declared.words.Request.TheVariants.{Link, Map}
use Rattle.elf_tool_program.proofs.program.run_to_end.Goals as goal

pub map_by_rules-requires : goal.map_by_rules-requires
map_by_rules-requires g c =
    let r = c.in-Ok-Map in
    let asked = rw r.field-0-is at r.ensures.ok in
    let (named, (files, few, base, page), rules) = asked.holds in
    let same = ap length files in
    let long = length-map r.names.items (λ f. f.now) in
    rw c.deref.ensures.value (omega arith)

pub returns-in-Ok-Map : goal.returns-in-Ok-Map
returns-in-Ok-Map g c =
    let r = c.in-Ok-Map in
    let asked = rw r.field-0-is at r.ensures.ok in
    let ends = rw (r.base-is, r.page-is, c.deref.ensures.value) at c.map_by_rules.ensures in
    inl (Map r.base r.page r.rules r.names, asked, ends)

pub returns-in-Ok-Link : goal.returns-in-Ok-Link
returns-in-Ok-Link g c =
    let r = c.in-Ok-Link in
    let asked = rw r.field-0-is at r.ensures.ok in
    let ends = rw (r.base-is, r.page-is, c.deref-in-Ok-Link.ensures.value) at c.link_by_rules.ensures in
    let entry = ap Some c.as_bytes.ensures.value in
    inl (
      Link r.base r.page r.entry r.rules r.names,
      asked,
      (record { base = r.base; page = r.page; entry = Some c.as_bytes.result }, (refl, refl, entry), ends),
    )
