use Rattle.std.proofs.Common.{◌≡◌, None, nat_eq, rules, map, sym, subst, ◌∙◌}
use Rattle.std.specs.Map.{keys_of, values_of}
use Rattle.indexmap.specs.IndexMap.{get}
use Rattle.indexmap.proofs.CallerLemmas.{insert_entry-new}
use Rattle.elf_link_outputs.specs.Outputs.{IsMemberAdded}
use Rattle.elf_link_outputs.proofs.Grouped.{entry_joined, entry_opened}
use Rattle.elf_link_outputs.proofs.outputs.add_member.Goals as goal

pub returns-in-Some : goal.returns-in-Some
returns-in-Some g c =
    entry_joined c.args.groups.now.entries c.args.number c.in-Some.group c.index_mut.result.now c.push.new.self c.args.site
    (search rules) c.index_mut.ensures.value c.in_ok-push.ensures.items

pub returns : goal.returns
returns g c =
    let es = c.args.groups.now.entries in
    let absent : get nat_eq c.args.groups.now c.args.number ≡ None = search rules in
    subst (λ now. IsMemberAdded (keys_of es) (map (λ ms. ms.items) (values_of es)) c.args.number c.args.site (keys_of now)
    (map (λ ms. ms.items) (values_of now)))
    (sym (c.in_ok-insert.ensures.entries ∙ insert_entry-new nat_eq c.args.groups.now c.args.number c.in_ok-vec.field-0 absent))
    (entry_opened es c.args.number c.in_ok-vec.field-0 c.args.site absent (search rules))
