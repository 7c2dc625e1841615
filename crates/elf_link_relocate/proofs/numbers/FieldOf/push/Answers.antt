-- What is seen of the fields, the list and the copies are each those of one field more.
use Rattle.std.proofs.Common.{List, ap, subst, ◌∙◌}
use Rattle.elf_object_type.specs.Object.{ObjectValue}
use Rattle.elf_link_relocate.specs.Passes.{FieldOfValue, IsPatchedOrBroken, LinkingValue, copies_view}
use Rattle.elf_link_relocate.proofs.Patches.{found_more}
use Rattle.elf_link_relocate.proofs.numbers.FieldOf.push.Goals as goal

pub returns-clause-ok : goal.returns-clause-ok
returns-clause-ok c =
    let l = c.args.self.now in
    let objects = ap (λ (now : LinkingValue). now.objects) c.linking.ensures ∙ ap (λ (now : FieldOfValue). now.objects) c.self.view_is in
    let put = subst
    (λ (fs : List ObjectValue). IsPatchedOrBroken fs c.validated-validated.result (copies_view c.args.found.now.copies.items)
    (copies_view c.patch_field.new.copies.items))
    objects c.patch_field.ensures in
    found_more l.objects l.map l.rules c.args.listing l.field.site c.args.found.now c.validated-validated.result _
    c.validated-validated.ensures c.requires
    c.with-found.ensures c.in_ok-list_field.ensures put
