-- The search is over what the fields carry, which is what their entries say (`none_shared`, `first_shared`).
use Rattle.std.proofs.Common.{subst}
use Rattle.elf_link_relocate.proofs.Sharing.{first_shared, none_shared}
use Rattle.elf_link_relocate.specs.Passes.{FieldListValue, HasNoOverlap, IsFirstOverlappingField}
use Rattle.elf_link_relocate.proofs.field.FieldList.first_overlap.Goals as goal

pub returns-then-are_apart : goal.returns-then-are_apart
returns-then-are_apart c =
    let l = c.self.inside in
    subst (λ (v : FieldListValue). HasNoOverlap v.objects v.fields) c.self.view_is
    (none_shared l.values.now.objects l.values.now.map l.fields.now c.self.invariant.read
    (c.are_apart.ensures.apart c.if-are_apart.true))

pub returns : goal.returns
returns c =
    let l = c.self.inside in
    subst (λ (v : FieldListValue). IsFirstOverlappingField v.objects v.fields c.in_ok-first_sharer.field-0) c.self.view_is
    (first_shared l.values.now.objects l.values.now.map l.fields.now c.self.invariant.read c.in_ok-first_sharer.field-0
    c.in_ok-first_sharer.ensures)
