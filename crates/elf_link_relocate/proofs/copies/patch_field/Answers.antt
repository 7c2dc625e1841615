-- A field lies within a section that is live, whose copy is there and as long as its content: so the field has room in the copy, and
-- patching it there is one more field relocated.
use Rattle.std.proofs.Common.{FitsSigned, ap, sym, ◌∙◌, arith, rules, ◌≡◌, inl, List, ℕ, length}
use Rattle.std.specs.Int.{w128}
use Rattle.std.proofs.Math.Facts.{to_z-of_z}
use Rattle.std.proofs.lemmas.List.{length-map}
use Rattle.elf_object_type.specs.Object.{ObjectValue}
use Rattle.elf_link_files.specs.Files.{object_at}
use Rattle.elf_link_files.proofs.Public.{object_is}
use Rattle.elf_link_relocate.specs.Passes.{LinkingValue}
use Rattle.elf_link_field.specs.Field.{size_of}
use Rattle.elf_link_relocate.specs.Fields.{IsWithin, field_start}
use Rattle.elf_link_relocate.proofs.Collected.{within_unless}
use Rattle.elf_link_relocate.proofs.Patches.{same_bytes, target_live}
use Rattle.elf_link_relocate.proofs.copies.patch_field.Goals as goal

pub patch_in-requires-clause-file : goal.patch_in-requires-clause-file
patch_in-requires-clause-file c =
    let file = c.requires.validated.has.applied.0.file in
    let rows = simp length-map at c.requires.copies.grid.files in
    rw rows file

pub patch_in-requires-clause-section : goal.patch_in-requires-clause-section
patch_in-requires-clause-section c =
    let objects : c.linking.inside.objects.now ≡ c.args.linking.now.objects = ap (λ (l : LinkingValue). l.objects) c.linking.view_is in
    let fs = c.args.linking.now.objects in
    let d = c.args.validated.field in
    let live = target_live fs c.args.linking.now.rules d.site d.rule c.requires.validated.has (rw objects at c.prove_rules.ensures) in
    rw (c.requires.validated.read.place.target, c.requires.copies.grid.sections d.site.file live.0.0) live.0.1

pub patch_in-requires-clause-room : goal.patch_in-requires-clause-room
patch_in-requires-clause-room c =
    let objects : c.linking.inside.objects.now ≡ c.args.linking.now.objects = ap (λ (l : LinkingValue). l.objects) c.linking.view_is in
    let fs = c.args.linking.now.objects in
    let d = c.args.validated.field in
    let live = target_live fs c.args.linking.now.rules d.site d.rule c.requires.validated.has (rw objects at c.prove_rules.ensures) in
    let (copy, at, long) = c.requires.copies.each _ _ live in
    let within : IsWithin fs d.site d.rule =
    within_unless c.args.validated.out_of_range _ _ c.requires.validated.out_of_range c.if-validated-2.false in
    rw (c.requires.validated.read.place.target, c.requires.validated.read.place.offset) (copy, at, omega arith)

pub returns : goal.returns
returns c =
    let objects : c.linking.inside.objects.now ≡ c.args.linking.now.objects = ap (λ (l : LinkingValue). l.objects) c.linking.view_is in
    let fs = c.args.linking.now.objects in
    let d = c.args.validated.field in
    let read = c.requires.validated.read in
    let live = target_live fs c.args.linking.now.rules d.site d.rule c.requires.validated.has (rw objects at c.prove_rules.ensures) in
    let object =
    sym (object_is fs d.site.file c.index-objects-field.result c.requires.validated.has.applied.0.file
    (rw objects at c.index-objects-field.is)) in
    let order = c.order.ensures ∙ ap (λ (o : ObjectValue). o.order) object in
    let fits : FitsSigned w128 d.number = search rules in
    let (copy, at, new) = simp (read.place.target, read.place.offset, order, to_z-of_z, fits) at c.patch_in.ensures in
    let (its, its_at, its_long) = c.requires.copies.each _ _ live in
    let long = ap (λ (b : List ℕ). length b) (same_bytes copy its (sym at ∙ its_at)) ∙ its_long in
    let within : IsWithin fs d.site d.rule =
    within_unless c.args.validated.out_of_range _ _ c.requires.validated.out_of_range c.if-validated-2.false in
    let o = (object_at fs d.site.file).order in
    let put = c.patched_field.ensures o copy (field_start fs d.site) (size_of d.rule.width) d.number (omega arith) in
    inl (record { copy = copy; after = _; live = live; at = at; patched = put; new_is = new })
