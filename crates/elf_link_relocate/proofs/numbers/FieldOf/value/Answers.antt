use Rattle.std.proofs.Common.{◌≡◌, List, Option, ap, ℕ, subst, sym}
use Rattle.std.specs.Prelude.{IfSome}
use Rattle.elf_object_type.specs.declared.relocations.Relocation.{Relocation}
use Rattle.elf_object_type.specs.Object.{ObjectValue}
use Rattle.elf_object_type.specs.ObjectRules.{IsObject}
use Rattle.elf_link_files.specs.Files.{object_at}
use Rattle.elf_link_relocate.specs.Passes.{LinkingValue}
use Rattle.elf_link_relocate.specs.Views.{IsFileSymbol}
use Rattle.elf_link_relocate.proofs.Patches.{symbol_in_file}
use Rattle.elf_link_relocate.proofs.numbers.FieldOf.value.Goals as goal

pub reference-requires : goal.reference-requires
reference-requires c =
    let fs = c.self.inside.values.now.objects in
    let p = c.self.inside.field.site in
    let is = c.self.invariant in
    let same : c.linking.inside.objects.now ≡ c.linking-linking.result.now.objects =
    ap (λ (l : LinkingValue). l.objects) c.linking.view_is in
    let here = subst (λ (l : LinkingValue). IsObject (object_at l.objects p.file)) c.linking-linking.ensures
    (subst (λ (os : List ObjectValue). IsObject (object_at os p.file)) same c.prove_rules.ensures) in
    let symbol = symbol_in_file fs p is.has.applied.0 here in
    subst (λ (o : Option ℕ). IfSome o (IsFileSymbol fs p.file))
    (sym (ap (λ (r : Relocation). r.symbol) (rw is.site at is.entry.relocation))) symbol
