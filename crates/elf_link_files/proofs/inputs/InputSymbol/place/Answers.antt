use Rattle.std.proofs.Common.{ap, sym, subst}
use Rattle.elf_object_type.specs.Object.{ObjectValue, SymbolValue}
use Rattle.elf_object_type.specs.ObjectRules.{IsObject}
use Rattle.elf_object_type.specs.declared.parts.Place.{Place}
use Rattle.elf_link_files.specs.Files.{object_at, IsPlaceIn}
use Rattle.elf_link_files.proofs.MarkedFiles.{symbol_placed}
use Rattle.elf_link_files.proofs.inputs.InputSymbol.place.Goals as goal

pub returns-clause-there : goal.returns-clause-there
returns-clause-there c =
    let id = c.args.self.now.id in
    let o = object_at c.args.self.now.inputs.now id.file in
    subst (λ (p : Place). IsPlaceIn o p) (ap (λ (s : SymbolValue). s.place) (sym c.symbol.ensures))
    (symbol_placed o id.index (subst (λ (x : ObjectValue). IsObject x) c.object.ensures c.prove_rules.ensures.kept) c.args.self.now.there.1)
