use Rattle.std.proofs.Common.{subst, arith}
use Rattle.std.proofs.lemmas.List.{length-map}
use Rattle.elf_object_type.specs.Object.{SymbolValue}
use Rattle.elf_object_writer.specs.PlacedObject.{IsPlacedWith}
use Rattle.elf_object_layout.specs.Laid.{symbol_names}
use Rattle.elf_object_layout.proofs.Public.{place_read, symbol_name_below}
use Rattle.elf_object_writer.proofs.placed_object.PlacedObject.symbol_name.Goals as goal

pub overflow_cast-result : goal.overflow_cast-result
overflow_cast-result c =
    let o = c.args.self.now.object in
    let placed = subst (IsPlacedWith c.self.inside.tables) c.self.view_is c.self.invariant in
    let many = length-map o.symbols (λ (s : SymbolValue). s.name) in
    let is = place_read
    (symbol_names o) c.self.inside.tables.strings.offsets.items c.args.position c.index.result.now placed.tables.string_offsets
    (omega arith) c.index.ensures in
    let below = symbol_name_below o c.args.self.now.layout c.args.position placed.placed.layout c.requires in
    omega arith
