use Rattle.std.proofs.Common.{ℕ, List, ap, ◌∙◌, map}
use Rattle.elf_object_type.specs.ObjectView.{symbol_value}
use Rattle.elf_object_type.specs.Object.{symbol_at, SymbolValue}
use Rattle.elf_object_type.specs.declared.parts.Symbol.{Symbol}
use Rattle.elf_object_edit.specs.Without.{moved_symbol, stays}
use Rattle.elf_object_type.proofs.Public.{mapped_next, mapped_passed}
use Rattle.elf_object_edit.proofs.references.Edit.kept_symbols.Goals.{then-stays+in_ok-push, else-stays}
use Rattle.elf_object_edit.proofs.references.Edit.kept_symbols.Goals as goal

pub loop-i-preserved : goal.loop-i-preserved
loop-i-preserved c =
    let S = c.args.self.now.sections.marks.items in
    let Y = c.args.self.now.symbols.marks.items in
    let moved : ℕ → SymbolValue = λ k. moved_symbol S (symbol_at c.args.self.now.object.now k) in
    let i = c.loop-i.i in
    elim c.if-stays.branch [
      | then-stays+in_ok-push w ↦ (
          let here = rw c.stays.ensures at w.if-stays.true in
          let pushed = ap (λ (v : _). v.items) w.read-is ∙ w.in_ok-push.ensures.items in
          ap (λ (xs : List Symbol). map symbol_value xs) pushed ∙
          mapped_next symbol_value moved (stays Y) i c.loop-i.read.items w.moved_symbol.result c.loop-i.invariant
          (w.moved_symbol.ensures ∙ ap (moved_symbol S) w.symbol_at.ensures) here)
      | else-stays w ↦ (
          let here = rw c.stays.ensures at w.if-stays.false in
          ap (λ (v : _). map symbol_value v.items) w.read-is ∙ c.loop-i.invariant ∙ mapped_passed moved (stays Y) i here)
    ]
