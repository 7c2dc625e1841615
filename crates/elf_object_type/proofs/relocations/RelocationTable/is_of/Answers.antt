use Rattle.std.proofs.Common.{◌≡◌, ◌%◌, Bool, true, false, length, sym, ap, ◌∙◌}
use Rattle.std.specs.Cmp.{booleans_Decides, unsigned_Decides}
use Rattle.elf_object_type.specs.laws.Equality.{order_decides}
use Rattle.elf_object_type.proofs.PartsOfObjects.{order_same, table_is_of}
use Rattle.elf_object_type.proofs.relocations.RelocationTable.is_of.Goals.{then-eq, else-eq}
use Rattle.elf_object_type.proofs.relocations.RelocationTable.is_of.Goals as goal

not_both : (b : Bool) → b ≡ true → b ≡ false → ⊥
not_both true is other = cc
not_both false is other = cc

pub returns-then-self-rela : goal.returns-then-self-rela
returns-then-self-rela c =
    let t = c.args.self.now in
    elim c.if-eq.branch [
      | then-eq w ↦ λ e.
          table_is_of t c.args.rela c.args.order c.prove_bytes.ensures
          ((booleans_Decides t.rela c.args.rela).0 (sym w.value-is ∙ c.if-self-rela.true))
          ((order_decides t.order c.args.order).0 (sym (order_same t.order c.args.order) ∙ sym c.eq.ensures ∙ w.if-eq.true))
          (ap (λ n. length t.bytes.now % n) (sym c.relocation_size.ensures) ∙
          (unsigned_Decides (length t.bytes.now % c.relocation_size.result) 0).0 e)
      | else-eq w ↦ λ e. absurd (not_both c.if-eq.value c.if-self-rela.true (w.value-is ∙ w.if-eq.false))
    ]
