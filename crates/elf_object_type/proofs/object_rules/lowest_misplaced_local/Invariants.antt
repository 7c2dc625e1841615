use Rattle.std.proofs.Common.{◌≡◌, ℕ, ◌<◌, true, false}
use Rattle.elf_object_type.specs.Object.{symbol_at}
use Rattle.elf_object_type.specs.ObjectView.{value_of}
use Rattle.elf_object_type.specs.ObjectRules.{IsLocal, IsMisplacedLocal}
use Rattle.elf_object_type.proofs.object_rules.lowest_misplaced_local.Given as goal

-- where all symbols so far are local, none is misplaced; else one of them is not local
abbrev pub invariant-loop-i : goal.invariant-loop-i
invariant-loop-i l =
    let o = value_of l.parts in
    record {
      never : (k : ℕ) → k < l.i → IsMisplacedLocal o k → ⊥;
      local : l.all_local ≡ true → (k : ℕ) → k < l.i → IsLocal (symbol_at o k);
      other : l.all_local ≡ false → (k : ℕ) × (k < l.i) × ¬ IsLocal (symbol_at o k);
    }
