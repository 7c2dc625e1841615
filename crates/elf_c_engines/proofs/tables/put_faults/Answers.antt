use Rattle.std.proofs.Common.{◌<◌, ◌+◌, ◌∙◌, ℕ, None, arith, below_more, get_or-set_other, get_or-set_same, length, set, subst, sym}
use Rattle.std.proofs.lemmas.List.{length-set}
use Rattle.elf_table_symbols.specs.Sections.{sections_of}
use Rattle.elf_c_engines.specs.Tables.{HasTableFault, fault_slot, slot_at}
use Rattle.elf_c_engines.specs.declared.tables.TableFault.{TableFault}
use Rattle.elf_c_engines.proofs.tables.put_faults.Goals as goal

pub loop-k-preserved : goal.loop-k-preserved
loop-k-preserved c =
    let k = c.loop-k.k in
    let faults = c.loop-k.faults in
    let slot = c.slot_of.result in
    let before = c.loop-k.invariant in
    let long = before.long in
    let filled = c.min-filled.ensures in
    let here = c.loop-k-test.true in
    let within : k < length faults = omega arith in
    let Has : ℕ → TableFault → Type 0 = λ j. HasTableFault (sections_of c.args.tables.now.image) (c.args.first + j) in
    record {
      long = length-set faults k slot ∙ long;
      right = below_more (λ j. Has j (slot_at (set faults k slot) j)) k
          (λ j lt. subst (Has j) (sym (get_or-set_other faults k j slot (fault_slot None) (λ same. omega arith))) (before.right j lt))
          (subst (Has k) (sym (get_or-set_same faults k slot (fault_slot None) within)) (_, c.verdict.ensures.fault, c.slot_of.ensures));
      others = λ j from. get_or-set_other faults k j slot (fault_slot None) (λ same. omega arith) ∙ before.others j (omega arith);
    }
