use Rattle.std.proofs.Common.{ap, sym}
use Rattle.elf_table_all.proofs.TableLinks.{all_noted, all_passed}
use Rattle.elf_table_all.proofs.verdicts.AllIndexTables.new.Goals.{then-section-eq-SHT_SYMTAB_SHNDX+in_ok-note}
use Rattle.elf_table_all.proofs.verdicts.AllIndexTables.new.Goals.{else-section-eq-SHT_SYMTAB_SHNDX}
use Rattle.elf_table_all.proofs.verdicts.AllIndexTables.new.Goals as goal

pub loop-j-preserved : goal.loop-j-preserved
loop-j-preserved c =
    elim c.if-section-eq-SHT_SYMTAB_SHNDX.branch [
      | then-section-eq-SHT_SYMTAB_SHNDX+in_ok-note w ↦
          let typed = rw c.section-section.ensures.value at w.if-section-eq-SHT_SYMTAB_SHNDX.true in
          let link = ap (λ (s : _). s.sh_link) c.section-section.ensures.value in
          rw w.all-is
          (all_noted _ c.loop-j.j c.section-section.result.sh_link c.loop-j.all w.note.new.self c.loop-j.invariant (typed, sym link)
          w.in_ok-note.ensures.here w.in_ok-note.ensures.others)
      | else-section-eq-SHT_SYMTAB_SHNDX w ↦
          let other = rw c.section-section.ensures.value at w.if-section-eq-SHT_SYMTAB_SHNDX.false in
          rw w.all-is (all_passed _ c.loop-j.j c.loop-j.all c.loop-j.invariant (λ i here. other here.0))
    ]
