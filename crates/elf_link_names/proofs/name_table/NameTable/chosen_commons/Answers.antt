use Rattle.std.proofs.Common.{◌≡◌, length, sym, subst, arith, ℕ, List}
use Rattle.elf_link_files.specs.Rows.{UpTo}
use Rattle.elf_link_files.specs.declared.site.Chosen.{Chosen}
use Rattle.elf_link_names.specs.Resolution.{AreChosenIn}
use Rattle.elf_link_names.specs.Binds.{chosen_commons}
use Rattle.elf_link_names.proofs.ChosenCommons.{chosen_all, chosen_none}
use Rattle.elf_link_names.proofs.name_table.NameTable.chosen_commons.Goals as goal

pub loop-file-init : goal.loop-file-init
loop-file-init c =
    let fs = c.args.self.now in
    subst (λ (cs : List Chosen). AreChosenIn (UpTo (chosen_commons fs) 0 0) fs cs) (sym c.new-commons.ensures.items) (chosen_none fs)

pub returns : goal.returns
returns c =
    let fs = c.args.self.now in
    let count = c.file_count-file-end.ensures in
    let past = c.loop-file-test.false in
    let end : c.loop-file.file ≡ length fs = omega arith in
    chosen_all fs c.loop-file.commons.items
    (subst (λ (n : ℕ). AreChosenIn (UpTo (chosen_commons fs) n 0) fs c.loop-file.commons.items) end c.loop-file.invariant)
