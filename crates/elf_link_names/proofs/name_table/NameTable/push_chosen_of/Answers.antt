use Rattle.std.proofs.Common.{◌≡◌, length, subst, arith, ℕ}
use Rattle.elf_link_files.specs.Files.{object_at}
use Rattle.elf_link_files.specs.Rows.{UpTo}
use Rattle.elf_link_names.specs.Resolution.{AreChosenIn}
use Rattle.elf_link_names.specs.Binds.{chosen_commons}
use Rattle.elf_link_names.proofs.ChosenCommons.{chosen_file}
use Rattle.elf_link_names.proofs.name_table.NameTable.push_chosen_of.Goals as goal

pub returns : goal.returns
returns c =
    let fs = c.args.self.now in
    let count = c.symbol_count-index-end.ensures in
    let past = c.loop-index-test.false in
    let end : c.loop-index.index ≡ length (object_at fs c.args.file).symbols = omega arith in
    chosen_file fs c.args.file c.loop-index.commons.items
    (subst (λ (n : ℕ). AreChosenIn (UpTo (chosen_commons fs) c.args.file n) fs c.loop-index.commons.items) end c.loop-index.invariant)
