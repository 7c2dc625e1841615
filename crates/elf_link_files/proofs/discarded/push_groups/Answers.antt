use Rattle.std.proofs.Common.{◌≡◌, ℕ, arith, length, subst}
use Rattle.elf_link_files.specs.Discarded.{comdat_groups}
use Rattle.elf_link_files.specs.Files.{IsComdat, object_at}
use Rattle.elf_link_files.specs.Rows.{Lists, UpTo, section_count}
use Rattle.elf_link_files.proofs.MarkedFiles.{object_is}
use Rattle.elf_link_files.proofs.SiteLists.{listed_file}
use Rattle.elf_link_files.proofs.discarded.push_groups.Goals as goal

pub returns : goal.returns
returns c =
    let fs = c.args.objects.now in
    let is = object_is fs c.args.file c.index-objects-file.result c.requires.file c.index-objects-file.is in
    let count = rw (← is) at c.section_count-index-end.ensures in
    let past = c.loop-index-test.false in
    let end : c.loop-index.index ≡ length (object_at fs c.args.file).sections = omega arith in
    listed_file section_count fs (IsComdat fs) c.args.file c.loop-index.groups.items
    (subst (λ (n : ℕ). Lists (UpTo (comdat_groups fs) c.args.file n) c.loop-index.groups.items) end c.loop-index.invariant)
