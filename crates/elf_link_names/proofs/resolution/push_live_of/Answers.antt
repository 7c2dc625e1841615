use Rattle.std.proofs.Common.{◌≡◌, length, subst, arith, ℕ}
use Rattle.elf_link_files.specs.Files.{object_at, Live}
use Rattle.elf_link_files.specs.Rows.{Lists, UpTo, section_count}
use Rattle.elf_link_names.specs.Binds.{live_sections}
use Rattle.elf_link_files.proofs.Public.{listed_file}
use Rattle.elf_link_names.proofs.resolution.push_live_of.Goals as goal

pub returns : goal.returns
returns c =
    let fs = c.args.inputs.now in
    let count = rw c.object.ensures at c.section_count-index-end.ensures in
    let past = c.loop-index-test.false in
    let end : c.loop-index.index ≡ length (object_at fs c.args.file).sections = omega arith in
    listed_file section_count fs (Live fs) c.args.file c.loop-index.sites.items
    (subst (λ (n : ℕ). Lists (UpTo (live_sections fs) c.args.file n) c.loop-index.sites.items) end c.loop-index.invariant)
