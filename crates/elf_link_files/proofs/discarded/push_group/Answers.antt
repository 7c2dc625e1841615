use Rattle.elf_link_files.specs.Files.{IsComdat}
use Rattle.elf_link_files.specs.Rows.{section_count}
use Rattle.elf_link_files.proofs.SiteLists.{listed_more, listed_past}
use Rattle.elf_link_files.proofs.discarded.push_group.Goals as goal

pub returns-in_default : goal.returns-in_default
returns-in_default c =
    let fs = c.args.objects.now in
    listed_past section_count fs (IsComdat fs) c.args.id.file c.args.id.index c.args.groups.now.items c.in_default.ensures c.requires.before

pub returns : goal.returns
returns c =
    let fs = c.args.objects.now in
    rw (c.in_ok-push.ensures.items, c.site_in.ensures)
    (listed_more section_count fs (IsComdat fs) c.args.id.file c.args.id.index c.args.groups.now.items
    c.requires.section.0 c.requires.section.1 c.in-Some.ensures.0 c.requires.before)
