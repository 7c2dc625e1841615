use Rattle.std.proofs.Common.{◌≡◌, true, false, refl}
use Rattle.elf_link_files.specs.Files.{Live}
use Rattle.elf_link_files.specs.Rows.{section_count}
use Rattle.elf_link_files.proofs.Public.{listed_more, listed_past}
use Rattle.elf_link_names.proofs.resolution.push_live.Goals as goal

pub returns-then-not-is_live : goal.returns-then-not-is_live
returns-then-not-is_live c =
    let s = c.args.section.now in
    let fs = s.inputs.now in
    listed_past section_count fs (Live fs) s.id.file s.id.index c.args.sites.now.items
    (λ here. (let never : false ≡ true = c.if-not-is_live.ensures.1 here in absurd (cc))) c.requires

pub returns : goal.returns
returns c =
    let s = c.args.section.now in
    let fs = s.inputs.now in
    rw (c.in_ok-push.ensures.items, c.site_in.ensures)
    (listed_more section_count fs (Live fs) s.id.file s.id.index c.args.sites.now.items
    s.there.0 s.there.1 (c.if-not-is_live.ensures.0 refl) c.requires)
