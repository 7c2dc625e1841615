use Rattle.std.proofs.Common.{◌≡◌, ◌<◌, ◌∙◌, ap, length, subst, sym}
use Rattle.elf_object_type.specs.Object.{SectionValue}
use Rattle.elf_link_files.specs.Files.{object_at, section_in, signature_position}
use Rattle.elf_link_files.specs.SameNames.{IsNamedIn}
use Rattle.elf_link_files.specs.declared.same_names.Named.TheVariants.{Symbol}
use Rattle.elf_link_files.proofs.MarkedFiles.{signature_there}
use Rattle.elf_link_files.proofs.discarded.signature_site.Goals as goal

pub returns-clause-there : goal.returns-clause-there
returns-clause-there c =
    let fs = c.args.objects.now in
    let p = c.args.group in
    let (file, index, comdat, entry) = c.requires in
    let body = ap (λ (s : SectionValue). s.body) c.section_of.ensures in
    let position : c.signature_position.result ≡ signature_position (section_in fs p.file p.index).body =
    c.signature_position.ensures ∙ ap signature_position body in
    let symbol = signature_there (object_at fs p.file) p.index c.prove_rules.ensures index comdat.2 in
    subst (IsNamedIn fs Symbol) (sym c.site_in.ensures)
    (file, subst (λ n. n < length (object_at fs p.file).symbols) (sym position) symbol)
