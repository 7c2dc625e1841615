use Rattle.std.proofs.Common.{◌≡◌, ◌∙◌, List, IfOk, [], ◌∷◌, ap, map, refl, subst}
use Rattle.elf_link_files.specs.Discarded.{signature_site, signatures_of}
use Rattle.elf_link_files.specs.Files.{signature}
use Rattle.elf_link_files.specs.SameNames.{site_names}
use Rattle.elf_link_files.specs.declared.same_names.Named.TheVariants.{Symbol}
use Rattle.elf_link_files.specs.declared.site.Site.{Site}
use Rattle.elf_object_strings.specs.StringTable.{AreEqualTo}
use Rattle.elf_object_type.specs.Object.{ObjectValue}
use Rattle.elf_link_files.proofs.discarded.first_of_signatures.Goals as goal

-- the names of the signature symbols are the signatures
names_of_signatures : (fs : List ObjectValue) (groups : List Site) →
    site_names fs Symbol (map (signature_site fs) groups) ≡ signatures_of fs groups
names_of_signatures fs [] = refl
names_of_signatures fs (p ∷ ps) = ap (λ rest. signature fs p.file p.index ∷ rest) (names_of_signatures fs ps)

pub returns : goal.returns
returns c =
    let fs = c.args.objects.now in
    subst (λ names. IfOk c.first_of_names.result (λ firsts. AreEqualTo names firsts.items))
    (ap (site_names fs Symbol) (c.deref.ensures.value ∙ c.in_ok-sites.ensures.symbols) ∙ names_of_signatures fs c.args.groups.now)
    c.first_of_names.ensures
