-- The rules that take no memory are kept, so a scan of the bytes that stops says why they are no image (`stops_parse`). Otherwise its
-- outline is that of the bytes, and with their contents it is their image.
use Rattle.std.proofs.Common.{◌≡◌, ◌∙◌, List, ℕ, ap, map, refl, subst, sym}
use Rattle.elf_field.specs.declared.shdr.Shdr.{Shdr}
use Rattle.elf_image_rules.specs.Tables.{bytes_in, content_extent}
use Rattle.elf_image_outline.specs.Image.{ImageValue, IsImage, IsSoundImage}
use Rattle.elf_image_outline.specs.Outline.{OutlineValue, contents_in, image_of}
use Rattle.elf_image_outline.proofs.Scanned.{stopped}
use Rattle.elf_image_type.specs.Parsing.{IsParseFault}
use Rattle.elf_image_type.proofs.BytesScanned.{stops_parse}
use Rattle.elf_image_type.proofs.ImageLemmas.{one_image}
use Rattle.elf_image_type.proofs.files.parse.Goals as goal

pub returns-in_err-outline-clause-err : goal.returns-in_err-outline-clause-err
returns-in_err-outline-clause-err c =
    let b = c.args.bytes.now in
    stopped (IsParseFault b) _ _
    (stops_parse OutlineValue b _ c.in_ok-validate_records.ensures.kept c.in_err-outline.ensures.failures
    (c.in_err-outline.ensures.known b refl))
    c.from_residual-in_err-outline.ensures.1

pub new-requires : goal.new-requires
new-requires c =
    let b = c.args.bytes.now in
    let o = c.in_ok-outline.outline in
    let contents : map (λ content. content.now) c.in_ok-contents.contents.items ≡ contents_in o b =
    c.in_ok-contents.ensures ∙ ap (map (λ (s : Shdr). bytes_in b (content_extent s))) c.sections.ensures in
    subst (λ (cs : List (List ℕ)). IsSoundImage (image_of o cs b)) (sym contents) (c.in_ok-outline.ensures.of b refl)

pub returns-clause-ok : goal.returns-clause-ok
returns-clause-ok c =
    let b = c.args.bytes.now in
    let o = c.in_ok-outline.outline in
    let contents : map (λ content. content.now) c.in_ok-contents.contents.items ≡ contents_in o b =
    c.in_ok-contents.ensures ∙ ap (map (λ (s : Shdr). bytes_in b (content_extent s))) c.sections.ensures in
    subst (λ (v : ImageValue). IsImage v b) (sym (c.new.ensures ∙ ap (λ (cs : List (List ℕ)). image_of o cs b) contents))
    (c.in_ok-outline.ensures.known b refl)

pub returns-clause-one_image : goal.returns-clause-one_image
returns-clause-one_image c other image = one_image other _ c.args.bytes.now image (returns-clause-ok c)
