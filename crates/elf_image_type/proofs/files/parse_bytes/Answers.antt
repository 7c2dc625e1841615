-- The outline is that of the bytes, and with their contents it is their image.
use Rattle.std.proofs.Common.{◌≡◌, ◌∙◌, List, ℕ, ap, map, subst, sym}
use Rattle.elf_field.specs.declared.shdr.Shdr.{Shdr}
use Rattle.elf_image_rules.specs.Tables.{bytes_in, content_extent}
use Rattle.elf_image_outline.specs.Image.{ImageValue, IsImage, IsSoundImage}
use Rattle.elf_image_outline.specs.Outline.{contents_in, image_of}
use Rattle.elf_image_outline.specs.Scanning.{StopsInMemory}
use Rattle.elf_image_outline.proofs.Scanned.{stopped}
use Rattle.elf_image_stream.specs.declared.fault.BytesFault.TheVariants.{OutOfMemory}
use Rattle.elf_image_type.proofs.BytesParsed.{records_of_image}
use Rattle.elf_image_type.proofs.files.parse_bytes.Goals as goal

pub returns-in_err-contents-clause-err : goal.returns-in_err-contents-clause-err
returns-in_err-contents-clause-err c =
    let b = c.args.bytes.now in
    stopped (StopsInMemory b) OutOfMemory _ (records_of_image _ b c.in_ok-outline.ensures.image) c.from_residual-in_err-contents.ensures.1

pub new-requires : goal.new-requires
new-requires c =
    let b = c.args.bytes.now in
    let o = c.in_ok-outline.outline in
    let contents : map (λ content. content.now) c.in_ok-contents.contents.items ≡ contents_in o b =
    c.in_ok-contents.ensures ∙ ap (map (λ (s : Shdr). bytes_in b (content_extent s))) c.sections.ensures in
    subst (λ (cs : List (List ℕ)). IsSoundImage (image_of o cs b)) (sym contents) c.in_ok-outline.ensures.of

pub returns-clause-ok : goal.returns-clause-ok
returns-clause-ok c =
    let b = c.args.bytes.now in
    let o = c.in_ok-outline.outline in
    let contents : map (λ content. content.now) c.in_ok-contents.contents.items ≡ contents_in o b =
    c.in_ok-contents.ensures ∙ ap (map (λ (s : Shdr). bytes_in b (content_extent s))) c.sections.ensures in
    subst (λ (v : ImageValue). IsImage v b) (sym (c.new.ensures ∙ ap (λ (cs : List (List ℕ)). image_of o cs b) contents))
    c.in_ok-outline.ensures.image
