use Rattle.std.proofs.Common.{◌∷◌, ◌++◌, ◌∙◌, List, ℕ, [], ap, ap₂, map, sym, take_all}
use Rattle.std.proofs.lemmas.List.{map-append, map_more}
use Rattle.elf_field.specs.declared.shdr.Shdr.{Shdr}
use Rattle.elf_image_rules.specs.Tables.{bytes_in, content_extent}
use Rattle.elf_image_type.proofs.files.contents_of.Goals as goal

pub loop-entry-preserved : goal.loop-entry-preserved
loop-entry-preserved c =
    let content_in : Shdr → List ℕ = λ s. bytes_in c.args.bytes.now (content_extent s) in
    ap (map (λ content. content.now)) c.in_ok-push.ensures.items
    ∙ map-append (λ content. content.now) c.loop-entry.contents.items (c.content_of.result ∷ [])
    ∙ ap₂ (λ (contents : List (List ℕ)) (content : List ℕ). contents ++ (content ∷ [])) c.loop-entry.invariant c.content_of.ensures.content
    ∙ sym (map_more content_in c.args.entries.now c.loop-entry.entry-index _ c.loop-entry-test.true)

pub returns : goal.returns
returns c =
    c.loop-entry.invariant ∙
    ap (map (λ (s : Shdr). bytes_in c.args.bytes.now (content_extent s)))
    (take_all c.loop-entry.entry-index c.args.entries.now c.loop-entry-test.false)
