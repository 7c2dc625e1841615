-- One pass of the loop adds the part of one more section. A section that is there has no wrong type, because an object keeps the rules.
use Rattle.std.proofs.Common.{◌∷◌, ◌++◌, ℕ, List, [], map, take_all, ap, ap₂, subst, sym, ◌∙◌}
use Rattle.std.proofs.lemmas.List.{map_more}
use Rattle.elf_object_type.specs.declared.parts.Section.{Section}
use Rattle.elf_object_layout.specs.Laid.{content_part, saturated, own_section}
use Rattle.elf_object_type.specs.Object.{SectionValue}
use Rattle.elf_object_type.specs.ObjectView.{section_value}
use Rattle.elf_object_type.specs.ObjectRules.{IsWrongBitsType}
use Rattle.elf_object_layout.proofs.PlainSections.{own_parts_are, section_read}
use Rattle.elf_object_type.proofs.Public.{no_wrong_bits_type}
use Rattle.elf_object_layout.proofs.layout.own_parts.Goals as goal

pub content_part-requires : goal.content_part-requires
content_part-requires c = λ wrong.
    let o = c.args.object.now in
    let read =
    section_read o c.sections-section-items.result.now c.loop-section.section-index c.section-item.result c.sections-section-items.ensures
    c.loop-section-test.true c.section-item.is in
    no_wrong_bits_type o c.prove_rules.ensures.kept c.loop-section.section-index read.1
    (subst (λ (s : SectionValue). IsWrongBitsType s.body) read.0 wrong)

pub returns : goal.returns
returns c =
    let o = c.args.object.now in
    let items = c.sections-section-items.result.now in
    c.loop-section.invariant
    ∙ ap (map (λ (s : Section). saturated (content_part (own_section o (section_value s)))))
    (take_all c.loop-section.section-index items c.loop-section-test.false)
    ∙ own_parts_are o items
    ∙ ap (λ (ss : List SectionValue). map saturated (map content_part (map (own_section o) ss))) c.sections-section-items.ensures

pub loop-section-preserved : goal.loop-section-preserved
loop-section-preserved c =
    let o = c.args.object.now in
    let part : Section → ℕ × ℕ = λ s. saturated (content_part (own_section o (section_value s))) in
    let item = c.section-item.result in
    c.in_ok-push.ensures.items
    ∙ ap₂ (λ (parts : List (ℕ × ℕ)) (last : ℕ × ℕ). parts ++ (last ∷ [])) c.loop-section.invariant
    (c.content_part.ensures o ∙ ap part c.section-item.is)
    ∙ sym (map_more part c.sections-section-items.result.now c.loop-section.section-index item c.loop-section-test.true)
