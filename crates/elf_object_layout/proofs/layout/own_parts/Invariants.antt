use Rattle.std.proofs.Common.{◌≡◌, map, take}
use Rattle.elf_object_type.specs.declared.parts.Section.{Section}
use Rattle.elf_object_layout.specs.Laid.{content_part, saturated, own_section}
use Rattle.elf_object_type.specs.ObjectView.{section_value}
use Rattle.elf_object_layout.proofs.layout.own_parts.Given as goal

abbrev pub invariant-loop-section : goal.invariant-loop-section
invariant-loop-section l =
    l.parts.items ≡
    map (λ (s : Section). saturated (content_part (own_section l.object (section_value s)))) (take l.section-index l.section-items)
