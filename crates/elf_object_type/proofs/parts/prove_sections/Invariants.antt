use Rattle.std.proofs.Common.{map, take}
use Rattle.std.specs.List.{AllByRecursion}
use Rattle.elf_object_type.specs.ObjectView.{section_value}
use Rattle.elf_object_type.specs.Object.{SectionFits}
use Rattle.elf_object_type.proofs.parts.prove_sections.Given as goal

abbrev pub invariant-loop-section : goal.invariant-loop-section
invariant-loop-section l = AllByRecursion SectionFits (map section_value (take l.section-index l.sections))
