use Rattle.elf_image_rules.proofs.Public as rules
use Rattle.elf_image_rules.proofs.laws.fault_of_extents.Goals as goal

pub returns : goal.returns
returns c = record { found = rules.fault_of_extents; last = rules.overlap_alone }
