use Rattle.std.proofs.Common.{◌≡◌, map, take}
use Rattle.elf_image_rules.specs.Tables.{bytes_in, content_extent}
use Rattle.elf_image_type.proofs.files.contents_of.Given as goal

abbrev pub invariant-loop-entry : goal.invariant-loop-entry
invariant-loop-entry l = map (λ c. c.now) l.contents.items ≡ map (λ s. bytes_in l.bytes (content_extent s)) (take l.entry-index l.entries)
