use Rattle.std.proofs.Common.{◌≡◌, map, take}
use Rattle.elf_tool_link.proofs.mapped.slices_of.Given as goal

-- the bytes of the first files are there
abbrev pub invariant-loop-file : goal.invariant-loop-file
invariant-loop-file l = map (λ s. s.now) l.slices.items ≡ map (λ f. f.items) (take l.file-index l.files)
