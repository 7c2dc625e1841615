use Rattle.std.proofs.Common.{◌≡◌, length, map}
use Rattle.elf_tool_link.specs.ObjectFiles.{BeginAsObjects}
use Rattle.elf_tool_link.proofs.mapped.objects_of.Given as goal

-- the first files are objects
abbrev pub invariant-loop-file : goal.invariant-loop-file
invariant-loop-file l = record {
  count : length l.objects.items ≡ l.file;
  begin : BeginAsObjects (map (λ f. f.now) l.files) l.objects.items;
}
