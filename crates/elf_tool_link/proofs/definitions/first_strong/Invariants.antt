use Rattle.std.proofs.Common.{◌<◌}
use Rattle.elf_link_files.specs.Rows.{strong}
use Rattle.elf_link_files.specs.declared.site.Site.{Site}
use Rattle.elf_tool_link.proofs.definitions.first_strong.Given as goal

abbrev pub invariant-loop-file : goal.invariant-loop-file
invariant-loop-file l = (p : Site) → strong l.inputs l.name p → p.file < l.file → ⊥
