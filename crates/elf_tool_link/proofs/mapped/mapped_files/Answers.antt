use Rattle.std.proofs.Common.{Bor, List, map, subst, sym, ℕ}
use Rattle.std.specs.Prelude.{None}
use Rattle.elf_object_type.specs.Object.{ObjectValue}
use Rattle.elf_link_map.specs.LinkMap.{FirstOfLink}
use Rattle.elf_tool_link.specs.ObjectFiles.{AreObjectFiles}
use Rattle.elf_tool_link.proofs.mapped.mapped_files.Goals as goal

pub returns : goal.returns
returns c =
    let same = sym c.in_ok-new.ensures.objects in (
      subst (λ (fs : List ObjectValue). AreObjectFiles (map (λ (f : Bor (List ℕ)). f.now) c.args.files.now) fs) same
          c.in_ok-objects.ensures,
      c.in_ok-new.ensures.map,
      subst (λ (fs : List ObjectValue). FirstOfLink c.args.options.now fs None) same c.in_ok-new.ensures.sound,
    )
