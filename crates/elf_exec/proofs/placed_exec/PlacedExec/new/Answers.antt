use Rattle.std.proofs.Common.{subst, sym}
use Rattle.elf_link_map.specs.LinkMap.{LinkMapValue}
use Rattle.elf_link_relocate.specs.Loads.{EndInTime}
use Rattle.elf_exec.proofs.ExecText.{commons_end}
use Rattle.elf_exec.proofs.placed_exec.PlacedExec.new.Goals as goal

pub loads-requires : goal.loads-requires
loads-requires c = subst (λ (m : LinkMapValue). EndInTime m.commons) (sym c.map.ensures) (commons_end c.args.linked.now c.requires)
