use Rattle.std.proofs.Common.{◌≡◌, map, take}
use Rattle.std.specs.List.{All}
use Rattle.elf_link_files.specs.Discarded.{signature_site}
use Rattle.elf_link_files.specs.SameNames.{IsNamedIn}
use Rattle.elf_link_files.specs.declared.same_names.Named.TheVariants.{Symbol}
use Rattle.elf_link_files.proofs.discarded.signature_sites.Given as goal

abbrev pub invariant-loop-k : goal.invariant-loop-k
invariant-loop-k l = record {
  symbols : l.sites.items ≡ map (signature_site l.objects) (take l.k l.groups);
  there : All (IsNamedIn l.objects Symbol) l.sites.items;
}
