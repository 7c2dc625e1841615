use Rattle.std.proofs.Common.{length, take, ◌-◌, ◌≡◌, ◌≤◌}
use Rattle.elf_link_files.specs.SameNames.{site_names}
use Rattle.elf_link_files.proofs.same_names.first_of_names.Given as goal

abbrev pub invariant-loop-start : goal.invariant-loop-start
invariant-loop-start l = record {
  within : l.start ≤ length l.sites;
  names : l.names ≡ site_names l.objects l.named (take l.start l.sites);
}

abbrev pub decreases-loop-start : goal.decreases-loop-start
decreases-loop-start l = length l.sites - l.start
