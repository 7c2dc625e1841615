use Rattle.std.proofs.Common.{◌≡◌, take}
use Rattle.elf_link_files.specs.Files.{object_at}
use Rattle.elf_link_files.specs.Rows.{site_at}
use Rattle.elf_link_files.specs.SameNames.{site_names, names_of_object}
use Rattle.elf_link_files.proofs.SameNames.{AreFrom}
use Rattle.elf_object_strings.specs.StringTable.{texts}
use Rattle.elf_link_files.proofs.same_names.with_names_of_file.Given as goal

abbrev pub invariant-loop-k : goal.invariant-loop-k
invariant-loop-k l = record {
  names : texts l.own.items ≡ site_names l.objects l.named (take l.k l.sites);
  from : AreFrom (names_of_object (object_at l.objects (site_at l.sites 0).file) l.named) l.ends (texts l.own.items) l.own_ends.items;
}
