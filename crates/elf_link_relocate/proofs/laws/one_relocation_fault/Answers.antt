use Rattle.elf_link_files.proofs.Public.{one_found, some_site}
use Rattle.elf_link_relocate.specs.Fields.{applied_entry_rules}
use Rattle.elf_link_relocate.proofs.laws.one_relocation_fault.Goals as goal

pub returns : goal.returns
returns c = record {
  one = λ fs m rules x y. one_found (applied_entry_rules fs m rules) x y;
  some =
      λ fs m rules. some_site (applied_entry_rules fs m rules);
}
