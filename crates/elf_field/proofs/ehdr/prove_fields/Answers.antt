use Rattle.std.proofs.Common.{rules}
use Rattle.elf_field.proofs.ehdr.prove_fields.Goals as goal

pub returns : goal.returns
returns c = record {
  e_ident = search rules;
  e_ident_bytes = search rules;
  e_type = search rules;
  e_machine = search rules;
  e_version = search rules;
  e_entry = search rules;
  e_phoff = search rules;
  e_shoff = search rules;
  e_flags = search rules;
  e_ehsize = search rules;
  e_phentsize = search rules;
  e_phnum = search rules;
  e_shentsize = search rules;
  e_shnum = search rules;
  e_shstrndx = search rules;
}
