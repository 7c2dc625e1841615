use Rattle.elf_tool_laws.proofs.FoundRules.{link_found, relocation_found}
use Rattle.elf_tool_laws.proofs.laws.places_found.Goals as goal

pub returns : goal.returns
returns c = record {
  link = λ opt files fs x found are first some is. link_found files fs are x found is opt first some;
  relocation = λ rules files fs m x found are first is. relocation_found files fs are x found is rules m first;
}
