use Rattle.elf_tool_laws.proofs.Alike.{rewritten_alike, rewritten_in_place, same_link, same_map}
use Rattle.elf_tool_laws.proofs.laws.rewritten_files.Goals as goal

pub returns : goal.returns
returns c = record {
  alike = rewritten_alike;
  place = rewritten_in_place;
  map = λ opt rules files rewritten are. same_map opt rules files rewritten (rewritten_alike files rewritten are);
  link = λ opt rules files rewritten are. same_link opt rules files rewritten (rewritten_alike files rewritten are);
}
