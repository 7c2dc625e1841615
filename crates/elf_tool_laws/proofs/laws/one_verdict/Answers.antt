use Rattle.std.specs.Prelude.{Some}
use Rattle.elf_tool_laws.proofs.Agree.{link_verdict, map_verdict, one_verdict}
use Rattle.elf_tool_laws.specs.Agree.{but_length}
use Rattle.elf_tool_laws.proofs.laws.one_verdict.Goals as goal

pub returns : goal.returns
returns c = record {
  one = one_verdict;
  map = map_verdict;
  link = link_verdict;
  both = λ opt rules files v w s t says also.
      one_verdict opt (Some rules) files v (but_length w) (map_verdict opt (Some rules) files v s says)
      (link_verdict opt rules files w t also);
}
