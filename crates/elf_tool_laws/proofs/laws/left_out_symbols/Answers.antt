use Rattle.std.specs.Prelude.{[]}
use Rattle.elf_tool_laws.proofs.Insert.{inserted}
use Rattle.elf_tool_laws.proofs.LeftOut.{binds_here, discarded_here, discarded_there}
use Rattle.elf_tool_laws.proofs.LeftOutFiles.{same_link, still_sound}
use Rattle.elf_tool_laws.proofs.LeftOutMap.{same_map}
use Rattle.elf_tool_laws.proofs.LeftOutNames.{bindings_after}
use Rattle.elf_tool_laws.proofs.laws.left_out_symbols.Goals as goal

pub returns : goal.returns
returns c = record {
  discarded = λ fs gs at f s r. (discarded_there fs gs at r f s, discarded_here fs gs at r f s);
  bindings = λ fs gs at name d r. binds_here fs gs at r name d;
  rules = λ opt fs gs at m x r clean is. still_sound opt [] fs gs at r clean m is x;
  names = λ opt other fs gs at m n name r. bindings_after fs gs at r name opt other m n;
  map = λ opt fs gs at m n r. same_map fs gs at r opt m n;
  link = same_link;
  insert = inserted;
}
