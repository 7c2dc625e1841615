use Rattle.elf_tool_laws.proofs.Order.{discarded_back, discarded_moved, reversed}
use Rattle.elf_tool_laws.proofs.OrderNames.{binds_moved, one_binding_in_maps, one_rule, unbound_moved}
use Rattle.elf_tool_laws.proofs.Swap.{neighbours}
use Rattle.elf_tool_laws.proofs.laws.other_order.Goals as goal

pub returns : goal.returns
returns c = record {
  back = reversed;
  discarded = λ fs gs to back f s r f_in. (discarded_moved fs gs to back r f s, discarded_back fs gs to back r f s f_in);
  bindings = λ fs gs to back name d r. binds_moved fs gs to back r name d;
  unbound = λ fs gs to back name r.
      (unbound_moved fs gs to back r name, unbound_moved gs fs back to (reversed fs gs to back r) name);
  rule = λ opt fs gs to back x y r. one_rule opt fs gs to back r x y;
  maps = λ opt other fs gs to back m n name r is also. one_binding_in_maps fs gs to back r opt other m n is also name;
  neighbours = neighbours;
}
