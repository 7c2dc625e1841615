-- A first pass is enough for fields that ascend; a second one lists them all.
use Rattle.std.proofs.Common.{◌≡◌, Err, List, Ok, Result, false, refl, sym, true, ◌∙◌}
use Rattle.std.specs.Result.{IfOk}
use Rattle.elf_link_field.specs.declared.rule.RelocRule.{RelocRule}
use Rattle.elf_link_files.specs.declared.fault.LinkFault.{LinkFault}
use Rattle.elf_link_map.specs.LinkMap.{LinkMapValue}
use Rattle.elf_link_relocate.specs.Passes.{AreAllFound, AreFoundInOrder}
use Rattle.elf_link_relocate.specs.declared.field.Found.{Found}
use Rattle.elf_object_type.specs.Object.{ObjectValue}
use Rattle.elf_link_relocate.proofs.Patches.{found_in_order}
use Rattle.elf_link_relocate.proofs.relocating.found_in_order.Goals as goal

all_listed : (fs : List ObjectValue) (m : LinkMapValue) (rules : List RelocRule) (found : Result Found LinkFault) →
    IfOk found (AreAllFound fs m rules true) → IfOk found (AreFoundInOrder fs m rules)
all_listed fs m rules (Ok found) is = found_in_order fs m rules true found is (λ _. refl)
all_listed fs m rules (Err fault) is = tt

pub returns-then-found-clause-found : goal.returns-then-found-clause-found
returns-then-found-clause-found c =
    let l = c.args.values.now in
    found_in_order l.objects l.map l.rules false c.in_ok-found.found c.in_ok-found.ensures.found
    (λ mixed. (let never : false ≡ true = sym mixed ∙ c.if-found.true in never))

pub returns-clause-found : goal.returns-clause-found
returns-clause-found c =
    let l = c.args.values.now in
    all_listed l.objects l.map l.rules c.pass_over_entries-2.result c.pass_over_entries-2.ensures.found
