use Rattle.std.proofs.Common.{◌≡◌, ℕ, List, ap, subst}
use Rattle.std.specs.Prelude.{None, MatchOption}
use Rattle.elf_object_type.specs.Object.{SymbolValue}
use Rattle.elf_link_map.specs.LinkMap.{bound_in}
use Rattle.elf_link_map.specs.Naming.{IsBindingAt}
use Rattle.elf_link_map.proofs.OneMap.{entry_index}
use Rattle.elf_link_map.proofs.bindings.name_index.Goals as goal

pub returns : goal.returns
returns c = λ not_local.
    let id = c.args.id in
    let bindings = c.args.map.now.bindings in
    let found = subst (λ (n : List ℕ). MatchOption c.position.result (bound_in bindings n ≡ None) (IsBindingAt bindings n))
    (ap (λ (s : SymbolValue). s.name) c.symbol_of-symbol.ensures) c.position.ensures in
    rw c.unwrap_or.ensures
    (entry_index c.args.objects.now c.args.map.now id.file id.index c.position.result c.requires.map c.requires.symbol.0
    c.requires.symbol.1 not_local found)
