use Rattle.std.proofs.Common.{rules, length}
use Rattle.std.proofs.lemmas.Fn.{always_returns_same}
use Rattle.elf_link_outputs.specs.declared.outputs.Keyed.{Keyed}
use Rattle.elf_link_outputs.proofs.Numbers.{keyed_moved}
use Rattle.elf_link_outputs.proofs.outputs.Sections.sorted_keys.Goals as goal

pub returns-clause-keyed : goal.returns-clause-keyed
returns-clause-keyed c =
    keyed_moved c.args.self.now.objects c.args.self.now.sites c.args.firsts.now
    (length c.args.self.now.sites) c.in_ok-keyed.keyed.items c.sort_unstable_by_key.new.self.items
    c.sort_unstable_by_key.ensures.permutation c.in_ok-keyed.ensures

pub returns-clause-ascending : goal.returns-clause-ascending
returns-clause-ascending c =
    c.sort_unstable_by_key.ensures.sorted (λ (x : Keyed). x.key) (always_returns_same _ _ _ (λ a r q k. search rules))
