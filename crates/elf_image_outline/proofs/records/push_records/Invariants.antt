use Rattle.std.proofs.Common.{◌≡◌, ◌+◌, ◌*◌, length}
use Rattle.std.specs.List.{AllByRecursion}
use Rattle.elf_image_outline.specs.Records.{Extends}
use Rattle.elf_image_outline.proofs.records.push_records.Given as goal

-- so many records are after the others
abbrev pub invariant-loop-i : goal.invariant-loop-i
invariant-loop-i g l = record {
  many : length l.records.items ≡ length l.initial.records.items + l.i;
  valid : AllByRecursion g.T.Record.IsValid l.initial.records.items → AllByRecursion g.T.Record.IsValid l.records.items;
  known : Extends (λ i. g.T.Record.at l.order l.bytes (g.T.Record.SIZE * i)) l.i l.initial.records.items l.records.items;
}
