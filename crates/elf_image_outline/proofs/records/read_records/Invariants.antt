use Rattle.std.proofs.Common.{◌-◌, ◌≡◌, ◌≤◌, ℕ, List, Some, length}
use Rattle.std.specs.List.{AllByRecursion}
use Rattle.elf_image_outline.specs.Records.{table_at}
use Rattle.elf_image_outline.proofs.records.read_records.Given as goal

-- exactly the first records are read
abbrev pub invariant-loop-next : goal.invariant-loop-next
invariant-loop-next g l = record {
  within : l.next ≤ l.count;
  kept : g.S.Source.content l.source ≡ g.S.Source.content l.initial.source;
  failures : g.S.Source.failures l.source ≡ g.S.Source.failures l.initial.source;
  many : length l.records.items ≡ l.next;
  valid : AllByRecursion g.T.Record.IsValid l.records.items;
  known : (b : List ℕ) → g.S.Source.content l.initial.source ≡ Some b →
      l.records.items ≡ table_at (g.T.Record.at l.order) g.T.Record.SIZE b l.at l.next;
}

abbrev pub decreases-loop-next : goal.decreases-loop-next
decreases-loop-next g l = l.count - l.next
