-- A block of entries that succeeds adds its bytes after those of the entries so far (`flat_ok`). If a block fails, a beginning of its bytes
-- is written, and so a beginning of all (`flat_err`). The count of these bytes does not overflow, because all entries have less than 2^64
-- bytes.
use Rattle.std.proofs.Common.{◌*◌, take, arith, ap, ◌∙◌}
use Rattle.std.proofs.lemmas.List.{length-take-le}
use Rattle.elf_field.proofs.RecordTableLaws.{length-table}
use Rattle.elf_image_outline.proofs.EntriesOut.{flat_err, flat_ok}
use Rattle.elf_image_outline.proofs.entries.write_entries.Goals as goal

pub after-requires : goal.after-requires
after-requires g c =
    let all = g.E.Entries.entries c.args.entries.now in
    let size = g.E.Entry.Record.SIZE in
    let whole = length-table g.met.E.Entry.Record.laws c.args.order all in
    let out = length-table g.met.E.Entry.Record.laws c.args.order (take c.loop-next.next all) in
    let count = length-take-le c.loop-next.next all c.loop-next.invariant.within in
    let failed =
    flat_err (g.E.Entry.Record.bytes c.args.order) all c.loop-next.next _ _ c.in-Err.fault.written _ _ _ c.put_entries.new.bytes
    (out ∙ ap (λ n. size * n) count) c.put_entries.ensures c.loop-next.invariant.out c.in-Err.ensures in
    let below = failed.0 in
    let short = c.requires.short in
    rw c.SIZE-in-Err.ensures (omega arith)

pub returns-in-Err : goal.returns-in-Err
returns-in-Err g c =
    let all = g.E.Entries.entries c.args.entries.now in
    let size = g.E.Entry.Record.SIZE in
    let out = length-table g.met.E.Entry.Record.laws c.args.order (take c.loop-next.next all) in
    let count = length-take-le c.loop-next.next all c.loop-next.invariant.within in
    rw (c.after.ensures, c.SIZE-in-Err.ensures)
    (flat_err (g.E.Entry.Record.bytes c.args.order) all c.loop-next.next _ _ c.in-Err.fault.written _ _ _ c.put_entries.new.bytes
    (out ∙ ap (λ n. size * n) count) c.put_entries.ensures c.loop-next.invariant.out c.in-Err.ensures)

pub loop-next-preserved : goal.loop-next-preserved
loop-next-preserved g c =
    record {
      within = omega arith;
      out = flat_ok (g.E.Entry.Record.bytes c.args.order)
          (g.E.Entries.entries c.args.entries.now) c.loop-next.next c.min-several.result _ _ _ c.put_entries.new.bytes
          c.put_entries.ensures c.loop-next.invariant.out c.in-Ok.ensures;
    }
