-- One pass of the loop reads one more file whole and calls no later reader. If a reader fails or its file is too large, it gave some bytes,
-- and the fault has their count. After the last one all files are read (`Inputs`).
use Rattle.std.proofs.Common.{◌≡◌, ◌∙◌, ◌≤◌, [], ◌∷◌, ◌++◌, List, ℕ, Vec, Global, ap, arith, length, map, rules, subst, vec_len}
use Rattle.std.proofs.lemmas.List.{length-map, length-set, map-append}
use Rattle.std.proofs.lemmas.Result.{err_from_is_err_and}
use Rattle.elf_tool_check.specs.Engine.{IsReadFaultAfter}
use Rattle.elf_tool_link.proofs.InputFiles.{all_read, next_read, next_stops, reading_stopped}
use Rattle.elf_tool_link.proofs.inputs.read_inputs.Goals as goal

abbrev items : Vec ℕ Global → List ℕ
items f = f.items

pub returns-in_err-read_input-clause-fault : goal.returns-in_err-read_input-clause-fault
returns-in_err-read_input-clause-fault g c =
    let l = c.loop-i in
    let given = g.R.Read.remaining in
    let bytes = c.read_input.new.buf.items in
    let long : vec_len c.read_input.new.buf ≡ length bytes = search rules in
    let e = c.in_err-read_input.ensures in
    let count : length (map items l.files.items) ≡ l.i = length-map l.files.items items ∙ l.invariant.count in
    let stop = next_stops given c.args.readers.now l.readers
    (map items l.files.items) c.index-readers-i.result c.read_input.new.reader l.invariant.read l.i bytes
    count (search rules) (record { taken = e.taken; limit = rw (← long) e.limit }) in
    let p = err_from_is_err_and c.from_residual.result c.from_residual.ensures.1 in
    rw (p.1, p.2)
    (reading_stopped _ _ bytes c.in_err-read_input.field-0.0 stop (subst (IsReadFaultAfter c.in_err-read_input.field-0.0) long e.fault))

pub returns-in_default-clause-fault : goal.returns-in_default-clause-fault
returns-in_default-clause-fault g c =
    let l = c.loop-i in
    let given = g.R.Read.remaining in
    let bytes = c.read_input.new.buf.items in
    let long : vec_len c.read_input.new.buf ≡ length bytes = search rules in
    let e = c.in_ok-read_input.ensures in
    let count : length (map items l.files.items) ≡ l.i = length-map l.files.items items ∙ l.invariant.count in (
      bytes,
      next_stops given c.args.readers.now l.readers
          (map items l.files.items) c.index-readers-i.result c.read_input.new.reader l.invariant.read l.i bytes
          count (search rules) (record { taken = e.taken; limit = rw (← long) e.limit }),
    )

pub loop-i-preserved : goal.loop-i-preserved
loop-i-preserved g c =
    let l = c.loop-i in
    let given = g.R.Read.remaining in
    let file = c.read_input.new.buf.items in
    let long : vec_len c.read_input.new.buf ≡ length file = search rules in
    let e = c.in_ok-read_input.ensures in
    let count : length (map items l.files.items) ≡ l.i = length-map l.files.items items ∙ l.invariant.count in
    let read = next_read given c.args.readers.now l.readers
    (map items l.files.items) c.index-readers-i.result c.read_input.new.reader l.invariant.read l.i file
    count (search rules) (record { bytes = record { taken = e.taken; limit = rw (← long) e.limit }; whole = rw (← long) e.ok }) in
    let pushed : map items c.push.new.self.items ≡ map items l.files.items ++ file ∷ [] =
    ap (map items) c.in-Ok.ensures.items ∙ map-append items l.files.items (c.read_input.new.buf ∷ []) in
    record {
      count = search rules;
      long = length-set l.readers l.i c.read_input.new.reader ∙ l.invariant.long;
      read = rw pushed read;
    }

pub returns-clause-ok : goal.returns-clause-ok
returns-clause-ok g c =
    let l = c.loop-i in
    let given = g.R.Read.remaining in
    let files = length-map l.files.items items in
    let readers = length-map l.readers given in
    let past : length l.readers ≤ l.i = search rules in
    let count = l.invariant.count in
    all_read (map given c.args.readers.now) (map given l.readers) (map items l.files.items) (omega arith) l.invariant.read
