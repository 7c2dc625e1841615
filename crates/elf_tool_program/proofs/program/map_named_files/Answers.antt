-- The files are read whole in order, so the engine's report is exact for at most 64. The name that is printed is that of the first file
-- that gave no reader.
use Rattle.std.proofs.Common.{◌<◌, Bor, List, [], arith, inl, inr, length, map, subst, sym, ℕ}
use Rattle.std.proofs.KnownBytes.{Keeps-refl}
use Rattle.std.proofs.lemmas.List.{get_or-map, length-map}
use Rattle.elf_tool_check.specs.Ending.{IsPrinted, unopened_text}
use Rattle.elf_tool_program.proofs.program.map_named_files.Goals as goal

abbrev now : Bor (List ℕ) → List ℕ
now name = name.now

pub returns-in-Ok : goal.returns-in-Ok
returns-in-Ok g c =
    let opened = c.in-Ok.ensures.ok in
    let count = opened.count in
    let named = length-map c.args.names.now now in
    let inputs = length-map c.in-Ok.inputs.items g.O.Input.Read.remaining in
    let exactly = rw c.as_mut_slice.ensures.value at c.map.ensures.few in
    inl (_, _, c.map.result, opened, c.in-Ok.ensures.asked, exactly (omega arith), (c.end.ensures.status, c.end.ensures.printed))

pub returns-in-Err : goal.returns-in-Err
returns-in-Err g c =
    let e = c.in-Err in
    let names = map now c.args.names.now in
    let within : e.failed.position < length c.args.names.now = rw (length-map c.args.names.now now) at e.ensures.err.within in
    let at = get_or-map now c.args.names.now e.failed.position _ [] within in
    let err = g.E.Write.contents c.args.err.now in
    inr (
      e.failed,
      e.ensures.err,
      e.ensures.stopped,
      (
        c.unopened.ensures.status,
        subst (λ (n : List ℕ). IsPrinted (unopened_text e.failed.fault n) err (g.E.Write.contents c.unopened.new.err)
            c.unopened.result.printed) (sym at) c.unopened.ensures.printed,
      ),
      Keeps-refl (g.W.Write.contents c.args.out.now),
    )
