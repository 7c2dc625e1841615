use Rattle.std.proofs.Common.{◌<◌, Bor, List, [], inr, length, map, subst, sym, ℕ}
use Rattle.std.proofs.KnownBytes.{Keeps-refl}
use Rattle.std.proofs.lemmas.List.{get_or-map, length-map}
use Rattle.elf_tool_check.specs.Ending.{IsPrinted, unopened_text}
use Rattle.elf_tool_program.proofs.program.link_named_files.Goals as goal

abbrev now : Bor (List ℕ) → List ℕ
now name = name.now

pub returns-in-Err : goal.returns-in-Err
returns-in-Err g c =
    let e = c.in-Err in
    let names = map now c.args.names.now in
    let within : e.failed.position < length c.args.names.now = rw (length-map c.args.names.now now) at e.ensures.err.within in
    let at = get_or-map now c.args.names.now e.failed.position _ [] within in
    let err = g.E.Write.contents c.args.err.now in
    inr (
      e.failed,
      e.ensures.err,
      e.ensures.stopped,
      (
        c.unopened.ensures.status,
        subst (λ (n : List ℕ). IsPrinted (unopened_text e.failed.fault n) err (g.E.Write.contents c.unopened.new.err)
            c.unopened.result.printed) (sym at) c.unopened.ensures.printed,
      ),
      Keeps-refl (g.W.Write.contents c.args.out.now),
    )
