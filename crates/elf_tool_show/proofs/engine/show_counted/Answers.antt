-- If the writer fails, a beginning of the report is written: of the lines of the image and its tables, or of the line on the rule that the
-- bytes break first.
use Rattle.std.proofs.Common.{◌<◌, ◌^◌, ℕ, List, Option, arith, inr, length, refl, subst, sym}
use Rattle.std.proofs.lemmas.Result.{err_from_is_err_and}
use Rattle.elf_table_all.specs.Tables.{TablesValue}
use Rattle.elf_tool_check.specs.FileLines.{refused_line}
use Rattle.elf_tool_show.specs.Show.{VerdictsFit, show_text}
use Rattle.elf_image_outline.specs.Image.{ImageValue}
use Rattle.elf_tool_check.specs.Engine.{IsCutAt, WritesPrefix}
use Rattle.elf_tool_check.specs.declared.calls.ToolFault.TheVariants.{Read, Write, OutOfMemory}
use Rattle.elf_tool_check.specs.declared.calls.ToolFault.{ToolFault}
use Rattle.elf_tool_show.proofs.ShortShow.{show_short}
use Rattle.elf_tool_text.specs.Buffered.{IsBeginning}
use Rattle.elf_tool_check.specs.declared.calls.Refusal.TheVariants.{File}
use Rattle.elf_tool_check.specs.declared.calls.Verdict.TheVariants.{Done, Refused}
use Rattle.elf_tool_show.proofs.engine.show_counted.Goals as goal

-- the count of a beginning of a short text is exact
exactly : (text : List ℕ) (old new : Option (List ℕ)) (fault : ToolFault) → length text < 2 ^ 64 → IsBeginning text old new fault →
    WritesPrefix text old new fault
exactly text old new (Write written) short (count, below, out, same) =
    subst (λ (n : ℕ). IsCutAt old new text n) (sym (same short)) (below, out)
exactly text old new OutOfMemory short begun = begun
exactly text old new (Read at) short begun = begun

pub returns-in_err-length-in-Ok-clause-said : goal.returns-in_err-length-in-Ok-clause-said
returns-in_err-length-in-Ok-clause-said g c =
    let q = err_from_is_err_and c.from_residual-in_err-length-in-Ok.result c.from_residual-in_err-length-in-Ok.ensures.1 in
    let t : TablesValue = record { image = c.in-Ok.image; verdicts = c.in_ok-tables-in-Ok.tables.verdicts } in
    let fit = subst
    (λ (v : ImageValue). VerdictsFit (length v.sections) t.verdicts) c.in_ok-tables-in-Ok.ensures.image c.prove_verdicts.ensures in
    let short = show_short c.in-Ok.image c.args.bytes.now c.in-Ok.ensures.ok t.verdicts fit in
    rw (q.1, q.2) (inr (record {
      verdict = Done;
      text = show_text c.args.bytes.now t;
      is = (t, (record { image = c.in-Ok.ensures.ok; verdicts = c.in_ok-tables-in-Ok.ensures.verdicts }), refl);
      answer = tt;
      written = exactly _ _ _ _ short c.in_err-length-in-Ok.ensures;
    }))

pub returns-in_ok-length-in-Ok-clause-said : goal.returns-in_ok-length-in-Ok-clause-said
returns-in_ok-length-in-Ok-clause-said g c =
    let t : TablesValue = record { image = c.in-Ok.image; verdicts = c.in_ok-tables-in-Ok.tables.verdicts } in
    inr (record {
      verdict = Done;
      text = show_text c.args.bytes.now t;
      is = (t, (record { image = c.in-Ok.ensures.ok; verdicts = c.in_ok-tables-in-Ok.ensures.verdicts }), refl);
      answer = refl;
      written = c.in_ok-length-in-Ok.ensures.1;
    })

pub returns-in_ok-length-in-Ok-clause-length : goal.returns-in_ok-length-in-Ok-clause-length
returns-in_ok-length-in-Ok-clause-length g c =
    let t : TablesValue = record { image = c.in-Ok.image; verdicts = c.in_ok-tables-in-Ok.tables.verdicts } in
    let fit = subst
    (λ (v : ImageValue). VerdictsFit (length v.sections) t.verdicts) c.in_ok-tables-in-Ok.ensures.image c.prove_verdicts.ensures in
    let short = show_short c.in-Ok.image c.args.bytes.now c.in-Ok.ensures.ok t.verdicts fit in
    let count = c.in_ok-length-in-Ok.ensures.0 in (
      show_text c.args.bytes.now t,
      (t, (record { image = c.in-Ok.ensures.ok; verdicts = c.in_ok-tables-in-Ok.ensures.verdicts }), refl),
      omega arith,
    )

pub returns-in_err-length-in-Err-Rule-clause-said : goal.returns-in_err-length-in-Err-Rule-clause-said
returns-in_err-length-in-Err-Rule-clause-said g c =
    let q = err_from_is_err_and c.from_residual-in_err-length-in-Err-Rule.result c.from_residual-in_err-length-in-Err-Rule.ensures.1 in
    let rule = c.in-Err-Rule.rule in
    let at = c.in-Err-Rule.at in
    rw (q.1, q.2) (inr (record {
      verdict = Refused (File 0 rule at);
      text = refused_line rule at;
      is = (rw c.in-Err-Rule.field-0-is at c.in-Err-Rule.ensures.err, refl, refl);
      answer = tt;
      written = c.in_err-length-in-Err-Rule.ensures.written;
    }))

pub returns-in_ok-length-in-Err-Rule-clause-length : goal.returns-in_ok-length-in-Err-Rule-clause-length
returns-in_ok-length-in-Err-Rule-clause-length g c =
    let rule = c.in-Err-Rule.rule in
    let at = c.in-Err-Rule.at in (
      refused_line rule at,
      (rw c.in-Err-Rule.field-0-is at c.in-Err-Rule.ensures.err, refl, refl),
      c.in_ok-length-in-Err-Rule.ensures.length,
    )
