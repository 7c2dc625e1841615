-- Part by part: the lines so far are sent or pending. If a piece fails, a beginning of all lines is written.
use Rattle.std.proofs.Common.{refl}
use Rattle.std.proofs.lemmas.Result.{err_from_is_err_and}
use Rattle.elf_image_outline.specs.declared.outline.Part.{Part}
use Rattle.elf_image_outline.specs.declared.outline.Owner.TheVariants.{Header}
use Rattle.elf_tool_show.specs.Show.{part_line}
use Rattle.elf_tool_text.proofs.Public.{line_refused, line_buffered, line_cut}
use Rattle.elf_tool_show.proofs.engine.show_parts.Goals as goal

-- represents a part that isn't there
abbrev no_part : Part
no_part = record { owner = Header; start = 0; len = 0 }

pub returns-in_err-push_part_line : goal.returns-in_err-push_part_line
returns-in_err-push_part_line g c =
    let p = err_from_is_err_and c.from_residual.result c.from_residual.ensures.1 in
    rw (p.1, p.2)
    (line_refused
    (part_line c.args.bytes.now) c.args.parts.now c.loop-part.part-index no_part c.loop-part-test.true _ _ _ _ c.loop-part.invariant)

pub returns-in_err-flush_piece : goal.returns-in_err-flush_piece
returns-in_err-flush_piece g c =
    let p = err_from_is_err_and c.from_residual-in_err-flush_piece.result c.from_residual-in_err-flush_piece.ensures.1 in
    rw (p.1, p.2)
    (line_cut (part_line c.args.bytes.now) c.args.parts.now c.loop-part.part-index no_part c.loop-part-test.true _ _ _ _ _
    c.loop-part.invariant refl
    _ (record { pending = c.push_part_line.new.text; written = c.loop-part.output.written }) c.in_err-flush_piece.field-0.0
    c.in_ok-push_part_line.ensures refl c.in_err-flush_piece.ensures.buffered)

pub loop-part-preserved : goal.loop-part-preserved
loop-part-preserved g c =
    line_buffered
    (part_line c.args.bytes.now) c.args.parts.now c.loop-part.part-index no_part c.loop-part-test.true _ _ _ _ _ c.loop-part.invariant refl
    _ (record { pending = c.push_part_line.new.text; written = c.loop-part.output.written }) _ c.in_ok-push_part_line.ensures refl
    c.in_ok-flush_piece.ensures.buffered
