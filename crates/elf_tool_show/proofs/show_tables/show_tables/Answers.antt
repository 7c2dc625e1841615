-- One pass of the loop adds the lines of one more section's table to those sent. If that fails, a beginning of all lines was sent. After
-- the last section all lines are sent.
use Rattle.std.proofs.Common.{◌∙◌, List, ℕ, ap, length, refl, subst, sym}
use Rattle.std.specs.List.{range_with_len}
use Rattle.std.proofs.lemmas.Result.{err_from_is_err_and}
use Rattle.elf_image_outline.specs.Image.{ImageValue}
use Rattle.elf_tool_text.specs.Buffered.{Buffers, IsCutShort}
use Rattle.elf_tool_show.specs.Show.{all_table_lines, table_text}
use Rattle.elf_tool_text.proofs.Public.{all_lines_buffered, is_index, line_at, lines_buffered, lines_cut, no_index}
use Rattle.elf_tool_show.proofs.show_tables.show_tables.Goals as goal

pub returns-in_err-show_table : goal.returns-in_err-show_table
unfolding all_table_lines
returns-in_err-show_table g c =
    let n = length c.args.tables.now.image.sections in
    let end = c.section_count-i-end.ensures ∙ ap (λ (v : ImageValue). length v.sections) (sym c.requires) in
    let within = is_index c.loop-i.i c.section_count-i-end.result n c.loop-i-test.true end in
    let is = line_at (table_text c.args.tables.now) c.loop-i.i c.section_count-i-end.result n _ c.loop-i-test.true end refl in
    let p = err_from_is_err_and c.from_residual.result c.from_residual.ensures.1 in
    rw (p.1, p.2)
    (lines_cut (table_text c.args.tables.now)
    (range_with_len 0 n) c.loop-i.i 0 within _ _ _ _ c.loop-i.output c.in_err-show_table.field-0.0 c.loop-i.invariant
    (subst (λ (s : List ℕ). IsCutShort (g.W.Write.contents c.loop-i.writer)
    (g.W.Write.contents c.show_table.new.writer) c.loop-i.output s c.in_err-show_table.field-0.0) is
    c.in_err-show_table.ensures))

pub loop-i-preserved : goal.loop-i-preserved
loop-i-preserved g c =
    let n = length c.args.tables.now.image.sections in
    let end = c.section_count-i-end.ensures ∙ ap (λ (v : ImageValue). length v.sections) (sym c.requires) in
    let within = is_index c.loop-i.i c.section_count-i-end.result n c.loop-i-test.true end in
    let is = line_at (table_text c.args.tables.now) c.loop-i.i c.section_count-i-end.result n _ c.loop-i-test.true end refl in
    lines_buffered (table_text c.args.tables.now) (range_with_len 0 n) c.loop-i.i 0 within _ _ _ _ c.loop-i.output _ c.loop-i.invariant
    (subst (Buffers (g.W.Write.contents c.loop-i.writer)
    (g.W.Write.contents c.show_table.new.writer) c.loop-i.output c.show_table.new.output) is
    c.in_ok-show_table.ensures)

pub returns : goal.returns
unfolding all_table_lines
returns g c =
    let n = length c.args.tables.now.image.sections in
    let end = c.section_count-i-end.ensures ∙ ap (λ (v : ImageValue). length v.sections) (sym c.requires) in
    all_lines_buffered (table_text c.args.tables.now) (range_with_len 0 n) c.loop-i.i _ _ _ _
    (no_index c.loop-i.i c.section_count-i-end.result n c.loop-i-test.false end) c.loop-i.invariant
