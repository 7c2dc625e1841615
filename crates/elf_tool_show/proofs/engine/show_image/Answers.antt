-- The lines are sent kind by kind: the file, its parts, sections, segments and tables. If one kind fails, the bytes written are a beginning
-- of all lines: those sent so far go in front, those to come are added after.
use Rattle.std.proofs.Common.{◌≡◌, ◌∙◌, List, ℕ, [], ◌++◌, Option, ap, map, refl, subst}
use Rattle.std.specs.List.{flat_map}
use Rattle.std.proofs.lemmas.List.Folds.{flat_map-map}
use Rattle.std.proofs.lemmas.Result.{err_from_is_err_and}
use Rattle.elf_field.specs.declared.ehdr.Ehdr.{Ehdr}
use Rattle.elf_image_outline.specs.Image.{ImageValue, PlacedPart}
use Rattle.elf_image_outline.specs.declared.outline.Part.{Part}
use Rattle.elf_table_all.specs.Tables.{TablesValue}
use Rattle.elf_tool_show.specs.Show.{all_table_lines, part_lines, section_lines, segment_lines, show_text, file_line, part_line}
use Rattle.elf_tool_text.specs.Buffered.{Buffers, IsBeginning, IsCutShort}
use Rattle.elf_tool_check.specs.declared.calls.ToolFault.{ToolFault}
use Rattle.elf_tool_text.specs.declared.output.Output.{Output}
use Rattle.elf_tool_text.proofs.Public.{all_counted, all_cut, buffers_both, buffers_line, buffers_none, cut_flushed, cut_later, cut_longer}
use Rattle.elf_tool_show.proofs.engine.show_image.Goals as goal

-- the lines of the parts alone are those of the value's
parts_text : (b : List ℕ) (v : ImageValue) (ps : List Part) → ps ≡ map (λ (p : PlacedPart). p.part) v.parts →
    flat_map (part_line b) ps ≡ part_lines b v
unfolding part_lines
parts_text b v ps same = ap (flat_map (part_line b)) same ∙ flat_map-map (part_line b) (λ (p : PlacedPart). p.part) v.parts

-- the first line is pushed
file_buffered : (a : Option (List ℕ)) (o p : Output) (h header : Ehdr) → h ≡ header → p.pending.items ≡ o.pending.items ++ file_line h →
    p.written ≡ o.written
    → Buffers a a o p (file_line header)
file_buffered a o p h header same pushed count =
    subst (λ (x : Ehdr). Buffers a a o p (file_line x)) same (buffers_line a a o o p [] (file_line h) (buffers_none a o) pushed count)

-- the first line and the parts are sent; what stops after them stops in the whole text
parts_cut : (a x y : Option (List ℕ)) (o p q : Output) (b : List ℕ) (v : ImageValue) (h : Ehdr) (ps : List Part) (rest : List ℕ)
    (fault : ToolFault)
    → o.pending.items ≡ [] → o.written ≡ 0 → h ≡ v.header → p.pending.items ≡ o.pending.items ++ file_line h → p.written ≡ o.written
    → ps ≡ map (λ (l : PlacedPart). l.part) v.parts → Buffers a x p q (flat_map (part_line b) ps) → IsCutShort x y q rest fault
    → IsBeginning (file_line v.header ++ (part_lines b v ++ rest)) a y fault
parts_cut a x y o p q b v h ps rest fault empty none header pushed count same sent stop =
    all_cut a y o (file_line v.header ++ (part_lines b v ++ rest)) fault empty none
    (cut_later a a y o p (file_line v.header) (part_lines b v ++ rest) fault (file_buffered a o p h v.header header pushed count)
    (cut_later a x y p q (part_lines b v) rest fault (subst (Buffers a x p q) (parts_text b v ps same) sent) stop))

pub returns-in_err-show_parts : goal.returns-in_err-show_parts
unfolding show_text
returns-in_err-show_parts g c =
    let a = g.W.Write.contents c.args.writer.now in
    let b = c.args.bytes.now in
    let v = c.args.image.now in
    let t : TablesValue = record { image = v; verdicts = c.args.tables.now.verdicts } in
    let o = c.new-output.result in
    let p : Output = record { pending = c.push_file_line.new.text; written = o.written } in
    let first = file_buffered a o p c.header.result v.header c.header.ensures c.in_ok-push_file_line.ensures refl in
    let q = err_from_is_err_and c.from_residual-in_err-show_parts.result c.from_residual-in_err-show_parts.ensures.1 in
    let fault = c.in_err-show_parts.field-0.0 in
    rw (q.1, q.2) (all_cut a _ o (show_text b t) fault c.new-output.ensures.pending c.new-output.ensures.written
    (cut_later a a _ o p (file_line v.header) (part_lines b v ++ (section_lines v ++ (segment_lines v ++ all_table_lines t))) fault first
    (cut_longer a _ p (part_lines b v) (section_lines v ++ (segment_lines v ++ all_table_lines t)) fault
    (subst (λ (s : List ℕ). IsCutShort a (g.W.Write.contents c.show_parts.new.writer) p s fault)
    (parts_text b v c.parts.result.now c.parts.ensures.value) c.in_err-show_parts.ensures))))

pub returns-in_err-show_sections : goal.returns-in_err-show_sections
unfolding show_text
returns-in_err-show_sections g c =
    let v = c.args.image.now in
    let t : TablesValue = record { image = v; verdicts = c.args.tables.now.verdicts } in
    let o = c.new-output.result in
    let p : Output = record { pending = c.push_file_line.new.text; written = o.written } in
    let q = err_from_is_err_and c.from_residual-in_err-show_sections.result c.from_residual-in_err-show_sections.ensures.1 in
    let fault = c.in_err-show_sections.field-0.0 in
    rw (q.1, q.2)
    (parts_cut (g.W.Write.contents c.args.writer.now) _ _ o p c.show_parts.new.output c.args.bytes.now v c.header.result c.parts.result.now
    _ fault
    c.new-output.ensures.pending c.new-output.ensures.written c.header.ensures c.in_ok-push_file_line.ensures refl c.parts.ensures.value
    c.in_ok-show_parts.ensures
    (cut_longer _ _ c.show_parts.new.output (section_lines v) (segment_lines v ++ all_table_lines t) fault c.in_err-show_sections.ensures))

pub returns-in_err-show_segments : goal.returns-in_err-show_segments
unfolding show_text
returns-in_err-show_segments g c =
    let v = c.args.image.now in
    let t : TablesValue = record { image = v; verdicts = c.args.tables.now.verdicts } in
    let o = c.new-output.result in
    let p : Output = record { pending = c.push_file_line.new.text; written = o.written } in
    let q = err_from_is_err_and c.from_residual-in_err-show_segments.result c.from_residual-in_err-show_segments.ensures.1 in
    let fault = c.in_err-show_segments.field-0.0 in
    rw (q.1, q.2)
    (parts_cut (g.W.Write.contents c.args.writer.now) _ _ o p c.show_parts.new.output c.args.bytes.now v c.header.result c.parts.result.now
    _ fault
    c.new-output.ensures.pending c.new-output.ensures.written c.header.ensures c.in_ok-push_file_line.ensures refl c.parts.ensures.value
    c.in_ok-show_parts.ensures
    (cut_later _ _ _ c.show_parts.new.output c.show_sections.new.output (section_lines v)
    (segment_lines v ++ all_table_lines t) fault c.in_ok-show_sections.ensures
    (cut_longer _ _ c.show_sections.new.output (segment_lines v) (all_table_lines t) fault c.in_err-show_segments.ensures)))

-- the tables by the image that they are of
same_tables : (tables : TablesValue) (v : ImageValue) → tables.image ≡ v → tables ≡ record { image = v; verdicts = tables.verdicts }
same_tables tables v same = ap (λ (x : ImageValue). let t : TablesValue = record { image = x; verdicts = tables.verdicts } in t) same

pub returns-in_err-show_tables : goal.returns-in_err-show_tables
unfolding show_text
returns-in_err-show_tables g c =
    let v = c.args.image.now in
    let t : TablesValue = record { image = v; verdicts = c.args.tables.now.verdicts } in
    let o = c.new-output.result in
    let p : Output = record { pending = c.push_file_line.new.text; written = o.written } in
    let q = err_from_is_err_and c.from_residual-in_err-show_tables.result c.from_residual-in_err-show_tables.ensures.1 in
    let fault = c.in_err-show_tables.field-0.0 in
    let last = subst
    (λ (s : TablesValue). IsCutShort (g.W.Write.contents c.show_segments.new.writer)
    (g.W.Write.contents c.show_tables.new.writer) c.show_segments.new.output (all_table_lines s) fault)
    (same_tables c.args.tables.now v c.requires) c.in_err-show_tables.ensures in
    rw (q.1, q.2)
    (parts_cut (g.W.Write.contents c.args.writer.now) _ _ o p c.show_parts.new.output c.args.bytes.now v c.header.result c.parts.result.now
    _ fault
    c.new-output.ensures.pending c.new-output.ensures.written c.header.ensures c.in_ok-push_file_line.ensures refl c.parts.ensures.value
    c.in_ok-show_parts.ensures
    (cut_later _ _ _ c.show_parts.new.output c.show_sections.new.output (section_lines v)
    (segment_lines v ++ all_table_lines t) fault c.in_ok-show_sections.ensures
    (cut_later _ _ _ c.show_sections.new.output c.show_segments.new.output (segment_lines v)
    (all_table_lines t) fault c.in_ok-show_segments.ensures last)))

-- all lines are sent
sent : (a x y z w : Option (List ℕ)) (o p q r s e : Output) (b : List ℕ) (v : ImageValue) (tables : TablesValue) (h : Ehdr) (ps : List Part)
    → h ≡ v.header → p.pending.items ≡ o.pending.items ++ file_line h → p.written ≡ o.written
    → ps ≡ map (λ (l : PlacedPart). l.part) v.parts → tables.image ≡ v → Buffers a x p q (flat_map (part_line b) ps) →
    Buffers x y q r (section_lines v)
    → Buffers y z r s (segment_lines v) → Buffers z w s e (all_table_lines tables)
    → Buffers a w o e (show_text b (record { image = v; verdicts = tables.verdicts }))
unfolding show_text
sent a x y z w o p q r s e b v tables h ps header pushed count same of parts sections segments last =
    let t : TablesValue = record { image = v; verdicts = tables.verdicts } in
    buffers_both a a w o p e (file_line v.header) (part_lines b v ++ (section_lines v ++ (segment_lines v ++ all_table_lines t)))
    (file_buffered a o p h v.header header pushed count)
    (buffers_both a x w p q e (part_lines b v) (section_lines v ++ (segment_lines v ++ all_table_lines t))
    (subst (Buffers a x p q) (parts_text b v ps same) parts)
    (buffers_both x y w q r e (section_lines v) (segment_lines v ++ all_table_lines t) sections
    (buffers_both y z w r s e (segment_lines v) (all_table_lines t) segments
    (subst (λ (n : TablesValue). Buffers z w s e (all_table_lines n)) (same_tables tables v of) last))))

pub returns-in_err-flush : goal.returns-in_err-flush
returns-in_err-flush g c =
    let v = c.args.image.now in
    let t : TablesValue = record { image = v; verdicts = c.args.tables.now.verdicts } in
    let o = c.new-output.result in
    let p : Output = record { pending = c.push_file_line.new.text; written = o.written } in
    let f = err_from_is_err_and c.from_residual-in_err-flush.result c.from_residual-in_err-flush.ensures.1 in
    let fault = c.in_err-flush.field-0.0 in
    rw (f.1, f.2) (all_cut _ _ o (show_text c.args.bytes.now t) fault c.new-output.ensures.pending c.new-output.ensures.written
    (cut_flushed _ _ _ o c.show_tables.new.output (show_text c.args.bytes.now t) fault
    (sent _ _ _ _ _ o p _ _ _ _ c.args.bytes.now v c.args.tables.now c.header.result c.parts.result.now c.header.ensures
    c.in_ok-push_file_line.ensures refl
    c.parts.ensures.value c.requires c.in_ok-show_parts.ensures c.in_ok-show_sections.ensures c.in_ok-show_segments.ensures
    c.in_ok-show_tables.ensures)
    c.in_err-flush.ensures.buffered))

pub returns : goal.returns
returns g c =
    let v = c.args.image.now in
    let t : TablesValue = record { image = v; verdicts = c.args.tables.now.verdicts } in
    let o = c.new-output.result in
    let p : Output = record { pending = c.push_file_line.new.text; written = o.written } in
    all_counted _ _ _ o c.show_tables.new.output c.flush.new.self
    (show_text c.args.bytes.now t) c.count_written.result c.new-output.ensures.pending c.new-output.ensures.written
    (sent _ _ _ _ _ o p _ _ _ _ c.args.bytes.now v c.args.tables.now c.header.result c.parts.result.now c.header.ensures
    c.in_ok-push_file_line.ensures refl
    c.parts.ensures.value c.requires c.in_ok-show_parts.ensures c.in_ok-show_sections.ensures c.in_ok-show_segments.ensures
    c.in_ok-show_tables.ensures)
    c.in_ok-flush.ensures.buffered c.in_ok-flush.ensures.empty c.count_written.ensures.value c.count_written.ensures.fits
