-- The lines of the map and those of the relocated bytes are one text. If the writer fails among the first or the second, or at the last
-- piece, a beginning of both is written.
use Rattle.std.proofs.Common.{◌++◌, List, ℕ, ap, ap₂, refl}
use Rattle.std.proofs.lemmas.Result.{err_from_is_err_and}
use Rattle.elf_tool_check.specs.declared.calls.ToolFault.TheVariants.{Write}
use Rattle.elf_tool_check.specs.declared.calls.Verdict.TheVariants.{Done}
use Rattle.elf_tool_link.specs.Map.{IsThis, bytes_lines, map_text}
use Rattle.elf_tool_link.proofs.MapPrints.{last_stopped, lines_stopped, lines_written}
use Rattle.elf_tool_text.proofs.Public.{buffers_both, cut_later, cut_longer}
use Rattle.elf_tool_link.proofs.mapping.write_relocated.Goals as goal

pub returns-in_err-pass_map : goal.returns-in_err-pass_map
returns-in_err-pass_map g c =
    let m = map_text c.objects.result.now c.map.result.now in
    let b = bytes_lines c.args.linked.now in
    let said = map_text c.args.mapped.now.objects c.args.mapped.now.map ++ b in
    let is : IsThis Done said Done (m ++ b) = (refl, ap (λ (s : List ℕ). s ++ b) (ap₂ map_text c.objects.ensures c.map.ensures)) in
    let w = c.in_err-pass_map.field-0.0.written in
    let o = c.in_ok-text.text in
    let p = err_from_is_err_and c.from_residual-in_err-pass_map.result c.from_residual-in_err-pass_map.ensures.1 in
    rw (p.1, p.2) (lines_stopped (IsThis Done said) _ o (m ++ b) is c.in_ok-text.ensures.pending c.in_ok-text.ensures.written
    _ w (cut_longer _ _ o m b (Write w) c.in_err-pass_map.ensures))

pub returns-in_err-pass_relocated : goal.returns-in_err-pass_relocated
returns-in_err-pass_relocated g c =
    let m = map_text c.objects.result.now c.map.result.now in
    let b = bytes_lines c.args.linked.now in
    let said = map_text c.args.mapped.now.objects c.args.mapped.now.map ++ b in
    let is : IsThis Done said Done (m ++ b) = (refl, ap (λ (s : List ℕ). s ++ b) (ap₂ map_text c.objects.ensures c.map.ensures)) in
    let w = c.in_err-pass_relocated.field-0.0.written in
    let o = c.in_ok-text.text in
    let p = err_from_is_err_and c.from_residual-in_err-pass_relocated.result c.from_residual-in_err-pass_relocated.ensures.1 in
    rw (p.1, p.2) (lines_stopped (IsThis Done said) _ o (m ++ b) is c.in_ok-text.ensures.pending c.in_ok-text.ensures.written
    _ w (cut_later _ _ _ o c.pass_map.new.text m b (Write w) c.in_ok-pass_map.ensures c.in_err-pass_relocated.ensures))

pub returns-in_err-write_pending : goal.returns-in_err-write_pending
returns-in_err-write_pending g c =
    let m = map_text c.objects.result.now c.map.result.now in
    let b = bytes_lines c.args.linked.now in
    let said = map_text c.args.mapped.now.objects c.args.mapped.now.map ++ b in
    let is : IsThis Done said Done (m ++ b) = (refl, ap (λ (s : List ℕ). s ++ b) (ap₂ map_text c.objects.ensures c.map.ensures)) in
    let o = c.in_ok-text.text in
    let p = err_from_is_err_and c.from_residual-in_err-write_pending.result c.from_residual-in_err-write_pending.ensures.1 in
    rw (p.1, p.2) (last_stopped (IsThis Done said) _ o (m ++ b) is c.in_ok-text.ensures.pending c.in_ok-text.ensures.written
    _ _ c.pass_relocated.new.text c.in_err-write_pending.field-0.0.written
    (buffers_both _ _ _ o c.pass_map.new.text c.pass_relocated.new.text m b c.in_ok-pass_map.ensures c.in_ok-pass_relocated.ensures)
    c.in_err-write_pending.ensures.passed)

pub returns : goal.returns
returns g c =
    let m = map_text c.objects.result.now c.map.result.now in
    let b = bytes_lines c.args.linked.now in
    let said = map_text c.args.mapped.now.objects c.args.mapped.now.map ++ b in
    let is : IsThis Done said Done (m ++ b) = (refl, ap (λ (s : List ℕ). s ++ b) (ap₂ map_text c.objects.ensures c.map.ensures)) in
    let o = c.in_ok-text.text in
    lines_written (IsThis Done said) _ o (m ++ b) is c.in_ok-text.ensures.pending c.in_ok-text.ensures.written
    _ _ c.pass_relocated.new.text c.write_pending.new.self c.count_written.result
    (buffers_both _ _ _ o c.pass_map.new.text c.pass_relocated.new.text m b c.in_ok-pass_map.ensures c.in_ok-pass_relocated.ensures)
    c.in_ok-write_pending.ensures.passed c.in_ok-write_pending.ensures.empty c.count_written.ensures.value c.count_written.ensures.fits
