use Rattle.std.proofs.Common.{◌≡◌, ◌-◌, ◌+◌, ap, arith, ◌∙◌}
use Rattle.std.specs.Prelude.{slice_index}
use Rattle.elf_field.specs.declared.phdr.Phdr.{Phdr}
use Rattle.elf_image_type.specs.ImageView.{loaded}
use Rattle.elf_c.proofs.ReadFiles.{inside_segment, loaded_after, loaded_inside}
use Rattle.elf_c.proofs.file.loaded_byte.Goals as goal

pub returns-then-k-segment : goal.returns-then-k-segment
returns-then-k-segment c is =
    let b = c.args.bytes.now in
    let x = c.args.address in
    let (j, first, same) = c.in_ok-segment.ensures.first is in
    (j, first, loaded_after b c.in_ok-segment.segment x c.if-k-segment.true ∙ ap (λ (s : Phdr). loaded b s x) same)

pub returns-in_err-offset : goal.returns-in_err-offset
returns-in_err-offset c is =
    let (j, first, same) = c.in_ok-segment.ensures.first is in
    let inside = inside_segment c.args.bytes.now j c.args.address c.in_ok-segment.segment is.kept first same c.if-k-segment.false in
    absurd (c.in_err-offset.ensures (omega arith))

pub returns : goal.returns
returns c is =
    let b = c.args.bytes.now in
    let x = c.args.address in
    let s = c.in_ok-segment.segment in
    let (j, first, same) = c.in_ok-segment.ensures.first is in
    let place : c.in_ok-offset.offset ≡ s.p_offset + (x - s.p_vaddr) = omega (arith, c.in_ok-offset.ensures.1) in
    (j, first, ap (slice_index b) place ∙ loaded_inside b s x c.if-k-segment.false ∙ ap (λ (p : Phdr). loaded b p x) same)
