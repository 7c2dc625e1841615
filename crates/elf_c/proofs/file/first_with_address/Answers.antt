-- By the numbers of a file, the result is the first program header of the file's list that has the address, or none has it. Each segment
-- that is read is the one that the file lists at this index (`segment_at`). One without the address is passed, so no lower one has it.
use Rattle.std.proofs.Common.{◌≡◌, ◌<◌, ℕ, ap, arith, below_more, subst, sym, ◌∙◌}
use Rattle.elf_field.specs.declared.phdr.Phdr.{Phdr}
use Rattle.elf_image_rules.specs.Tables.{program_header_of}
use Rattle.elf_image_type.specs.ImageView.{HasAddress}
use Rattle.elf_c.specs.declared.shapes.File.{File}
use Rattle.elf_c.specs.Files.{segments_listed}
use Rattle.elf_c.proofs.ReadFiles.{segment_at, segment_below, length-listed, listed_at}
use Rattle.elf_c.proofs.file.first_with_address.Goals as goal

pub returns-in_err-segment-clause-first : goal.returns-in_err-segment-clause-first
returns-in_err-segment-clause-first c is =
    let below = subst (λ (f : File). c.loop-index.index < f.segments) is.numbers c.loop-index-test.true in
    absurd (c.in_err-segment.ensures (segment_at c.args.file.now c.args.bytes.now c.loop-index.index is below).there)

pub returns-then-has_address-clause-first : goal.returns-then-has_address-clause-first
returns-then-has_address-clause-first c is =
    let f = c.args.file.now in
    let b = c.args.bytes.now in
    let i = c.loop-index.index in
    let below = segment_below f b i _ is c.in_ok-segment.ensures.0 in
    let read : c.in_ok-segment.segment ≡ program_header_of (segments_listed b) i =
    c.in_ok-segment.ensures.1 ∙ (segment_at f b i is below).read ∙ sym (listed_at b i below) in
    let has = c.has_address.ensures.0 c.if-has_address.true in
    (i, (omega (arith, length-listed b), subst (λ (s : Phdr). HasAddress s c.args.address) read has, c.loop-index.invariant is), read)

pub loop-index-preserved : goal.loop-index-preserved
loop-index-preserved c is =
    let f = c.args.file.now in
    let b = c.args.bytes.now in
    let i = c.loop-index.index in
    let below = segment_below f b i _ is c.in_ok-segment.ensures.0 in
    let read : c.in_ok-segment.segment ≡ program_header_of (segments_listed b) i =
    c.in_ok-segment.ensures.1 ∙ (segment_at f b i is below).read ∙ sym (listed_at b i below) in
    below_more (λ (j : ℕ). HasAddress (program_header_of (segments_listed b) j) c.args.address → ⊥) i (c.loop-index.invariant is)
    (λ has. let true_test = c.has_address.ensures.1 (subst (λ (s : Phdr). HasAddress s c.args.address) (sym read) has) in
    let false_test = c.if-has_address.false in cc)

pub returns-clause-first : goal.returns-clause-first
returns-clause-first c is j lt =
    let b = c.args.bytes.now in
    let counted = ap (λ (f : File). f.segments) is.numbers in
    c.loop-index.invariant is j (omega (arith, length-listed b))
