-- Writing goes in three stages: header, sections, section header table. Each call extends what is written by one part at its place, or what
-- waits to go out, and after the table the whole file is written. If a call fails, the bytes written are a beginning of the file. The
-- lemmas
-- are those of `Going`.
use Rattle.std.proofs.Common.{◌≡◌, length, arith}
use Rattle.elf_object_layout.specs.Laid.{plain_sections}
use Rattle.elf_object_writer.proofs.Going.{content_place, content_sent, header_bytes, header_cut, header_sent, table_cut, table_place}
use Rattle.elf_object_writer.proofs.Going.{table_sent}
use Rattle.elf_object_writer.proofs.Going.{content_fails, none_waits, waiting_fails, waiting_sent}
use Rattle.elf_object_writer.proofs.object_writing.write_placed.Goals as goal

pub returns-in-Err : goal.returns-in-Err
unfolding header_bytes
returns-in-Err g c = header_cut c.args.placed.now _ _ c.in-Err.fault.written c.prove_placed.ensures c.in-Err.ensures

pub loop-position-init : goal.loop-position-init
unfolding header_bytes
loop-position-init g c = rw c.requires (record {
  going = none_waits _ _ _ _ _ _ (header_sent c.args.placed.now _ _ c.prove_placed.ensures c.in-Ok.ensures);
  few = omega arith;
})

pub invariant_of-part-clause-ahead : goal.invariant_of-part-clause-ahead
invariant_of-part-clause-ahead g c =
    let count = c.section_count-position-end.ensures.value in
    content_place c.args.placed.now _ _ c.loop-position.out c.loop-position.position c.prove_placed.ensures
    (omega arith) c.loop-position.invariant.going

pub pass-requires : goal.pass-requires
pass-requires g c = c.loop-position.invariant.few

pub returns-in-Err-pass : goal.returns-in-Err-pass
returns-in-Err-pass g c =
    let count = c.section_count-position-end.ensures.value in
    content_fails c.args.placed.now _ _ _ c.loop-position.waiting.items c.loop-position.out c.loop-position.position c.in-Err-pass.fault
    c.prove_placed.ensures (omega arith) c.loop-position.invariant.going c.loop-position.invariant.few c.in-Err-pass.ensures.err

pub loop-position-preserved : goal.loop-position-preserved
loop-position-preserved g c =
    let count = c.section_count-position-end.ensures.value in
    record {
      going = content_sent c.args.placed.now _ _ _ c.loop-position.out c.in-Ok-pass.end c.loop-position.position c.prove_placed.ensures
          (omega arith)
          c.loop-position.invariant.going c.in-Ok-pass.ensures.ok;
      few = c.in-Ok-pass.ensures.few;
    }

pub write_waiting-requires : goal.write_waiting-requires
write_waiting-requires g c = c.loop-position.invariant.few

pub returns-in-Err-write_waiting : goal.returns-in-Err-write_waiting
returns-in-Err-write_waiting g c =
    let count = c.section_count-position-end.ensures.value in
    let last : c.loop-position.position ≡ length (plain_sections c.args.placed.now.object) = omega arith in
    waiting_fails c.args.placed.now _ _ _ c.loop-position.waiting.items c.loop-position.out c.loop-position.position
    c.in-Err-write_waiting.fault
    c.prove_placed.ensures last c.loop-position.invariant.going c.loop-position.invariant.few c.in-Err-write_waiting.ensures.err

pub write_table-requires : goal.write_table-requires
write_table-requires g c =
    let count = c.section_count-position-end.ensures.value in
    let last : c.loop-position.position ≡ length (plain_sections c.args.placed.now.object) = omega arith in
    table_place c.args.placed.now _ _ c.loop-position.out c.loop-position.position c.prove_placed.ensures last
    c.loop-position.invariant.going

pub returns-in-Ok-write_table : goal.returns-in-Ok-write_table
returns-in-Ok-write_table g c =
    let count = c.section_count-position-end.ensures.value in
    let last : c.loop-position.position ≡ length (plain_sections c.args.placed.now.object) = omega arith in
    let going = waiting_sent _ _ _ c.loop-position.waiting.items _ _ _ _ c.loop-position.invariant.going c.in-Ok-write_waiting.ensures.ok in
    table_sent c.args.placed.now _ _ _ c.loop-position.out c.in-Ok-write_table.field-0 c.loop-position.position c.prove_placed.ensures last
    going
    c.in-Ok-write_table.ensures

pub returns-in-Err-write_table : goal.returns-in-Err-write_table
returns-in-Err-write_table g c =
    let count = c.section_count-position-end.ensures.value in
    let last : c.loop-position.position ≡ length (plain_sections c.args.placed.now.object) = omega arith in
    let going = waiting_sent _ _ _ c.loop-position.waiting.items _ _ _ _ c.loop-position.invariant.going c.in-Ok-write_waiting.ensures.ok in
    table_cut c.args.placed.now _ _ _ c.loop-position.out c.loop-position.position c.in-Err-write_table.fault c.prove_placed.ensures last
    going
    c.in-Err-write_table.ensures
