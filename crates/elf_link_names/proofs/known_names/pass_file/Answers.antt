-- Block by block: no name loses its position; after the last one the row has as many indexes as the file symbols.
use Rattle.std.proofs.Common.{◌≡◌, ℕ, length, map, subst, arith}
use Rattle.elf_link_files.specs.Files.{object_at}
use Rattle.elf_link_names.specs.KnownNames.{AreKnownBefore, IsIndexRow}
use Rattle.elf_link_names.specs.Tables.{name_position}
use Rattle.elf_link_names.proofs.KnownNames.{keeps_on, rows_kept}
use Rattle.elf_link_names.proofs.known_names.pass_file.Goals as goal

pub pass_block-requires-clause-left : goal.pass_block-requires-clause-left
pass_block-requires-clause-left c =
    let count = rw c.object.ensures at c.symbol_count-count.ensures in
    let below = c.loop-names-test.true in
    omega arith

pub pass_block-requires-clause-rows : goal.pass_block-requires-clause-rows
pass_block-requires-clause-rows c =
    rows_kept c.args.inputs.now (name_position c.args.names.now.positions) (name_position c.loop-names.names.positions) c.args.file
    (map (λ row. row.items) c.args.rows.now) c.loop-names.invariant.kept c.requires.rows

pub loop-names-smaller : goal.loop-names-smaller
loop-names-smaller c =
    let more = c.in_ok-pass_block.ensures.more in
    let within = c.in_ok-pass_block.ensures.within in
    omega arith

pub loop-names-preserved : goal.loop-names-preserved
loop-names-preserved c =
    let passed = c.in_ok-pass_block.ensures in
    record {
      within = passed.within;
      names = passed.names;
      indexes = passed.indexes;
      kept = keeps_on (name_position c.args.names.now.positions) (name_position c.loop-names.names.positions)
          (name_position c.pass_block.new.names.positions)
          c.loop-names.invariant.kept passed.kept;
    }

pub returns-clause-names : goal.returns-clause-names
returns-clause-names c =
    let fs = c.args.inputs.now in
    let count = rw c.object.ensures at c.symbol_count-count.ensures in
    let within = c.loop-names.invariant.within in
    let past = c.loop-names-test.false in
    let end : length c.loop-names.row.items ≡ length (object_at fs c.args.file).symbols = omega arith in
    subst (λ (n : ℕ). AreKnownBefore fs c.args.file n (name_position c.loop-names.names.positions) c.loop-names.names.known) end
    c.loop-names.invariant.names

pub returns-clause-indexes : goal.returns-clause-indexes
returns-clause-indexes c =
    let fs = c.args.inputs.now in
    let count = rw c.object.ensures at c.symbol_count-count.ensures in
    let within = c.loop-names.invariant.within in
    let past = c.loop-names-test.false in
    let end : length c.loop-names.row.items ≡ length (object_at fs c.args.file).symbols = omega arith in
    subst (λ (n : ℕ). IsIndexRow fs (name_position c.loop-names.names.positions) c.args.file n c.loop-names.row.items) end
    c.loop-names.invariant.indexes
