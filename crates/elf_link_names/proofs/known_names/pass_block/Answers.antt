-- Symbol by symbol: an index joins the row before it, which still holds, since no name loses its position; nor do the lookups.
use Rattle.std.proofs.Common.{◌≡◌, ◌+◌, ◌-◌, ℕ, arith, get_or, map, subst}
use Rattle.elf_link_files.proofs.Public.{each_more}
use Rattle.elf_link_names.specs.KnownNames.{IsNameIndex}
use Rattle.elf_link_names.specs.Tables.{IsSymbolLookup, name_position, no_lookup}
use Rattle.elf_link_names.proofs.KnownNames.{keeps_on, lookup_kept, row_kept, rows_kept}
use Rattle.elf_link_names.proofs.known_names.pass_block.Goals as goal

pub lookup_by_earlier-lookup-requires-clause-rows : goal.lookup_by_earlier-lookup-requires-clause-rows
lookup_by_earlier-lookup-requires-clause-rows c =
    rows_kept c.args.inputs.now (name_position c.args.names.now.positions) (name_position c.loop-index.names.positions) c.args.file
    (map (λ row. row.items) c.args.rows.now) c.loop-index.invariant.kept c.requires.rows

pub lookup_by_earlier-lookup-requires-clause-lookup : goal.lookup_by_earlier-lookup-requires-clause-lookup
lookup_by_earlier-lookup-requires-clause-lookup c =
    let fs = c.args.inputs.now in
    let f = c.args.file in
    let i = c.loop-index.index in
    let start = c.len-start.result in
    let first = name_position c.args.names.now.positions in
    let lookup = get_or c.block_lookups-lookups.result (i - start) no_lookup in
    let begun = c.loop-index.invariant.begun in
    let below = c.loop-index-test.true in
    let here : start + (i - start) ≡ i = omega arith in
    lookup_kept fs f i lookup first (name_position c.loop-index.names.positions) c.loop-index.invariant.kept
    (subst (λ (n : ℕ). IsSymbolLookup fs first f n lookup) here (c.block_lookups-lookups.ensures (i - start) (omega arith)))

pub loop-index-preserved : goal.loop-index-preserved
loop-index-preserved c =
    let fs = c.args.inputs.now in
    let f = c.args.file in
    let first = name_position c.args.names.now.positions in
    let old = name_position c.loop-index.names.positions in
    let now = name_position c.pass_symbol.new.names.positions in
    let passed = c.in_ok-pass_symbol.ensures in
    let before = c.loop-index.invariant in
    record {
      begun = (let begun = before.begun in omega arith);
      names = passed.names;
      indexes = rw c.in_ok-push.ensures.items
          (each_more 0 (IsNameIndex fs now f) c.loop-index.index c.loop-index.row.items c.in_ok-pass_symbol.field-0 passed.index
          (row_kept fs old now f c.loop-index.index c.loop-index.row.items passed.kept before.indexes));
      kept = keeps_on first old now before.kept passed.kept;
    }
