-- A string that ends within its block is one of the whole table (`string_near`). Any other one ends where the string at the beginning of
-- the
-- next block does (`end_far`).
use Rattle.std.proofs.Common.{◌≡◌, ◌+◌, ◌*◌, ◌<◌, ◌≤◌, ℕ, length, get_or, arith, vec_len, ◌∙◌, take}
use Rattle.std.specs.Prelude.{◌/◌}
use Rattle.std.proofs.lemmas.List.{length-take}
use Rattle.elf_field.specs.Strings.{string}
use Rattle.elf_object_reader.specs.declared.string_blocks.StringBlocks.{StringBlocks}
use Rattle.elf_object_reader.proofs.DenotedSymbols.{block_there, end_far, end_there, end_within, string_near, string_to}
use Rattle.elf_object_reader.proofs.string_blocks.StringBlocks.string.Goals as goal

-- the block's index, and what is known of it
block_below : (b : StringBlocks) (offset : ℕ) → offset / 4096 < b.ends.len → offset / 4096 < length b.ends.items
block_below b offset lt = (let long = vec_len b.ends in omega arith)

block_in : (b : StringBlocks) (offset : ℕ) → offset / 4096 < b.ends.len → 4096 * (offset / 4096 + 1) ≤ length b.table.now
block_in b offset lt = block_there b.table.now b.ends.items (offset / 4096) b.known (block_below b offset lt)

pub slice_bounds-string_at-end : goal.slice_bounds-string_at-end
slice_bounds-string_at-end c =
    let table = c.args.self.now.table.now in
    let there = block_in c.args.self.now c.args.offset (omega (arith, c.if-block-len.false, c.len.ensures)) in
    omega (arith, length-take (4096 * (c.args.offset / 4096 + 1)) table)

pub returns-then-at-near : goal.returns-then-at-near
returns-then-at-near c =
    let table = c.args.self.now.table.now in
    let next = 4096 * (c.args.offset / 4096 + 1) in
    let within = rw c.string_at-near.ensures at c.if-at-near.true in
    c.string_at-near.ensures ∙ string_near table c.args.offset next (omega arith) within

-- where a string ends that goes on into the next block
goes_on : (b : StringBlocks) (offset end : ℕ) → offset / 4096 < b.ends.len →
    4096 * (offset / 4096 + 1) ≤ offset + length (string (take (4096 * (offset / 4096 + 1)) b.table.now) offset) →
    end ≡ get_or b.ends.items (offset / 4096) end → offset + length (string b.table.now offset) ≡ end
goes_on b offset end lt beyond is =
    end_far b.table.now offset (4096 * (offset / 4096 + 1)) end (omega arith) beyond
    (is ∙ end_there b.table.now b.ends.items (offset / 4096) end b.known (block_below b offset lt))

pub between-requires-clause-order : goal.between-requires-clause-order
between-requires-clause-order c =
    let lt : c.args.offset / 4096 < c.args.self.now.ends.len = omega (arith, c.if-block-len.false, c.len.ensures) in
    let beyond = rw c.string_at-near.ensures at c.if-at-near.false in
    let whole = goes_on c.args.self.now c.args.offset c.index.result.now lt beyond c.index.ensures in
    omega arith

pub between-requires-clause-within : goal.between-requires-clause-within
between-requires-clause-within c =
    let b = c.args.self.now in
    let lt : c.args.offset / 4096 < b.ends.len = omega (arith, c.if-block-len.false, c.len.ensures) in
    let beyond = rw c.string_at-near.ensures at c.if-at-near.false in
    let whole = goes_on b c.args.offset c.index.result.now lt beyond c.index.ensures in
    let there = block_in b c.args.offset lt in
    let inside = end_within b.table.now c.args.offset (omega arith) in
    omega arith

pub returns : goal.returns
returns c =
    let b = c.args.self.now in
    let lt : c.args.offset / 4096 < b.ends.len = omega (arith, c.if-block-len.false, c.len.ensures) in
    let beyond = rw c.string_at-near.ensures at c.if-at-near.false in
    c.between.ensures ∙
    string_to b.table.now c.args.offset c.index.result.now (goes_on b c.args.offset c.index.result.now lt beyond c.index.ensures)
