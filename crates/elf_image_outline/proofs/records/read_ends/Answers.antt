-- Some table of bytes has the ends that were read: one byte twice (`one_byte_table`), or two bytes that were read apart (`some_table`). If
-- the source reports its bytes and the table lies in them, these are the table's ends (`ends_in`).
use Rattle.std.proofs.Common.{rules, ◌≡◌, ◌<◌, ◌+◌, ◌-◌, ◌∙◌, ℕ, List, ap, drop, refl, subst, sym, take, arith}
use Rattle.elf_image_rules.specs.Rules.{AreEnds}
use Rattle.elf_field.specs.Bytes.{IsBytes}
use Rattle.elf_image_outline.proofs.RecordsOfSource.{ends_in, one_byte_table, some_table}
use Rattle.elf_image_outline.proofs.records.read_ends.Goals as goal

pub returns-then-len-eq1-clause-reads : goal.returns-then-len-eq1-clause-reads
returns-then-len-eq1-clause-reads g c =
    let byte = c.in_ok-first.first in
    let read = c.in_ok-first.ensures.reads in
    let one = c.if-len-eq1.true in
    let small : byte < 256 = search rules in
    let here : c.args.start ≡ c.args.start + (c.args.len - 1) = omega arith in (
      read.0,
      subst (λ (n : ℕ). (table : List ℕ) × AreEnds (record { len = n; first = byte; last = byte }) table × IsBytes table) (sym one)
          (one_byte_table byte small),
      refl,
      λ b known within. ends_in b c.args.start c.args.len byte byte (omega arith) within (read.1 b known)
          (read.1 b known ∙ ap (λ (n : ℕ). take 1 (drop n b)) here),
    )

pub returns-clause-reads : goal.returns-clause-reads
returns-clause-reads g c =
    let first = c.in_ok-first.ensures in
    let last = c.in_ok-last.ensures in
    let many : 1 < c.args.len = search rules in
    let small : c.in_ok-first.first < 256 = search rules in
    let small_last : c.in_ok-last.last < 256 = search rules in
    let here : (c.args.start + c.args.len) - 1 ≡ c.args.start + (c.args.len - 1) = omega arith in (
      last.reads.0 ∙ first.reads.0,
      some_table c.args.len c.in_ok-first.first c.in_ok-last.last many small small_last,
      refl,
      λ b known within. ends_in b c.args.start c.args.len c.in_ok-first.first c.in_ok-last.last (omega arith) within (first.reads.1 b known)
          (last.reads.1 b (first.kept ∙ known) ∙ ap (λ (n : ℕ). take 1 (drop n b)) here),
    )
