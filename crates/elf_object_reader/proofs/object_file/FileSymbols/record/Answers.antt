-- The symbol lies in the content, so its entry can be read there.
use Rattle.std.proofs.Common.{◌≡◌, ℕ, ◌*◌, List, length, ap, ◌∙◌, arith}
use Rattle.elf_field.specs.Entries.{sym_at}
use Rattle.elf_field.specs.declared.number.Order.{Order}
use Rattle.elf_object_reader.specs.FileRules.{sections_of_file}
use Rattle.elf_table_symbols.specs.Sections.{content, order}
use Rattle.elf_object_reader.proofs.DenotedSymbols.{symbol_within}
use Rattle.elf_object_reader.proofs.object_file.FileSymbols.record.Goals as goal

pub get_at-requires : goal.get_at-requires
get_at-requires c =
    let table = c.args.self.now in
    let within = symbol_within (sections_of_file table.file.now) table.index c.args.j (rw table.own_entries at c.requires) in
    rw c.content.ensures.bytes within

pub overflow_mul-j : goal.overflow_mul-j
overflow_mul-j c =
    let table = c.args.self.now in
    let within = symbol_within (sections_of_file table.file.now) table.index c.args.j (rw table.own_entries at c.requires) in
    let size = c.content.ensures.size in
    let bytes = c.content.ensures.bytes in
    let inside = c.content.ensures.inside in
    let short = c.content.ensures.short in
    let long : length c.content.result.now ≡ length (content (sections_of_file table.file.now) table.index) =
    ap (λ (b : List _). length b) bytes in
    omega arith

pub returns : goal.returns
returns c =
    let f = sections_of_file c.args.self.now.file.now in
    let j = c.args.j in
    c.get_at.ensures.value ∙ ap (λ (o : Order). sym_at o c.content.result.now (24 * j)) c.order.ensures
    ∙ ap (λ (b : List ℕ). sym_at (order f) b (24 * j)) c.content.ensures.bytes
