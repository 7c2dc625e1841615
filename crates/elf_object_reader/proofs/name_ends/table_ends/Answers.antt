-- The symbol at position j was read from the entry at j + 1, which lies in the content. So the end that is pushed is that of symbol j + 1.
use Rattle.std.proofs.Common.{◌≡◌, ◌+◌, ◌-◌, ◌*◌, ◌++◌, ℕ, List, [], ◌∷◌, length, map, sym, ap, ap₂, ◌∙◌, arith}
use Rattle.std.specs.List.{range_with_len}
use Rattle.std.proofs.lemmas.List.{length-map}
use Rattle.std.proofs.lemmas.List.FromFn.{map-range_with_len_more}
use Rattle.elf_field.specs.Entries.{sym_at}
use Rattle.elf_field.specs.declared.number.Order.{Order}
use Rattle.elf_field.specs.declared.sym.Sym.{Sym}
use Rattle.elf_object_layout.specs.SectionsLeftOut.{left_out}
use Rattle.elf_object_reader.specs.NameEnds.{name_end, symbol_end}
use Rattle.elf_object_type.specs.Object.{SymbolValue}
use Rattle.elf_object_type.specs.ObjectView.{symbol_value}
use Rattle.elf_table_symbols.specs.Sections.{content, order, sections_of}
use Rattle.elf_table_symbols.specs.Symbols.{symbols_of}
use Rattle.elf_object_reader.proofs.DenotedSymbols.{symbol_within, all_but_one, name_read, next_there}
use Rattle.elf_object_reader.proofs.name_ends.table_ends.Goals as goal

pub get_at-entry-requires : goal.get_at-entry-requires
get_at-entry-requires c =
    let f = sections_of c.args.image.now in
    let there = next_there (left_out f) f c.args.t c.loop-j.j c.args.symbols.now c.requires.read c.loop-j-test.true in
    rw c.content-table.ensures.bytes (symbol_within f c.args.t (c.loop-j.j + 1) there)

pub overflow_mul-j : goal.overflow_mul-j
overflow_mul-j c =
    let f = sections_of c.args.image.now in
    let there = next_there (left_out f) f c.args.t c.loop-j.j c.args.symbols.now c.requires.read c.loop-j-test.true in
    let within = symbol_within f c.args.t (c.loop-j.j + 1) there in
    let long : length c.content-table.result.now ≡ length (content f c.args.t) =
    ap (λ (b : List ℕ). length b) c.content-table.ensures.bytes in
    let inside = c.content-table.ensures.inside in
    let short = c.content-table.ensures.short in
    omega arith

pub loop-j-preserved : goal.loop-j-preserved
loop-j-preserved c =
    let f = sections_of c.args.image.now in
    let t = c.args.t in
    let j = c.loop-j.j in
    let entry : c.get_at-entry.result ≡ sym_at (order f) (content f t) (24 * (j + 1)) =
    c.get_at-entry.ensures.value ∙ ap (λ (o : Order). sym_at o c.content-table.result.now (24 * (j + 1))) c.order-order.ensures
    ∙ ap (λ (b : List ℕ). sym_at (order f) b (24 * (j + 1))) c.content-table.ensures.bytes in
    let one : c.name_end.result ≡ symbol_end f t (j + 1) =
    c.name_end.ensures
    ∙ ap₂ (λ (e : Sym) (name : List ℕ). name_end e.st_name name) entry
    (name_read (left_out f) f t j c.args.symbols.now _ c.requires.read c.loop-j-test.true) in
    c.in_ok-push.ensures.items
    ∙ ap₂ (λ (ends : List ℕ) (end : ℕ). ends ++ (end ∷ [])) c.loop-j.invariant one
    ∙ sym (map-range_with_len_more (symbol_end f t) 1 j (j + 1) (omega arith))

pub returns : goal.returns
returns c =
    let f = sections_of c.args.image.now in
    let many = ap (λ (symbols : List SymbolValue). length symbols) c.requires.read ∙ all_but_one (left_out f) f c.args.t in
    let read = length-map c.args.symbols.now symbol_value in
    let past = c.loop-j-test.false in
    let within = c.loop-j.auto.j-end in
    let all : c.loop-j.j ≡ length (symbols_of f c.args.t) - 1 = omega arith in
    c.loop-j.invariant ∙ ap (λ (n : ℕ). map (symbol_end f c.args.t) (range_with_len 1 n)) all
