-- The parts are pushed in the order of the definition, with the index table or without it.
use Rattle.std.proofs.Common.{◌≡◌, length, rules, sym, ap, ◌∙◌, arith}
use Rattle.std.specs.Prelude.{vec_len}
use Rattle.std.proofs.lemmas.List.{length-map}
use Rattle.elf_object_type.specs.ObjectView.{symbol_value}
use Rattle.elf_object_layout.proofs.PlainSections.{parts_with_index_table, parts_without_index_table}
use Rattle.elf_object_layout.proofs.layout.layout_parts.Goals.{then-has_index_table+in_ok-push-2, else-has_index_table}
use Rattle.elf_object_layout.proofs.layout.layout_parts.Goals as goal

pub returns : goal.returns
returns c =
    let o = c.args.object.now in
    let symbols : length c.symbols-symbols.result.now ≡ length o.symbols =
    sym (length-map c.symbols-symbols.result.now symbol_value) ∙ ap length c.symbols-symbols.ensures in
    let strings : length c.args.tables.now.strings.bytes.items ≡ vec_len c.args.tables.now.strings.bytes = search rules in
    let names : length c.args.tables.now.names.bytes.items ≡ vec_len c.args.tables.now.names.bytes = search rules in
    let sections : length c.push-3.new.self.items ≡ vec_len c.push-3.new.self = search rules in
    let string_bytes = ap length c.requires.strings in
    let name_bytes = ap length c.requires.names in
    let strings_len = c.len.ensures in
    let names_len = c.len-2.ensures in
    let sections_len = c.len-sections.ensures in
    elim c.if-has_index_table.branch [
      | then-has_index_table+in_ok-push-2 w ↦
          parts_with_index_table o c.in_ok-parts.parts.items _ c.if-has_index_table.parts.items _ _ _
          (length c.symbols-symbols.result.now) _ _ c.len.result c.len-2.result c.len-sections.result _
          c.in_ok-parts.ensures symbols (sym c.has_index_table.ensures ∙ w.if-has_index_table.true)
          c.table_size.ensures c.in_ok-push.ensures.items w.table_size-then-has_index_table.ensures
          (ap (λ v. v.items) w.parts-is ∙ w.in_ok-push-2.ensures.items)
          (omega arith) (search rules) c.in_ok-push-3.ensures.items (omega arith) (search rules) c.in_ok-push-4.ensures.items
          (omega arith) c.table_size-2.ensures c.in_ok-push-5.ensures.items
      | else-has_index_table w ↦
          parts_without_index_table o c.in_ok-parts.parts.items c.if-has_index_table.parts.items _ _ _
          (length c.symbols-symbols.result.now) _ c.len.result c.len-2.result c.len-sections.result _
          c.in_ok-parts.ensures symbols (sym c.has_index_table.ensures ∙ w.if-has_index_table.false)
          c.table_size.ensures (ap (λ v. v.items) w.parts-is ∙ c.in_ok-push.ensures.items)
          (omega arith) (search rules) c.in_ok-push-3.ensures.items (omega arith) (search rules) c.in_ok-push-4.ensures.items
          (omega arith) c.table_size-2.ensures c.in_ok-push-5.ensures.items
    ]
