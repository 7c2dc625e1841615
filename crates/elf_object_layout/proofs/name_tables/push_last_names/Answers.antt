use Rattle.std.proofs.Common.{◌∙◌, ◌++◌, ap, map, refl, sym}
use Rattle.elf_object_layout.specs.StringTables.{last_names}
use Rattle.elf_object_layout.proofs.PlainSections.{names_with_index_table, names_without_index_table, now_of}
use Rattle.elf_object_layout.proofs.name_tables.push_last_names.Goals.{then-has_index_table+in_ok-push-2, else-has_index_table}
use Rattle.elf_object_layout.proofs.name_tables.push_last_names.Goals as goal

pub returns : goal.returns
returns c = elim c.if-has_index_table.branch [
  | then-has_index_table+in_ok-push-2 w ↦
      names_with_index_table c.args.names.now.items _ c.if-has_index_table.names.items _ _ _ _ _ _
      c.in_ok-push.ensures.items
      (ap (λ v. v.items) w.names-is ∙ w.in_ok-push-2.ensures.items) c.in_ok-push-3.ensures.items c.in_ok-push-4.ensures.items
      refl refl refl refl ∙ ap (λ far. map now_of c.args.names.now.items ++ last_names far) (sym w.if-has_index_table.true)
  | else-has_index_table w ↦
      names_without_index_table c.args.names.now.items c.if-has_index_table.names.items _ _ _ _ _
      (ap (λ v. v.items) w.names-is ∙ c.in_ok-push.ensures.items) c.in_ok-push-3.ensures.items c.in_ok-push-4.ensures.items
      refl refl refl ∙ ap (λ far. map now_of c.args.names.now.items ++ last_names far) (sym w.if-has_index_table.false)
]
