use Rattle.std.proofs.Common.{◌+◌, ◌<◌, List, false, get_or, length, inl, inr, ap, ◌∙◌, sym, arith}
use Rattle.std.proofs.lemmas.Bool.{cases_lt}
use Rattle.std.proofs.lemmas.List.{get_or_default, get_or_past}
use Rattle.elf_object_edit.specs.Without.{new_position, stays}
use Rattle.elf_object_type.proofs.Public.{place_get, place_past}
use Rattle.elf_object_edit.proofs.staying.Staying.position.Goals as goal

pub returns : goal.returns
returns c =
    let marks = c.args.self.now.marks.items in
    let m = c.min.result in
    let own = c.args.self.now.own_positions in
    let long = own.long in
    let within : m < length marks + 1 = omega arith in
    c.index.ensures ∙ sym (get_or_default c.args.self.now.positions.items m 0 c.index.result.now (omega arith)) ∙
    ap (λ (xs : List _). get_or xs m 0) own.right ∙ place_get (stays marks) (length marks) m within ∙
    elim (cases_lt c.args.p (length marks)) [
      | inl there ↦ ap (new_position marks) (omega arith)
      | inr past ↦ ap (new_position marks) (omega arith) ∙
          sym (place_past (stays marks) (length marks) c.args.p (λ k. get_or_past marks k false) past)
    ]
