use Rattle.std.proofs.Common.{◌∙◌}
use Rattle.elf_object_layout.proofs.CanonicalLayout.{if_err, if_ok, layout_err, layout_ok, some_part}
use Rattle.elf_object_layout.proofs.layout.lay_out_with.Goals as goal

pub place_parts-requires : goal.place_parts-requires
place_parts-requires c = some_part c.args.object.now c.deref.result.now (c.deref.ensures.value ∙ c.in_ok-parts.ensures)

pub returns-clause-ok : goal.returns-clause-ok
returns-clause-ok c =
    if_ok c.place_parts.result _ _
    (λ layout. layout_ok c.args.object.now c.deref.result.now layout (c.deref.ensures.value ∙ c.in_ok-parts.ensures))
    c.place_parts.ensures.ok

pub returns-clause-err : goal.returns-clause-err
returns-clause-err c =
    if_err c.place_parts.result _ _
    (λ fault. layout_err c.args.object.now c.deref.result.now fault (c.deref.ensures.value ∙ c.in_ok-parts.ensures))
    c.place_parts.ensures.err
