-- The tables keep rules 1 to 21, so what rules 22 to 32 find is what rules 1 to 32 find (`entries_run`); then rule 33 is left. If no rule
-- is broken the outline is sound (`blank_sound`).
use Rattle.std.proofs.Common.{◌≡◌, ◌∙◌, List, None, ap₂, map, subst, sym}
use Rattle.std.proofs.lemmas.Result.{IfErr-weaker}
use Rattle.elf_extent.specs.Account.{Accounts}
use Rattle.elf_extent.specs.Extent.{AreWithin, Doubly, IsLowest}
use Rattle.elf_extent.specs.declared.extent.Extent.{Extent}
use Rattle.elf_image_outline.specs.Image.{part_piece, value_extents}
use Rattle.elf_image_outline.specs.Scanning.{IsSharedFault}
use Rattle.elf_image_outline.proofs.Scanned.{blank_sound, whole_names, ended_well, entries_run, extents_inside, none_shared, rule_broken}
use Rattle.elf_image_outline.proofs.Scanned.{sharing_broken, stopped}
use Rattle.elf_image_outline.proofs.validated.validated_parts.Goals as goal

pub returns-in_err-validate_entries-clause-err : goal.returns-in_err-validate_entries-clause-err
returns-in_err-validate_entries-clause-err c =
    stopped _ _ _
    (λ names are. rule_broken _ _ _ _ names _ _
    (entries_run _ _ _ _ _ _ _ names _ c.requires.tables c.deref.ensures.value c.deref-2.ensures.value
    (c.in_err-validate_entries.ensures names are)))
    c.from_residual.ensures.1

pub unshared_parts-requires-clause-within : goal.unshared_parts-requires-clause-within
unshared_parts-requires-clause-within c =
    let t = c.args.tables.now in
    let (names, are) = c.requires.some in
    let kept = entries_run _ _ _ _ _ _ _ names _ c.requires.tables c.deref.ensures.value c.deref-2.ensures.value
    (c.in_ok-validate_entries.ensures names are) in
    subst (λ (xs : List Extent). AreWithin xs c.args.len)
    (sym (ap₂ (value_extents t.header) c.deref-3.ensures.value c.deref-4.ensures.value))
    (extents_inside _ _ _ _ _ names c.requires.tables kept)

pub returns-clause-ok : goal.returns-clause-ok
returns-clause-ok c =
    let t = c.args.tables.now in
    let same : value_extents t.header c.deref-3.result.now c.deref-4.result.now ≡ value_extents t.header t.sections.items t.segments.items =
    ap₂ (value_extents t.header) c.deref-3.ensures.value c.deref-4.ensures.value in
    ended_well c.unshared_parts.result _ _ _ c.unshared_parts.ensures.unshared c.unshared_parts.ensures.parts
    (λ parts unshared accounts names are.
    let kept = entries_run _ _ _ _ _ _ _ names _ c.requires.tables c.deref.ensures.value c.deref-2.ensures.value
    (c.in_ok-validate_entries.ensures names are) in
    record {
      clean = none_shared _ _ _ _ _ names c.requires.tables kept (subst (λ (xs : List Extent). IsLowest (Doubly xs) None) same unshared);
      accounts = subst (λ (xs : List Extent). Accounts xs c.args.len 0 (map part_piece parts.items)) same accounts;
    })

pub returns-clause-sound : goal.returns-clause-sound
returns-clause-sound c =
    let t = c.args.tables.now in
    let (names, are) = c.requires.some in
    let kept = entries_run _ _ _ _ _ _ _ names _ c.requires.tables c.deref.ensures.value c.deref-2.ensures.value
    (c.in_ok-validate_entries.ensures names are) in
    ended_well c.unshared_parts.result _ _ _ c.unshared_parts.ensures.unshared (returns-clause-ok c)
    (λ parts unshared keep.
    blank_sound c.args.len t.header t.counts t.sections.items t.segments.items names _ c.requires.tables (keep names are)
    (sym are.len ∙
    whole_names c.args.len c.args.ends.len t.header t.counts t.sections.items t.segments.items names c.requires.tables kept
    c.requires.clipped))

pub returns-clause-err : goal.returns-clause-err
returns-clause-err c =
    let t = c.args.tables.now in
    let same : value_extents t.header c.deref-3.result.now c.deref-4.result.now ≡ value_extents t.header t.sections.items t.segments.items =
    ap₂ (value_extents t.header) c.deref-3.ensures.value c.deref-4.ensures.value in
    IfErr-weaker c.unshared_parts.result _ _
    (λ fault shared names are.
    let kept = entries_run _ _ _ _ _ _ _ names _ c.requires.tables c.deref.ensures.value c.deref-2.ensures.value
    (c.in_ok-validate_entries.ensures names are) in
    sharing_broken _ _ _ _ _ names fault c.requires.tables kept (subst (λ (xs : List Extent). IsSharedFault xs fault) same shared))
    c.unshared_parts.ensures.err
