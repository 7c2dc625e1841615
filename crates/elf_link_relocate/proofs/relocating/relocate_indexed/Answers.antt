-- The values are those of the link that was asked for, so copies that hold the numbers of all its fields are those of the link.
use Rattle.std.proofs.Common.{subst}
use Rattle.std.specs.Prelude.{None}
use Rattle.elf_link_files.specs.Rows.{FirstAt}
use Rattle.elf_link_relocate.specs.Passes.{AreRelocatedCopies, copies_view, LinkingValue}
use Rattle.elf_link_relocate.specs.Fields.{applied_entry_rules}
use Rattle.elf_link_relocate.proofs.Memories.{sound_of, linked_of}
use Rattle.elf_link_relocate.proofs.relocating.relocate_indexed.Goals as goal

pub invariant_of-linking : goal.invariant_of-linking
invariant_of-linking c = sound_of c.args.objects.now c.args.map.now c.requires.map

pub returns-clause-linked : goal.returns-clause-linked
returns-clause-linked c =
    let fs = c.args.objects.now in
    let m = c.args.map.now in
    let rules = c.args.rules.now in
    let rows = copies_view c.in_ok-copies.copies.items in
    let sound = sound_of fs m c.requires.map in
    let values = c.new-values.ensures in
    let (ds, validated, are) =
    subst (λ (v : LinkingValue). AreRelocatedCopies v.objects v.map v.rules rows) values c.in_ok-copies.ensures.copies in
    let none = subst
    (λ (v : LinkingValue). FirstAt (applied_entry_rules v.objects v.map v.rules) None) values c.in_ok-copies.ensures.sound in
    linked_of fs m rules ds validated sound.places rows are none
