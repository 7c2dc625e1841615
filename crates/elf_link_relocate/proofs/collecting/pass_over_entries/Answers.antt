-- After the last file the fields found are all fields, and each applied entry has a relocation rule: no entry comes later.
use Rattle.std.proofs.Common.{◌∙◌, List, ◌≡◌, ℕ, length, subst, arith, ap}
use Rattle.elf_object_type.specs.Object.{ObjectValue}
use Rattle.elf_link_relocate.specs.Passes.{LinkingValue, entry_site, AreAllCopies, AreFoundBefore, copies_view}
use Rattle.elf_link_relocate.proofs.Collected.{fields_all, none_unruled}
use Rattle.elf_link_relocate.proofs.Patches.{found_none}
use Rattle.elf_link_relocate.proofs.collecting.pass_over_entries.Goals as goal

pub loop-file-init : goal.loop-file-init
loop-file-init c =
    let l = c.args.values.now in
    let copies =
    subst (λ (now : LinkingValue). AreAllCopies now.objects (length now.objects) (copies_view c.in_ok-all_copies.field-0.items))
    c.linking-linking.ensures c.in_ok-all_copies.ensures in
    found_none l.objects l.map l.rules c.args.listing _ c.new.ensures.items c.none.ensures copies

pub returns-clause-found : goal.returns-clause-found
returns-clause-found c =
    let objects : c.linking.inside.objects.now ≡ c.args.values.now.objects =
    ap (λ (l : LinkingValue). l.objects) (c.linking.view_is ∙ c.linking-linking.ensures) in
    let l = c.args.values.now in
    let past = c.loop-file-test.false in
    let long = ap (λ (fs : List ObjectValue). length fs) objects in
    let end : c.loop-file.file ≡ length l.objects = omega arith in
    let (ds, before, is) =
    subst (λ (n : ℕ). AreFoundBefore l.objects l.map l.rules c.args.listing (entry_site n 0 0) c.loop-file.found) end
    c.loop-file.invariant in
    (ds, fields_all l.objects l.rules ds before, is)

pub returns-clause-ruled : goal.returns-clause-ruled
returns-clause-ruled c =
    let objects : c.linking.inside.objects.now ≡ c.args.values.now.objects =
    ap (λ (l : LinkingValue). l.objects) (c.linking.view_is ∙ c.linking-linking.ensures) in
    let l = c.args.values.now in
    let past = c.loop-file-test.false in
    let long = ap (λ (fs : List ObjectValue). length fs) objects in
    let end : c.loop-file.file ≡ length l.objects = omega arith in
    let (ds, before, is) =
    subst (λ (n : ℕ). AreFoundBefore l.objects l.map l.rules c.args.listing (entry_site n 0 0) c.loop-file.found) end
    c.loop-file.invariant in
    none_unruled l.objects l.rules ds before
