use Rattle.std.proofs.Common.{◌≡◌, ℕ, ◌+◌, ◌<◌, length, ap, ◌∙◌, subst, arith}
use Rattle.elf_object_type.specs.Object.{ObjectValue}
use Rattle.elf_link_files.specs.Files.{object_at}
use Rattle.elf_link_files.proofs.Public.{object_is}
use Rattle.elf_link_relocate.specs.Passes.{LinkingValue, entry_site, AreFoundBefore}
use Rattle.elf_link_relocate.proofs.Collected.{fields_same, found_on, in_file, next_file}
use Rattle.elf_link_relocate.proofs.collecting.push_file.Goals as goal

pub returns-clause-ok : goal.returns-clause-ok
returns-clause-ok c =
    let objects : c.linking.inside.objects.now ≡ c.args.values.now.objects =
    ap (λ (l : LinkingValue). l.objects) (c.linking.view_is ∙ c.linking-linking.ensures) in
    let fs = c.args.values.now.objects in
    let f = c.args.file in
    let n = length (object_at fs f).sections in
    let count = c.section_count-index-end.ensures in
    let same = ap (λ (o : ObjectValue). length o.sections)
    (object_is fs f c.index-objects-file.result c.requires.file (rw objects at c.index-objects-file.is)) in
    let past = c.loop-index-test.false in
    let end : c.loop-index.index ≡ n = omega arith in
    let m = c.args.values.now.map in
    let rules = c.args.values.now.rules in
    let is = subst (λ (i : ℕ). AreFoundBefore fs m rules c.args.listing (entry_site f i 0) c.loop-index.found) end c.loop-index.invariant in
    found_on fs m rules c.args.listing _ _ c.loop-index.found
    (λ ds. fields_same fs rules (entry_site f n 0) (entry_site (f + 1) 0 0) ds (λ p. next_file p f n)
    (λ p applied before. in_file p f n
    (λ file. subst (λ (g : ℕ). p.index < length (object_at fs g).sections) file applied.0.section) before)) is
