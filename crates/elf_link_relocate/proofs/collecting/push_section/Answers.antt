-- A section whose body is no relocations, or is not applied, has no fields; else they are those of its entries, one after the other.
use Rattle.std.proofs.Common.{◌≡◌, ℕ, ap, false, get_or, length, refl, subst, sym, true, ◌∙◌, arith, rules}
use Rattle.elf_object_type.specs.declared.parts.Body.{Body}
use Rattle.elf_object_type.specs.declared.parts.Section.{Section}
use Rattle.elf_object_type.specs.Object.{BodyValue, SectionValue, no_relocation}
use Rattle.elf_object_type.specs.ObjectView.{body_value, section_value}
use Rattle.elf_link_files.specs.Files.{object_at, section_in}
use Rattle.elf_link_relocate.specs.Passes.{LinkingValue}
use Rattle.elf_link_relocate.specs.Fields.{entries_of, is_rela, target_of}
use Rattle.elf_link_relocate.proofs.Collected.{no_relocations, not_applied, section_done, found_on}
use Rattle.elf_link_relocate.proofs.Patches.{target_there}
use Rattle.elf_link_relocate.proofs.collecting.push_section.Goals as goal

-- the body of a section, as read by the link that the values have
body_read : (l m : LinkingValue) (f s : ℕ) (read : Section) (b : Body) → l ≡ m → section_value read ≡ section_in l.objects f s →
    read.body ≡ b →
    (section_in m.objects f s).body ≡ body_value b
body_read l m f s read b same is has =
    sym (ap (λ (t : SectionValue). t.body) (subst (λ (k : LinkingValue). section_value read ≡ section_in k.objects f s) same is)) ∙
    ap (λ (c : Body). body_value c) has

pub returns-in_default : goal.returns-in_default
returns-in_default c =
    let linking = c.linking.view_is ∙ c.linking-linking.ensures in
    let fs = c.args.values.now.objects in
    let m = c.args.values.now.map in
    let rules = c.args.values.now.rules in
    let body = body_read _ _ c.args.file c.args.index c.section_of.result.now _ linking c.section_of.ensures refl in
    record {
      ok = found_on fs m rules c.args.listing _ _ c.args.found.now
          (λ ds. no_relocations fs rules c.args.file c.args.index ds c.section_of.result.now.body (sym body) c.in_default.not-Relocs)
          c.requires.before;
      err = tt;
    }

pub are_applied-requires-clause-target : goal.are_applied-requires-clause-target
are_applied-requires-clause-target c =
    let fs = c.args.values.now.objects in
    let linking = c.linking.view_is ∙ c.linking-linking.ensures in
    let objects = ap (λ (l : LinkingValue). l.objects) linking in
    let same = body_read _ _ c.args.file c.args.index c.section_of.result.now _ linking c.section_of.ensures c.in-Relocs.is in
    rw c.linking-linking.ensures (
      c.requires.section.0,
      target_there (object_at fs c.args.file) c.args.index _ _ _ (rw objects at c.prove_rules.ensures) c.requires.section.1 same,
    )

pub returns-then-not-are_applied-clause-ok : goal.returns-then-not-are_applied-clause-ok
returns-then-not-are_applied-clause-ok c =
    let fs = c.args.values.now.objects in
    let linking = c.linking.view_is ∙ c.linking-linking.ensures in
    let same = body_read _ _ c.args.file c.args.index c.section_of.result.now _ linking c.section_of.ensures c.in-Relocs.is in
    let rules = c.args.values.now.rules in
    found_on fs c.args.values.now.map rules c.args.listing _ _ c.args.found.now
    (λ ds. not_applied fs rules c.args.file c.args.index ds
    (λ applied. (
    let live = rw same at applied.1 in
    let never : false ≡ true = (rw c.linking-linking.ensures at c.if-not-are_applied.ensures).1 (applied.0, live) in
    absurd (cc))))
    c.requires.before

pub returns-clause-ok : goal.returns-clause-ok
returns-clause-ok c =
    let fs = c.args.values.now.objects in
    let linking = c.linking.view_is ∙ c.linking-linking.ensures in
    let same = body_read _ _ c.args.file c.args.index c.section_of.result.now _ linking c.section_of.ensures c.in-Relocs.is in
    let items = ap (λ (b : BodyValue). length (entries_of b)) same in
    let count = c.len-entry-end.ensures in
    let past = c.loop-entry-test.false in
    let rules = c.args.values.now.rules in
    found_on fs c.args.values.now.map rules c.args.listing _ _ c.loop-entry.found
    (λ ds. section_done fs rules c.args.file c.args.index ds c.loop-entry.entry (omega arith))
    c.loop-entry.invariant

pub push_entry-requires-clause-entry : goal.push_entry-requires-clause-entry
push_entry-requires-clause-entry c =
    let fs = c.args.values.now.objects in
    let linking = c.linking.view_is ∙ c.linking-linking.ensures in
    let same = body_read _ _ c.args.file c.args.index c.section_of.result.now _ linking c.section_of.ensures c.in-Relocs.is in
    let items = ap (λ (b : BodyValue). length (entries_of b)) same in
    let count = c.len-entry-end.ensures in
    let below = c.loop-entry-test.true in
    let applied = (rw c.linking-linking.ensures at c.if-not-are_applied.ensures).0 (search rules) in
    let e = c.loop-entry.entry in
    record {
      applied = (
        record { file = c.requires.section.0; section = c.requires.section.1; entry = omega arith },
        (applied.0, rw same applied.1),
      );
      rela = sym (ap (λ (b : BodyValue). is_rela b) same);
      target = sym (ap (λ (b : BodyValue). target_of b) same);
      relocation = sym (ap (λ (b : BodyValue). get_or (entries_of b) e no_relocation) same ∙ sym c.entry.ensures);
    }
