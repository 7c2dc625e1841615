-- The list has all fields, so the first one in it that shares a byte with one before it is the first site of rule 15, and none is none.
use Rattle.std.proofs.Common.{refl}
use Rattle.elf_link_relocate.specs.Fields.{IsFieldOutOfRange, SharesEarlier}
use Rattle.elf_link_relocate.proofs.Collected.{all_within, first_at_field, first_overlap, no_overlap, none_at_field, none_in_list}
use Rattle.elf_link_relocate.proofs.values.Values.refuse_overlap.Goals as goal

pub returns-then-found-clause-ok : goal.returns-then-found-clause-ok
returns-then-found-clause-ok c = c.requires.found.apart c.if-found.true

pub invariant_of-list : goal.invariant_of-list
invariant_of-list c =
    let l = c.args.self.now in
    let ds = c.args.found.now.list.items in
    let mixed = c.if-found.false in
    let are = c.requires.found.fields mixed in
    rw c.deref-fields.ensures.value (record {
      fields = are;
      read = c.requires.found.read mixed;
      within = all_within l.objects ds (none_in_list l.objects l.rules ds are (IsFieldOutOfRange l.objects) c.requires.within);
    })

pub returns-in-Some-clause-err : goal.returns-in-Some-clause-err
returns-in-Some-clause-err c =
    let l = c.args.self.now in
    let ds = c.args.found.now.list.items in
    let are = c.requires.found.fields c.if-found.false in
    let k = c.in-Some.k in
    let first = rw (c.in-Some.is, c.deref-fields.ensures.value) at c.in_ok-k.ensures in
    rw (c.into.ensures, c.new.ensures, c.deref-fields.ensures.value)
    (refl, first_at_field l.objects l.rules ds are (SharesEarlier l.objects l.rules) k (first_overlap l.objects l.rules ds are k first))

pub returns-in-None-clause-ok : goal.returns-in-None-clause-ok
returns-in-None-clause-ok c =
    let l = c.args.self.now in
    let ds = c.args.found.now.list.items in
    let are = c.requires.found.fields c.if-found.false in
    let none = rw (c.in-None.is, c.deref-fields.ensures.value) at c.in_ok-k.ensures in
    none_at_field l.objects l.rules ds are (SharesEarlier l.objects l.rules) (no_overlap l.objects l.rules ds are none)
