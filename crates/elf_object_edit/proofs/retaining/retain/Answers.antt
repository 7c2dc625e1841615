-- The marks are the results of the closure, so the object that `without` returns is the one without the sections that it rejects.
use Rattle.std.proofs.Common.{◌≡◌, Bool, IfOk, List, subst, sym, ◌∙◌}
use Rattle.std.specs.Prelude.{IfErr, OnOk}
use Rattle.elf_object_edit.proofs.Retained.{rejected_fail, retained_by_results}
use Rattle.elf_object_edit.specs.Retain.{AreRejected, object_retained}
use Rattle.elf_object_edit.specs.Without.{AreUnneeded, IsWithoutFault, object_without}
use Rattle.elf_object_edit.proofs.retaining.retain.Goals as goal

pub returns-clause-object : goal.returns-clause-object
unfolding object_retained
returns-clause-object g c = λ test computes.
    (let o = c.args.object.now in
    let same = c.deref.ensures.value ∙ rejected_fail g.F.Fn c.args.keep o _ test c.in_ok-left_out.ensures computes in
    subst (λ (left_out : List Bool). IfOk c.without.result (λ rest. rest ≡ object_without o left_out)) same c.without.ensures.object)

pub returns-clause-unneeded : goal.returns-clause-unneeded
returns-clause-unneeded g c = λ test computes.
    (let o = c.args.object.now in
    let same = c.deref.ensures.value ∙ rejected_fail g.F.Fn c.args.keep o _ test c.in_ok-left_out.ensures computes in
    subst (λ (left_out : List Bool). OnOk c.without.result (AreUnneeded o left_out)) same c.without.ensures.unneeded)

pub returns-clause-fault : goal.returns-clause-fault
returns-clause-fault g c = λ test computes.
    (let o = c.args.object.now in
    let same = c.deref.ensures.value ∙ rejected_fail g.F.Fn c.args.keep o _ test c.in_ok-left_out.ensures computes in
    subst (λ (left_out : List Bool). IfErr c.without.result (IsWithoutFault o left_out)) same c.without.ensures.fault)

pub returns-clause-results : goal.returns-clause-results
returns-clause-results g c =
    let o = c.args.object.now in
    let keep = c.args.keep in
    let rejected = subst (AreRejected g.F.Fn keep o) (sym c.deref.ensures.value) c.in_ok-left_out.ensures in
    retained_by_results g.F.Fn keep o c.deref.result.now c.without.result rejected c.without.ensures.object c.without.ensures.unneeded
    c.without.ensures.fault
