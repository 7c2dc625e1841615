-- What `relocate` says beyond `relocate_indexed` follows from its answer: laws of relocated bytes and of faults, under the result.
use Rattle.std.specs.Prelude.{None}
use Rattle.elf_link_files.specs.Rows.{FirstAt}
use Rattle.elf_link_map.specs.LinkMap.{IsOnlyFault, IsOnlyFirst}
use Rattle.elf_link_relocate.specs.Fields.{IsRelocationFault, applied_entry_rules}
use Rattle.elf_link_relocate.specs.Linked.{FieldsHoldNumbers, IsLinked, IsOnlyLinked}
use Rattle.elf_link_relocate.proofs.Held.{fields_held, if_err_linked, if_ok_linked, on_ok_linked, one_linked, only_fault, only_first}
use Rattle.elf_link_relocate.proofs.MemoryLaws.{if_ready}
use Rattle.elf_link_relocate.proofs.relocating.relocate.Goals as goal

pub returns-clause-ready : goal.returns-clause-ready
returns-clause-ready c =
    if_ready c.args.objects.now c.args.map.now c.args.rules.now c.relocate_indexed.result c.relocate_indexed.ensures.linked

pub returns-clause-numbers : goal.returns-clause-numbers
returns-clause-numbers c =
    let fs = c.args.objects.now in
    let m = c.args.map.now in
    let rules = c.args.rules.now in
    if_ok_linked (IsLinked fs m rules) (FieldsHoldNumbers fs m rules) c.relocate_indexed.result
    (λ l is. fields_held fs m rules l c.requires is) c.relocate_indexed.ensures.linked

pub returns-clause-only_linked : goal.returns-clause-only_linked
returns-clause-only_linked c =
    let fs = c.args.objects.now in
    let m = c.args.map.now in
    let rules = c.args.rules.now in
    if_ok_linked (IsLinked fs m rules) (IsOnlyLinked fs m rules) c.relocate_indexed.result
    (λ l is k other. one_linked fs m rules c.requires l k is other) c.relocate_indexed.ensures.linked

pub returns-clause-only_sound : goal.returns-clause-only_sound
returns-clause-only_sound c =
    let fs = c.args.objects.now in
    let m = c.args.map.now in
    let rules = c.args.rules.now in
    on_ok_linked (IsLinked fs m rules) (IsOnlyFirst (FirstAt (applied_entry_rules fs m rules)) None) c.relocate_indexed.result
    (λ l is. only_first fs m rules None is.sound) c.relocate_indexed.ensures.linked

pub returns-clause-only_err : goal.returns-clause-only_err
returns-clause-only_err c =
    let fs = c.args.objects.now in
    let m = c.args.map.now in
    let rules = c.args.rules.now in
    if_err_linked (IsRelocationFault fs m rules) (IsOnlyFault (FirstAt (applied_entry_rules fs m rules))) c.relocate_indexed.result
    (only_fault fs m rules) c.relocate_indexed.ensures.err
