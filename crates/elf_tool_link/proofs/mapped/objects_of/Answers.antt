use Rattle.std.proofs.Common.{◌≤◌, Bor, List, ℕ, arith, length, refl, rules}
use Rattle.std.proofs.lemmas.List.{length-map}
use Rattle.elf_tool_link.proofs.LinkRefusals.{all_objects, next_object, next_refused}
use Rattle.elf_tool_link.proofs.mapped.objects_of.Goals as goal

abbrev bytes : Bor (List ℕ) → List ℕ
bytes f = f.now

pub returns-in-Err-Rule : goal.returns-in-Err-Rule
returns-in-Err-Rule c =
    let l = c.loop-file in
    let refused = rw c.in-Err-Rule.field-0-is at c.in-Err-Rule.ensures in
    rw (c.in-Err-Rule.rule-is, c.in-Err-Rule.at-is)
    (next_refused bytes c.args.files.now l.objects.items _ l.invariant.begin l.file _ _ _ l.invariant.count (search rules) refl refused)

pub loop-file-preserved : goal.loop-file-preserved
loop-file-preserved c =
    let l = c.loop-file in
    let next = next_object bytes c.args.files.now l.objects.items _ l.invariant.begin l.file _ c.in-Ok.object l.invariant.count
    (search rules) refl c.in-Ok.ensures in
    record { count = search rules; begin = rw c.in-Ok-push.ensures.items next }

pub returns : goal.returns
returns c =
    let l = c.loop-file in
    let files = length-map c.args.files.now bytes in
    let past : length c.args.files.now ≤ l.file = search rules in
    let count = l.invariant.count in
    all_objects _ l.objects.items (omega arith) l.invariant.begin
