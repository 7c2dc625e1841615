use Rattle.std.proofs.Common.{◌≡◌, ◌<◌, Bor, List, [], ap, arith, get_or, length, nat_eq, rules, sym, ℕ, ◌-◌}
use Rattle.std.proofs.lemmas.List.{get_or-map, length-map}
use Rattle.elf_object_strings.specs.StringTable.{texts, with_name}
use Rattle.elf_object_strings.proofs.Written.{written_all, written_more}
use Rattle.elf_object_strings.proofs.table.write_names.Goals as goal

abbrev now_of : Bor (List ℕ) → List ℕ
now_of name = name.now

pub loop-i-preserved : goal.loop-i-preserved
loop-i-preserved c =
    let all = texts c.args.names.now in
    let i = c.loop-i.i in
    let old = c.loop-i.bytes.items in
    let new = c.write_name.new.bytes.items in
    let many = length-map c.args.names.now now_of in
    let lt : i < length all = omega arith in
    let here = sym (get_or-map now_of c.args.names.now i (record { ref_ptr = (0, 0); now = [] }) [] c.loop-i-test.true) in
    let table : new ≡ with_name old (get_or all i []) (nat_eq (get_or c.args.owners.now i 0) i) = rw here at c.in_ok-write_name.ensures in
    let long : c.len.result ≡ length new = search rules in
    rw c.in_ok-push-2.ensures.items
    (written_more all i _ _ old new c.loop-i.ends.items lt (c.requires.each i lt) table (ap (λ (k : ℕ). k - 1) long) c.loop-i.invariant)

pub returns-clause-bytes : goal.returns-clause-bytes
returns-clause-bytes c =
    let many = length-map c.args.names.now now_of in
    let test = c.loop-i-test.false in
    let end = c.loop-i.auto.i-end in
    (written_all (texts c.args.names.now) c.loop-i.i _ _ (omega arith) c.loop-i.invariant).0
