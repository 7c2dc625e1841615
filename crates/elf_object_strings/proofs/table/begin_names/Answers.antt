-- One pass of the loop puts the offset of one more name in place of that of its zero (`begins_at`).
use Rattle.std.proofs.Common.{◌≡◌, ◌<◌, ◌++◌, ◌∙◌, Bor, List, [], ◌∷◌, ap, arith, get_or, length, map, sym, take, ℕ}
use Rattle.std.proofs.lemmas.List.{get_or-map, get_or-set_other, get_or_default, length-map, length-set, map_more, take_all, take_more_set}
use Rattle.elf_object_strings.specs.StringTable.{is_named, name_offset, texts}
use Rattle.elf_object_strings.proofs.Written.{begins_at}
use Rattle.elf_object_strings.proofs.table.begin_names.Goals as goal

abbrev now_of : Bor (List ℕ) → List ℕ
now_of name = name.now

pub offset_of-requires : goal.offset_of-requires
offset_of-requires c = λ named.
    (let names = c.args.names.now in
    let all = texts names in
    let i = c.loop-i.i in
    let offsets = c.loop-i.offsets.items in
    let many = length-map names now_of in
    let same = c.loop-i.invariant.all in
    let as_many = c.requires.all in
    let here = get_or-map now_of names i (record { ref_ptr = (0, 0); now = [] }) [] c.loop-i-test.true in
    let end : c.index.result.now ≡ get_or c.args.zeros.items i 0 =
    c.index.ensures ∙ get_or_default offsets i c.index.result.now 0 (omega arith) ∙ c.loop-i.invariant.rest i (omega arith) in
    let is = c.requires.each i (omega arith) (ap is_named here ∙ named) in
    let long = ap length here in
    omega arith)

pub loop-i-preserved : goal.loop-i-preserved
loop-i-preserved c =
    let names = c.args.names.now in
    let all = texts names in
    let i = c.loop-i.i in
    let offsets = c.loop-i.offsets.items in
    let offset = c.offset_of.result in
    let many = length-map names now_of in
    let same = c.loop-i.invariant.all in
    let as_many = c.requires.all in
    let lt : i < length all = omega arith in
    let here = sym (get_or-map now_of names i (record { ref_ptr = (0, 0); now = [] }) [] c.loop-i-test.true) in
    let end : c.index.result.now ≡ get_or c.args.zeros.items i 0 =
    c.index.ensures ∙ get_or_default offsets i c.index.result.now 0 (omega arith) ∙ c.loop-i.invariant.rest i (omega arith) in
    let begins : offset ≡ name_offset all (get_or all i []) =
    begins_at all (get_or all i []) (get_or c.args.zeros.items i 0) offset (c.requires.each i lt)
    (rw (sym here) c.offset_of.ensures.empty) (rw (sym here, sym end) c.offset_of.ensures.named) in
    record {
      all = length-set offsets i offset ∙ same;
      done = take_more_set offsets i offset (omega arith)
          ∙ ap (λ xs. xs ++ (offset ∷ [])) c.loop-i.invariant.done
          ∙ ap (λ x. map (name_offset all) (take i all) ++ (x ∷ [])) begins
          ∙ sym (map_more (name_offset all) all i [] lt);
      rest = λ q from.
          (let other : q ≡ i → ⊥ = λ is. absurd (omega arith) in
          get_or-set_other offsets i q offset 0 other ∙ c.loop-i.invariant.rest q (omega arith));
    }

pub returns : goal.returns
returns c =
    let all = texts c.args.names.now in
    let i = c.loop-i.i in
    let many = length-map c.args.names.now now_of in
    let same = c.loop-i.invariant.all in
    let as_many = c.requires.all in
    let end = c.loop-i.auto.i-end in
    sym (take_all i c.loop-i.offsets.items (omega arith)) ∙ c.loop-i.invariant.done ∙
    ap (map (name_offset all)) (take_all i all (omega arith))
