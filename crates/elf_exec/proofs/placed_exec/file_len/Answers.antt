-- The place of the last segment and its size are the end of the file, which is short.
use Rattle.std.proofs.Common.{◌≡◌, ◌+◌, ◌-◌, ℕ, ap, arith, length}
use Rattle.std.specs.Prelude.{slice_index}
use Rattle.elf_link_relocate.specs.Loads.{file_size, load_in, loads}
use Rattle.elf_link_relocate.specs.declared.load.Load.{Load}
use Rattle.elf_exec.specs.ExecWriting.{PlacedExecValue, exec_end}
use Rattle.elf_exec.proofs.ExecText.{last_end, no_end}
use Rattle.elf_exec.proofs.placed_exec.file_len.Goals as goal

end_is : (p : PlacedExecValue) (k place size : ℕ) (load : Load) → k + 1 ≡ length (loads p.linked.map) → place ≡ slice_index p.places k →
    load ≡ load_in p.linked.map k → size ≡ file_size load → place + size ≡ exec_end p.linked.map p.places
end_is p k place size load last at is long =
    let end = last_end p.linked.map p.places k last in
    let same = ap file_size is in
    omega arith

pub returns-then-count-eq0 : goal.returns-then-count-eq0
returns-then-count-eq0 c =
    let p = c.args.placed.now in
    let none = no_end p.linked.map p.places (let count = c.count-count.ensures.value in omega arith) in
    let count = c.count-count.ensures.value in
    omega arith

pub overflow_add-result : goal.overflow_add-result
overflow_add-result c =
    let p = c.args.placed.now in
    let count = c.count-count.ensures.value in
    let end = end_is p (c.count-count.result - 1) c.place.result c.file_size.result c.load.result
    (omega arith) c.place.ensures c.load.ensures c.file_size.ensures in
    let short = c.count-count.ensures.placed.short in
    omega arith

pub returns : goal.returns
returns c =
    let count = c.count-count.ensures.value in
    end_is c.args.placed.now (c.count-count.result - 1) c.place.result c.file_size.result c.load.result
    (omega arith) c.place.ensures c.load.ensures c.file_size.ensures
