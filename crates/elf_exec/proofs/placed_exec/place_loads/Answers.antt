-- The parts and the start that are placed are those of the link's map, so what was answered of the one holds of the other.
use Rattle.std.proofs.Common.{◌≤◌, ◌∙◌, ℕ, List, length, refl, ap, subst}
use Rattle.std.specs.Prelude.{IfErr, IfOk}
use Rattle.elf_extent.specs.Place.{Least}
use Rattle.elf_image_rules.specs.Rules.{MAX_LEN}
use Rattle.elf_link_map.specs.LinkMap.{LinkMapValue}
use Rattle.elf_exec.specs.Executable.{bytes_from}
use Rattle.elf_exec.specs.ExecWriting.{IsPartsFault, file_end}
use Rattle.elf_exec.proofs.ExecText.{from_is, if_fault, parts_are}
use Rattle.elf_exec.proofs.placed_exec.place_loads.Goals as goal

pub returns-clause-least : goal.returns-clause-least
returns-clause-least c =
    let m = c.args.linked.now.map in
    let page = c.page.ensures ∙ ap (λ (n : LinkMapValue). n.page) c.map.ensures in
    let same = c.deref.ensures.value ∙ c.in_ok-parts.ensures ∙ parts_are m c.page.result c.args.loads.now page c.requires.are in
    subst (λ (ps : List (ℕ × ℕ)). IfOk c.place_parts.result (λ places. Least ps (bytes_from m) places.items)) same
    (subst (λ (n : ℕ). IfOk c.place_parts.result (λ places. Least c.deref.result.now n places.items))
    (c.table_end-from.ensures ∙ from_is m c.args.loads.now (length c.args.loads.now) c.requires.are refl)
    c.place_parts.ensures.least)

pub returns-clause-short : goal.returns-clause-short
returns-clause-short c =
    let m = c.args.linked.now.map in
    let page = c.page.ensures ∙ ap (λ (n : LinkMapValue). n.page) c.map.ensures in
    let same = c.deref.ensures.value ∙ c.in_ok-parts.ensures ∙ parts_are m c.page.result c.args.loads.now page c.requires.are in
    subst (λ (ps : List (ℕ × ℕ)). IfOk c.place_parts.result (λ places. file_end ps (bytes_from m) places.items ≤ MAX_LEN)) same
    (subst (λ (n : ℕ). IfOk c.place_parts.result (λ places. file_end c.deref.result.now n places.items ≤ MAX_LEN))
    (c.table_end-from.ensures ∙ from_is m c.args.loads.now (length c.args.loads.now) c.requires.are refl)
    c.place_parts.ensures.short)

pub returns-clause-err : goal.returns-clause-err
returns-clause-err c =
    let m = c.args.linked.now.map in
    let page = c.page.ensures ∙ ap (λ (n : LinkMapValue). n.page) c.map.ensures in
    let same = c.deref.ensures.value ∙ c.in_ok-parts.ensures ∙ parts_are m c.page.result c.args.loads.now page c.requires.are in
    if_fault c.args.linked.now c.place_parts.result c.requires.ready
    (subst (λ (ps : List (ℕ × ℕ)). IfErr c.place_parts.result (IsPartsFault ps (bytes_from m))) same
    (subst (λ (n : ℕ). IfErr c.place_parts.result (IsPartsFault c.deref.result.now n))
    (c.table_end-from.ensures ∙ from_is m c.args.loads.now (length c.args.loads.now) c.requires.are refl)
    c.place_parts.ensures.err))
