use Rattle.std.proofs.Common.{◌≡◌, ◌<◌, ◌∙◌, length, ap, subst, sym, rules, arith}
use Rattle.std.specs.Prelude.{slice_index, vec_len}
use Rattle.std.proofs.lemmas.List.{get_or_read}
use Rattle.elf_link_relocate.specs.Loads.{loads}
use Rattle.elf_exec.specs.ExecWriting.{PlacedExecValue}
use Rattle.elf_exec.proofs.ExecText.{many_places}
use Rattle.elf_exec.proofs.placed_exec.PlacedExec.place.Goals as goal

pub index-requires : goal.index-requires
index-requires c =
    let m = c.self.inside.linked.now.map in
    let within : c.args.k < length (loads m) =
    subst (λ (p : PlacedExecValue). c.args.k < length (loads p.linked.map)) (sym c.self.view_is) c.requires in
    let many = many_places m c.self.inside.places.items c.self.invariant.placed.least in
    let wide : length c.self.inside.places.items ≡ vec_len c.self.inside.places = search rules in
    omega arith

pub returns : goal.returns
returns c =
    let m = c.self.inside.linked.now.map in
    let within : c.args.k < length (loads m) =
    subst (λ (p : PlacedExecValue). c.args.k < length (loads p.linked.map)) (sym c.self.view_is) c.requires in
    let many = many_places m c.self.inside.places.items c.self.invariant.placed.least in
    get_or_read c.self.inside.places.items _ _ (omega arith) c.index.ensures 0 ∙
    ap (λ (p : PlacedExecValue). slice_index p.places c.args.k) c.self.view_is
