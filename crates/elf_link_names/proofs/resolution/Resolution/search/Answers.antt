use Rattle.std.proofs.Common.{◌∙◌, arith, sym}
use Rattle.std.proofs.lemmas.Slice.Eq.{bytes_eq-Decides}
use Rattle.std.proofs.lemmas.List.{length-map}
use Rattle.elf_link_names.specs.KnownNames.{first_site}
use Rattle.elf_link_names.specs.Tables.{name_position}
use Rattle.elf_link_names.proofs.ChosenCommons.{index_never}
use Rattle.elf_link_names.proofs.resolution.Resolution.search.Goals as goal

pub returns-then-eq : goal.returns-then-eq
returns-then-eq c =
    let r = c.self.inside in
    let below = c.loop-k-test.true in
    let count = c.len-k-end.ensures in
    let many = length-map r.names.known first_site in
    let same = (bytes_eq-Decides c.name.result.now c.args.name.now).0 (sym c.eq.ensures ∙ c.if-eq.true) in
    let its = rw (← c.self.view_is) at c.name.ensures in
    rw (← c.self.view_is) (omega arith, sym its ∙ same)

pub returns : goal.returns
returns c =
    let r = c.self.inside in
    let past = c.loop-k-test.false in
    let count = c.len-k-end.ensures in
    let many = length-map r.names.known first_site in
    rw (← c.self.view_is)
    (index_never r.inputs (name_position r.names.positions) r.names.known c.args.name.now c.self.invariant.names
    (λ k lt is. c.loop-k.invariant k (omega arith) (rw (← c.self.view_is) is)))
