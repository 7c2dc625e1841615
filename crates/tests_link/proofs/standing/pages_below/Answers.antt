-- A number is as many whole pages and a rest that is shorter than one.
use Rattle.std.proofs.Common.{ℕ, ◌%◌, ◌∙◌, ap, arith}
use Rattle.std.proofs.lemmas.Nat.{pow_pos}
use Rattle.elf_link_map.specs.Standing.{output_at}
use Rattle.tests_link.proofs.Outputs.{address_is, many_outputs}
use Rattle.tests_link.proofs.standing.pages_below.Goals as goal

pub nonzero_rem-rest : goal.nonzero_rem-rest
nonzero_rem-rest c =
    let paged = c.are_paged.ensures c.args.options.now c.args.objects.now c.args.link.now c.requires.map c.requires.sound
    c.prove_objects.ensures.kept in
    let (i, power) = paged.page in
    omega (arith, pow_pos i, c.page-page.ensures)

pub nonzero_div-number : goal.nonzero_div-number
nonzero_div-number c =
    let paged = c.are_paged.ensures c.args.options.now c.args.objects.now c.args.link.now c.requires.map c.requires.sound
    c.prove_objects.ensures.kept in
    let (i, power) = paged.page in
    omega (arith, pow_pos i, c.page-page.ensures)

pub prove-unreachable-requires : goal.prove-unreachable-requires
prove-unreachable-requires c =
    let m = c.args.link.now in
    let os = c.outputs-outputs.result.now in
    let same = c.outputs-outputs.ensures in
    let many = many_outputs m os same in
    let here = c.loop-k-test.true in
    let paged = c.are_paged.ensures c.args.options.now c.args.objects.now m c.requires.map c.requires.sound c.prove_objects.ensures.kept in
    let begins = address_is m os c.loop-k.k c.index-outputs-k.result same here in
    c.if-prove.true
    (ap (λ (n : ℕ). n % c.page-page.result) begins ∙ ap (λ (n : ℕ). (output_at m c.loop-k.k).address % n) c.page-page.ensures ∙
    paged.outputs c.loop-k.k (omega arith))
