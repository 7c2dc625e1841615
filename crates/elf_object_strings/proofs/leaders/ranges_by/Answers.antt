-- The last leaders are found from both sides (`turned_names`, `together_turned`), and each range goes from one to the other
-- (`ranges_found`).
use Rattle.std.proofs.Common.{◌≡◌, length, ap, reverse, sym, ◌∙◌, arith}
use Rattle.std.proofs.lemmas.List.{length-reverse}
use Rattle.std.proofs.lemmas.Result.{IfOk-weaker}
use Rattle.elf_object_strings.specs.Leaders.{AreLasts}
use Rattle.elf_object_strings.specs.Sorting.{indexes_in, names_by_ends}
use Rattle.elf_object_strings.proofs.EndsOrder.{length-names_by_ends}
use Rattle.elf_object_strings.proofs.LeaderOrder.{lasts_fit, led_by, ranges_found, together, together_turned, turned_names}
use Rattle.elf_object_strings.proofs.leaders.ranges_by.Goals as goal

pub lasts_of-requires : goal.lasts_of-requires
lasts_of-requires c =
    rw c.deref.ensures.value (together (names_by_ends c.args.read.now c.args.sorted.items) (indexes_in c.args.sorted.items) c.requires)

pub lasts_of-requires-2 : goal.lasts_of-requires-2
lasts_of-requires-2 c =
    let names = c.args.read.now in
    let sorted = c.args.sorted.items in
    rw (c.deref-2.ensures.value, c.reverse.ensures.items)
    (together_turned (names_by_ends names sorted) _ (turned_names names sorted)
    (together (names_by_ends names sorted) (indexes_in sorted) c.requires))

pub ranges_between-requires-clause-all : goal.ranges_between-requires-clause-all
ranges_between-requires-clause-all c =
    rw (c.deref-3.ensures.value, c.deref-4.ensures.value) (c.in_ok-firsts.ensures.all ∙ sym c.in_ok-lasts.ensures.all)

pub ranges_between-requires-clause-fit : goal.ranges_between-requires-clause-fit
ranges_between-requires-clause-fit c i =
    let names = c.args.read.now in
    let sorted = c.args.sorted.items in
    let first : AreLasts (names_by_ends names (reverse sorted)) names c.in_ok-firsts.firsts.items =
    rw (c.deref-2.ensures.value, c.reverse.ensures.items) at c.in_ok-firsts.ensures.lasts in
    let count : c.len.result ≡ length sorted =
    c.len.ensures ∙ c.reverse.ensures.len ∙ sym c.deref.ensures.len ∙ ap length c.deref.ensures.value in
    let fits = lasts_fit _ names c.in_ok-firsts.firsts.items first i in
    let turned : length (names_by_ends names (reverse sorted)) ≡ length (reverse sorted) = length-names_by_ends names (reverse sorted) in
    let same : length (reverse sorted) ≡ length sorted = length-reverse sorted in
    rw c.deref-3.ensures.value (omega arith)

pub returns : goal.returns
returns c =
    let names = c.args.read.now in
    let sorted = c.args.sorted.items in
    let first : AreLasts (names_by_ends names (reverse sorted)) names c.in_ok-firsts.firsts.items =
    rw (c.deref-2.ensures.value, c.reverse.ensures.items) at c.in_ok-firsts.ensures.lasts in
    let last : AreLasts (names_by_ends names sorted) names c.in_ok-lasts.lasts.items =
    rw c.deref.ensures.value at c.in_ok-lasts.ensures.lasts in
    let count : c.len.result ≡ length sorted =
    c.len.ensures ∙ c.reverse.ensures.len ∙ sym c.deref.ensures.len ∙ ap length c.deref.ensures.value in
    IfOk-weaker c.ranges_between.result _ _
    (λ ranges between. led_by (names_by_ends names sorted) (indexes_in sorted) c.requires names ranges.items
    (ranges_found names sorted c.in_ok-firsts.firsts.items c.in_ok-lasts.lasts.items ranges.items first last
    (rw (c.deref-3.ensures.value, c.deref-4.ensures.value, count) at between)))
    c.ranges_between.ensures
