-- Group by group: those so far are split by whether their openers have bits, and the rest is left (`AreSplit`). At the end the ones without
-- bits go after the others.
use Rattle.std.proofs.Common.{◌≡◌, ◌∷◌, map, subst, rules, true, false}
use Rattle.std.proofs.lemmas.List.{get_or_read, map-append}
use Rattle.elf_link_files.specs.Rows.{site, site_at}
use Rattle.indexmap.specs.IndexMap.{values}
use Rattle.elf_link_outputs.specs.Outputs.{AreSplit, is_no_bits, section_at_site}
use Rattle.elf_link_outputs.proofs.Grouped.{split_all, split_bits, split_first, split_no_bits, split_none}
use Rattle.elf_link_outputs.proofs.outputs.bits_first.Goals as goal

pub loop-members-init : goal.loop-members-init
loop-members-init g c = (
  tt,
  tt,
  rw (
    c.into_iter-members-iterator.ensures.into_iter_gives,
    c.into_values-members-items.ensures.rest,
    c.new-outputs.ensures.items,
    c.new-later.ensures.items,
  )
      (split_none c.args.objects.now (map (λ ms. ms.items) (values c.args.groups)) c.requires),
)

pub index-opener-requires : goal.index-opener-requires
index-opener-requires g c =
    let ms = c.in-Some.members.items in
    let rest = map (λ ms. ms.items) c.next.new.self in
    let outputs = map (λ ms. ms.items) c.loop-members.outputs.items in
    let later = map (λ ms. ms.items) c.loop-members.later.items in
    let split : AreSplit c.args.objects.now (ms ∷ rest) outputs later =
    subst (λ its. AreSplit c.args.objects.now (map (λ ms. ms.items) its) outputs later) c.in-Some.ensures.steps
    c.loop-members.invariant.2 in
    let first = split_first c.args.objects.now ms rest outputs later split in
    let some = first.0 in
    search rules

pub section_of-requires-clause-file : goal.section_of-requires-clause-file
section_of-requires-clause-file g c =
    let ms = c.in-Some.members.items in
    let rest = map (λ ms. ms.items) c.next.new.self in
    let outputs = map (λ ms. ms.items) c.loop-members.outputs.items in
    let later = map (λ ms. ms.items) c.loop-members.later.items in
    let split : AreSplit c.args.objects.now (ms ∷ rest) outputs later =
    subst (λ its. AreSplit c.args.objects.now (map (λ ms. ms.items) its) outputs later) c.in-Some.ensures.steps
    c.loop-members.invariant.2 in
    let first = split_first c.args.objects.now ms rest outputs later split in
    let opener : c.index-opener.result.now ≡ site_at ms 0 = get_or_read ms _ _ first.0 c.index-opener.ensures (site 0 0) in
    rw opener first.1.0

pub section_of-requires-clause-index : goal.section_of-requires-clause-index
section_of-requires-clause-index g c =
    let ms = c.in-Some.members.items in
    let rest = map (λ ms. ms.items) c.next.new.self in
    let outputs = map (λ ms. ms.items) c.loop-members.outputs.items in
    let later = map (λ ms. ms.items) c.loop-members.later.items in
    let split : AreSplit c.args.objects.now (ms ∷ rest) outputs later =
    subst (λ its. AreSplit c.args.objects.now (map (λ ms. ms.items) its) outputs later) c.in-Some.ensures.steps
    c.loop-members.invariant.2 in
    let first = split_first c.args.objects.now ms rest outputs later split in
    let opener : c.index-opener.result.now ≡ site_at ms 0 = get_or_read ms _ _ first.0 c.index-opener.ensures (site 0 0) in
    rw opener first.1.1

pub loop-members-preserved-in-Continue-1 : goal.loop-members-preserved-in-Continue-1
loop-members-preserved-in-Continue-1 g c =
    let ms = c.in-Some.members.items in
    let rest = map (λ ms. ms.items) c.next.new.self in
    let outputs = map (λ ms. ms.items) c.loop-members.outputs.items in
    let later = map (λ ms. ms.items) c.loop-members.later.items in
    let split : AreSplit c.args.objects.now (ms ∷ rest) outputs later =
    subst (λ its. AreSplit c.args.objects.now (map (λ ms. ms.items) its) outputs later) c.in-Some.ensures.steps
    c.loop-members.invariant.2 in
    let first = split_first c.args.objects.now ms rest outputs later split in
    let opener : c.index-opener.result.now ≡ site_at ms 0 = get_or_read ms _ _ first.0 c.index-opener.ensures (site 0 0) in
    let kind : is_no_bits (section_at_site c.args.objects.now c.index-opener.result.now).body ≡ true = search rules in (
      tt,
      tt,
      rw (c.in_ok-push.ensures.items, map-append)
          (split_no_bits c.args.objects.now ms rest outputs later (rw opener at kind) split),
    )

pub loop-members-preserved : goal.loop-members-preserved
loop-members-preserved g c =
    let ms = c.in-Some.members.items in
    let rest = map (λ ms. ms.items) c.next.new.self in
    let outputs = map (λ ms. ms.items) c.loop-members.outputs.items in
    let later = map (λ ms. ms.items) c.loop-members.later.items in
    let split : AreSplit c.args.objects.now (ms ∷ rest) outputs later =
    subst (λ its. AreSplit c.args.objects.now (map (λ ms. ms.items) its) outputs later) c.in-Some.ensures.steps
    c.loop-members.invariant.2 in
    let first = split_first c.args.objects.now ms rest outputs later split in
    let opener : c.index-opener.result.now ≡ site_at ms 0 = get_or_read ms _ _ first.0 c.index-opener.ensures (site 0 0) in
    let kind : is_no_bits (section_at_site c.args.objects.now c.index-opener.result.now).body ≡ false = search rules in
    (tt, tt, rw (c.in_ok-push-2.ensures.items, map-append) (split_bits c.args.objects.now ms rest outputs later (rw opener at kind) split))

pub returns : goal.returns
returns g c =
    let end : c.loop-members.members-iterator ≡ _ = c.in-None.ensures.steps.0 in
    rw (c.in_ok-append.ensures.items, map-append)
    (split_all c.args.objects.now (map (λ ms. ms.items) c.loop-members.outputs.items) (map (λ ms. ms.items) c.loop-members.later.items)
    (subst (λ its. AreSplit c.args.objects.now (map (λ ms. ms.items) its) (map (λ ms. ms.items) c.loop-members.outputs.items)
    (map (λ ms. ms.items) c.loop-members.later.items))
    end c.loop-members.invariant.2))
