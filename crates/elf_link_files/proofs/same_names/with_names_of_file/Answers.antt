-- The names of one file: each comes with the end that the string table of the file has for it, so their ends are those of tails.
use Rattle.std.proofs.Common.{◌≡◌, ◌∙◌, ◌++◌, ◌∷◌, [], ℕ, List, ap, ap₂, arith, get_or, length, subst, sym}
use Rattle.std.proofs.lemmas.List.{length-map, map-append, map_more}
use Rattle.std.proofs.lemmas.List.Elements.{All-get_or}
use Rattle.elf_link_files.specs.Files.{object_at}
use Rattle.elf_link_files.specs.Rows.{site, site_at}
use Rattle.elf_link_files.specs.SameNames.{IsNamedIn, site_name, names_of_object}
use Rattle.elf_link_files.proofs.MarkedFiles.{object_is}
use Rattle.elf_link_files.proofs.SameNames.{from_more, name_there, tails_from}
use Rattle.elf_object_strings.specs.StringTable.{AreTails, texts}
use Rattle.elf_object_type.specs.Object.{ObjectValue}
use Rattle.elf_link_files.proofs.same_names.with_names_of_file.Goals as goal

pub loop-k-preserved : goal.loop-k-preserved
loop-k-preserved c =
    let fs = c.args.objects.now in
    let named = c.args.named in
    let sites = c.args.sites.now in
    let k = c.loop-k.k in
    let lt = c.loop-k-test.true in
    let own = texts c.loop-k.own.items in
    let p = site_at sites k in
    let others : List (List ℕ) = names_of_object (object_at fs (site_at sites 0).file) named in
    let there = All-get_or (IsNamedIn fs named) sites k (site 0 0) lt c.requires.there in
    let name : c.name_of.result.now ≡ site_name fs named p = c.name_of.ensures in
    let among : c.name_of.result.now ≡ get_or others p.index [] =
    name ∙ name_there fs named p there ∙
    ap (λ f. get_or (names_of_object (object_at fs f) named) p.index []) (c.requires.file k (omega arith) lt) in
    let more = ap texts c.in_ok-push.ensures.items ∙ map-append (λ n. n.now) c.loop-k.own.items (c.name_of.result ∷ []) in
    record {
      names = more ∙ ap₂ (λ (xs : List (List ℕ)) (x : List ℕ). xs ++ x ∷ []) c.loop-k.invariant.names name ∙
          sym (map_more (site_name fs named) sites k (site 0 0) lt);
      from = rw (more, among, c.in_ok-push-2.ensures.items, c.end_at.ensures)
          (from_more others c.ends_of-ends.result.now own c.loop-k.own_ends.items p.index c.loop-k.invariant.from);
    }

pub with_file-requires-clause-tails : goal.with_file-requires-clause-tails
with_file-requires-clause-tails c =
    let fs = c.args.objects.now in
    let named = c.args.named in
    let sites = c.args.sites.now in
    let file : ℕ = (site_at sites 0).file in
    let there = All-get_or (IsNamedIn fs named) sites 0 (site 0 0) c.requires.some c.requires.there in
    let is = object_is fs file c.index-objects-sites.result there.0 c.index-objects-sites.is in
    let tails : AreTails (names_of_object (object_at fs file) named) c.ends_of-ends.result.now =
    subst (λ (o : ObjectValue). AreTails (names_of_object o named) c.ends_of-ends.result.now) (sym is) c.ends_of-ends.ensures in
    rw (c.deref.ensures.value, c.deref-2.ensures.value)
    (tails_from (names_of_object (object_at fs file) named) c.ends_of-ends.result.now
    (texts c.loop-k.own.items) c.loop-k.own_ends.items tails c.loop-k.invariant.from)

pub with_file-requires-clause-all : goal.with_file-requires-clause-all
with_file-requires-clause-all c =
    ap length c.deref-2.ensures.value ∙ c.loop-k.invariant.from.all ∙ length-map c.loop-k.own.items (λ n. n.now) ∙
    sym (ap length c.deref.ensures.value)
