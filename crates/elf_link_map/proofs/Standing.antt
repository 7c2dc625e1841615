-- Outputs are apart, with their members inside, and each section that has an address is a member of just one, once. The members of output k
-- are the parts of the plan from its start on. Places ascend, so a member or output ends before the next begins.
use Rattle.std.proofs.Common.{◌≡◌, ℕ, ◌+◌, ◌<◌, ◌≤◌, List, [], ◌∷◌, ◌++◌, length, map, inl, inr, refl, sym, ◌∙◌, ap, subst, arith, ◌-◌}
use Rattle.std.proofs.Common.{get_or, take, zero, suc, length-append}
use Rattle.std.specs.Prelude.{Option, None, Some, slice_index}
use Rattle.std.specs.List.{flat_map}
use Rattle.std.proofs.lemmas.Bool.{cases_lt}
use Rattle.std.proofs.lemmas.List.{get_or-append-add, get_or-map, length-map, map-append}
use Rattle.std.proofs.lemmas.Simd.{map-map}
use Rattle.std.proofs.Math.ListN.{get_or-append}
use Rattle.std.proofs.lemmas.List.Concat.{get_or-flat_map}
use Rattle.elf_extent.proofs.Public.{above_earlier, above_from}
use Rattle.elf_extent.specs.Place.{end_of, Fits}
use Rattle.elf_link_files.proofs.Public.{site_is}
use Rattle.elf_link_files.specs.Files.{section_in}
use Rattle.elf_link_files.specs.Rows.{site, site_at, chosen_at, no_common}
use Rattle.elf_link_files.specs.declared.fault.Options.{Options}
use Rattle.elf_link_files.specs.declared.site.Chosen.{Chosen}
use Rattle.elf_link_files.specs.declared.site.Site.{Site}
use Rattle.elf_link_map.specs.LinkMap.{IsLinkMap, IsLinkPlan, IsMapOf, LinkMapValue, LinkPlan, link_parts}
use Rattle.elf_link_map.specs.Standing.{BeginsAt, ArePlacedApart, size_in, IsMemberAt, MembersStand}
use Rattle.elf_link_map.specs.Standing.{OutputsStand, member_address, member_at}
use Rattle.elf_link_map.specs.Standing.{member_part, no_member, or_zero, output_at, output_end}
use Rattle.elf_link_outputs.proofs.Public.{members_live, parts_long, all_flat, outputs_some, placed_once, start_next, within_all}
use Rattle.elf_link_outputs.specs.Outputs.{live, part_of, raised, AreOutputs, common_part, flat, output_parts, parts_of, placed, is_no_bits}
use Rattle.elf_link_outputs.specs.Outputs.{section_at_site}
use Rattle.elf_link_outputs.specs.Placed.{CommonValue, cell, common_at, IsOutput, OutputValue, member_of, members_at, start_of}
use Rattle.elf_link_outputs.specs.declared.placing.Member.{Member}
use Rattle.elf_object_type.specs.Object.{ObjectValue}

-- The parts of a link map are apart. Each live section and each common is one part of the plan, with its size, and places ascend; so of
-- two parts the one placed first ends where the other begins, or before.

-- ---- the sizes of the parts

abbrev pub size_at : List ObjectValue → Site → ℕ
size_at fs p = size_in fs p.file p.index

abbrev sizes : List (ℕ × ℕ) → List ℕ
sizes parts = map (λ p. p.0) parts

raised_sizes : (page : ℕ) (parts : List (ℕ × ℕ)) → sizes (raised page parts) ≡ sizes parts
raised_sizes page [] = refl
raised_sizes page (p ∷ parts) = refl

output_sizes : (fs : List ObjectValue) (page : ℕ) (oss : List (List Site)) →
    sizes (flat_map (output_parts fs page) oss) ≡ map (size_at fs) (flat oss)
output_sizes fs page [] = refl
output_sizes fs page (o ∷ oss) =
    map-append (λ (p : ℕ × ℕ). p.0) (output_parts fs page o) (flat_map (output_parts fs page) oss) ∙
    ap (λ (xs : List ℕ). xs ++ sizes (flat_map (output_parts fs page) oss))
    (raised_sizes page (map (part_of fs) o) ∙ map-map (λ (p : ℕ × ℕ). p.0) (part_of fs) o) ∙
    ap (λ (xs : List ℕ). map (size_at fs) o ++ xs) (output_sizes fs page oss) ∙
    sym (map-append (size_at fs) o (flat oss))

-- the part of a section that is placed has its size
pub part_size : (fs : List ObjectValue) (page : ℕ) (oss : List (List Site)) (cs : List Chosen) (k : ℕ) → k < length (flat oss) →
    slice_index (sizes (parts_of fs page (record { outputs = oss; commons = cs }))) k ≡ size_at fs (site_at (flat oss) k)
part_size fs page oss cs k lt =
    let own = flat_map (output_parts fs page) oss in
    let past = raised page (map common_part cs) in
    let same = output_sizes fs page oss in
    ap (λ (xs : List ℕ). slice_index xs k) (map-append (λ (p : ℕ × ℕ). p.0) own past ∙ ap (λ (xs : List ℕ). xs ++ sizes past) same) ∙
    get_or-append (map (size_at fs) (flat oss)) (sizes past) 0 k (let long = length-map (flat oss) (size_at fs) in omega arith) ∙
    get_or-map (size_at fs) (flat oss) k (site 0 0) 0 lt

-- the part of a common has its size
common_size : (fs : List ObjectValue) (page : ℕ) (oss : List (List Site)) (cs : List Chosen) (k : ℕ) → k < length cs →
    slice_index (sizes (parts_of fs page (record { outputs = oss; commons = cs }))) (length (flat oss) + k) ≡ (chosen_at cs k).size
common_size fs page oss cs k lt =
    let own = flat_map (output_parts fs page) oss in
    let past = raised page (map common_part cs) in
    let same = output_sizes fs page oss in
    let long = length-map (flat oss) (size_at fs) in
    let here : length (flat oss) + k ≡ length (map (size_at fs) (flat oss)) + k = omega arith in
    ap (λ (xs : List ℕ). slice_index xs (length (flat oss) + k))
    (map-append (λ (p : ℕ × ℕ). p.0) own past ∙ ap (λ (xs : List ℕ). xs ++ sizes past) same) ∙
    ap (λ (i : ℕ). slice_index (map (size_at fs) (flat oss) ++ sizes past) i) here ∙
    get_or-append-add (map (size_at fs) (flat oss)) (sizes past) k 0 ∙
    ap (λ (xs : List ℕ). slice_index xs k) (raised_sizes page (map common_part cs) ∙ map-map (λ (p : ℕ × ℕ). p.0) common_part cs) ∙
    get_or-map (λ (c : Chosen). c.size) cs k no_common 0 lt

-- ---- a section that has an address

same_some : (a b : ℕ) → ◌≡◌ {A = Option ℕ} (Some a) (Some b) → a ≡ b
same_some a b e = cc

-- section s of file f is placed at position k of a plan, and begins at a
pub record IsPartAt (l : LinkPlan) (f s a k : ℕ) : Type 0 where
  pub within : k < length (placed l.plan)
  pub here : site_at (placed l.plan) k ≡ site f s
  pub begins : slice_index l.places k ≡ a

placed_live : (fs : List ObjectValue) (oss : List (List Site)) → AreOutputs fs oss → (k : ℕ) → k < length (flat oss) →
    live fs (site_at (flat oss) k)
placed_live fs oss (ps, openers, mem) = all_flat (live fs) oss (λ i lt. members_live fs ps oss i mem lt)

pub stands : (opt : Options) (fs : List ObjectValue) (l : LinkPlan) (m : LinkMapValue) (f s a : ℕ) → IsLinkPlan opt fs l →
    IsMapOf opt fs l m →
    BeginsAt m f s a → (k : ℕ) × IsPartAt l f s a k
stands opt fs l m f s a is of at =
    let (k, lt, file, index) = of.addresses.only f s a at in
    let one = placed_live fs l.plan.outputs is.plan.outputs k lt in
    let here = site_is (site_at (placed l.plan) k) f s file index one.3 in (
      k,
      record {
        within = lt;
        here = here;
        begins = same_some (slice_index l.places k) a
            (sym (subst (λ (p : Site). cell m.addresses p.file p.index ≡ Some (slice_index l.places k)) here (of.addresses.placed k lt)) ∙
            at);
      },
    )

-- where it ends
ends : (opt : Options) (fs : List ObjectValue) (l : LinkPlan) (f s a k : ℕ) → IsPartAt l f s a k →
    end_of (link_parts fs opt l) l.places k ≡ a + size_in fs f s
ends opt fs l f s a k at =
    let begins = at.begins in
    let size = part_size fs opt.page l.plan.outputs l.plan.commons k at.within ∙ ap (size_at fs) at.here in
    omega arith

in_parts : (opt : Options) (fs : List ObjectValue) (l : LinkPlan) (f s a k : ℕ) → IsPartAt l f s a k → k < length (link_parts fs opt l)
in_parts opt fs l f s a k at =
    let within = at.within in
    let long = parts_long fs opt.page l.plan.outputs l.plan.commons in
    omega arith

-- of two sections the one that is placed first ends where the other begins, or before
ends_before : (opt : Options) (fs : List ObjectValue) (l : LinkPlan) (f s a j g t b k : ℕ) → IsLinkPlan opt fs l → IsPartAt l f s a j →
    IsPartAt l g t b k →
    j < k → a + size_in fs f s ≤ b
ends_before opt fs l f s a j g t b k is first second lt =
    let above = above_earlier (link_parts fs opt l) opt.base l.places j k is.least.fits lt (in_parts opt fs l g t b k second) in
    let end = ends opt fs l f s a j first in
    let begins = second.begins in
    omega arith

-- ---- a common

chosen_in : (opt : Options) (fs : List ObjectValue) (l : LinkPlan) (m : LinkMapValue) (k : ℕ) → IsMapOf opt fs l m → k < length m.commons →
    k < length l.plan.commons
chosen_in opt fs l m k of lt = let count = of.commons.count in omega arith

-- the common at position k is the part after all sections and k commons
pub common_begins : (opt : Options) (fs : List ObjectValue) (l : LinkPlan) (m : LinkMapValue) (k : ℕ) → IsMapOf opt fs l m →
    k < length m.commons →
    (common_at m.commons k).address ≡ slice_index l.places (length (placed l.plan) + k)
common_begins opt fs l m k of lt = ap (λ (c : CommonValue). c.address) (of.commons.each k (chosen_in opt fs l m k of lt))

common_ends : (opt : Options) (fs : List ObjectValue) (l : LinkPlan) (m : LinkMapValue) (k : ℕ) → IsMapOf opt fs l m →
    k < length m.commons →
    end_of (link_parts fs opt l) l.places (length (placed l.plan) + k) ≡ (common_at m.commons k).address + (common_at m.commons k).size
common_ends opt fs l m k of lt =
    let chosen = chosen_in opt fs l m k of lt in
    let begins = common_begins opt fs l m k of lt in
    let size = common_size fs opt.page l.plan.outputs l.plan.commons k chosen in
    let same = ap (λ (c : CommonValue). c.size) (of.commons.each k chosen) in
    omega arith

pub common_in_parts : (opt : Options) (fs : List ObjectValue) (l : LinkPlan) (m : LinkMapValue) (k : ℕ) → IsMapOf opt fs l m →
    k < length m.commons →
    length (placed l.plan) + k < length (link_parts fs opt l)
common_in_parts opt fs l m k of lt =
    let chosen = chosen_in opt fs l m k of lt in
    let long = parts_long fs opt.page l.plan.outputs l.plan.commons in
    omega arith

-- ---- the law

has_address : (o : Option ℕ) → (o ≡ None → ⊥) → (a : ℕ) × (o ≡ Some a)
has_address None some = absurd (some refl)
has_address (Some a) some = (a, refl)

pub parts_apart : (opt : Options) (fs : List ObjectValue) (m : LinkMapValue) → IsLinkMap opt fs m → ArePlacedApart fs m
parts_apart opt fs m (l, is, of) = record {
  addressed = λ f s. (
    (λ there. has_address (cell m.addresses f s) (λ none. (of.addresses.none f s).0 none there)),
    (λ (a, at). (
        let (k, here) = stands opt fs l m f s a is of at in
        subst (live fs) here.here (placed_live fs l.plan.outputs is.plan.outputs k here.within))),
  );
  within = λ f s a at. (
      let (k, here) = stands opt fs l m f s a is of at in
      let end = ends opt fs l f s a k here in
      let fits = of.fits k (in_parts opt fs l f s a k here) in
      omega arith);
  apart = λ f s a g t b one other. (
      let (j, first) = stands opt fs l m f s a is of one in
      let (k, second) = stands opt fs l m g t b is of other in
      elim (cases_lt j k) [
        | inl before ↦ inr (inl (ends_before opt fs l f s a j g t b k is first second before))
        | inr above ↦ elim (cases_lt k j) [
          | inl past ↦ inr (inr (ends_before opt fs l g t b k f s a j is second first past))
          | inr below ↦ (
              let same : j ≡ k = omega arith in
              let equal = sym first.here ∙ ap (site_at (placed l.plan)) same ∙ second.here in
              inl (ap (λ (p : Site). p.file) equal, ap (λ (p : Site). p.index) equal))
        ]
      ]);
  commons_within = λ k lt. (
      let end = common_ends opt fs l m k of lt in
      let fits = of.fits (length (placed l.plan) + k) (common_in_parts opt fs l m k of lt) in
      omega arith);
  commons_after = λ f s a k at lt. (
      let (j, here) = stands opt fs l m f s a is of at in
      let before : j < length (placed l.plan) + k = (let within = here.within in omega arith) in
      let above = above_earlier (link_parts fs opt l) opt.base l.places j (length (placed l.plan) + k) is.least.fits before
      (common_in_parts opt fs l m k of lt) in
      let end = ends opt fs l f s a j here in
      let begins = common_begins opt fs l m k of lt in
      omega arith);
  commons_apart = λ j k before lt. (
      let first = length (placed l.plan) in
      let earlier : first + j < first + k = omega arith in
      let above = above_earlier (link_parts fs opt l) opt.base l.places (first + j) (first + k) is.least.fits earlier
      (common_in_parts opt fs l m k of lt) in
      let end = common_ends opt fs l m j of (omega arith) in
      let begins = common_begins opt fs l m k of lt in
      omega arith);
}

-- ---- positions in a list of lists

flat_at : (oss : List (List Site)) (k i : ℕ) → k < length oss → i < length (members_at oss k) →
    site_at (flat oss) (start_of oss k + i) ≡ site_at (members_at oss k) i
flat_at oss k i k_in i_in = get_or-flat_map (λ (ms : List Site). ms) oss k i [] (site 0 0) k_in i_in

-- each position of the whole is one of a list
flat_split : (oss : List (List Site)) (n : ℕ) → n < length (flat oss) →
    (k i : ℕ) × (k < length oss) × (i < length (members_at oss k)) × (n ≡ start_of oss k + i)
flat_split [] n lt = absurd (omega arith)
flat_split (o ∷ oss) n lt = elim (cases_lt n (length o)) [
  | inl below ↦ (0, n, omega arith, below, omega arith)
  | inr above ↦ (
      let (k, i, k_in, i_in, at) = flat_split oss (n - length o) (omega (arith, length-append o (flat oss))) in
      (suc k, i, omega arith, i_in, omega (arith, length-append o (flat (take k oss)))))
]

-- a list begins where each one before it has ended, or after that
starts_ascend : (oss : List (List Site)) (j k : ℕ) → j < k → k < length oss → start_of oss j + length (members_at oss j) ≤ start_of oss k
starts_ascend oss j zero lt within = absurd (omega arith)
starts_ascend oss j (suc k) lt within = elim (cases_lt j k) [
  | inl below ↦ (let earlier = starts_ascend oss j k below (omega arith) in let next = start_next oss k (omega arith) in omega arith)
  | inr above ↦ (
      let same : k ≡ j = omega arith in
      let next = start_next oss k (omega arith) in
      subst (λ (n : ℕ). start_of oss n + length (members_at oss n) ≤ start_of oss (suc k)) same (omega arith))
]

-- places that ascend fit parts that may be anywhere
fits_by : {A : Type 0} (size place : A → ℕ) (none : A) (xs : List A) (from : ℕ) → (0 < length xs → from ≤ place (get_or xs 0 none)) →
    ((i : ℕ) → suc i < length xs → place (get_or xs i none) + size (get_or xs i none) ≤ place (get_or xs (suc i) none)) →
    Fits (map (λ x. (size x, 1)) xs) from (map place xs)
fits_by size place none [] from first step = tt
fits_by size place none (x ∷ xs) from first step = (
  omega arith,
  first (omega arith),
  fits_by size place none xs (place x + size x) (λ some. step 0 (omega arith)) (λ i lt. step (suc i) (omega arith)),
)

begins_here : (o : Option ℕ) (a : ℕ) → o ≡ Some a → o ≡ Some (or_zero o)
begins_here o a at = at ∙ ap Some (sym (ap or_zero at))

-- ---- the members of an output

-- member i of output k is this section, which begins and ends where the part so far after the start of the output does
record IsPartOf (opt : Options) (fs : List ObjectValue) (l : LinkPlan) (m : LinkMapValue) (k i : ℕ) (p : Member) : Type 0 where
  same : member_at (output_at m k) i ≡ p
  here : site_at (members_at l.plan.outputs k) i ≡ site p.file p.section
  part : start_of l.plan.outputs k + i < length (flat l.plan.outputs)
  alive : live fs (site p.file p.section)
  begins : BeginsAt m p.file p.section (slice_index l.places (start_of l.plan.outputs k + i))
  ends : end_of (link_parts fs opt l) l.places (start_of l.plan.outputs k + i) ≡
      slice_index l.places (start_of l.plan.outputs k + i) + size_in fs p.file p.section

module _ (opt : Options) (fs : List ObjectValue) (l : LinkPlan) (m : LinkMapValue) (is : IsLinkPlan opt fs l)
    (of : IsMapOf opt fs l m) where
  abbrev outputs : List (List Site)
  outputs = l.plan.outputs

  abbrev start : ℕ → ℕ
  start k = start_of outputs k

  abbrev count : ℕ → ℕ
  count k = length (members_at outputs k)

  output_in : (k : ℕ) → k < length m.outputs → k < length outputs
  output_in k lt = (let many = of.outputs.count in omega arith)

  output_is : (k : ℕ) → k < length m.outputs → IsOutput fs (members_at outputs k) (link_parts fs opt l) l.places (start k) (output_at m k)
  output_is k lt = of.outputs.each k (output_in k lt)

  many_members : (k : ℕ) → k < length m.outputs → length (output_at m k).members ≡ count k
  many_members k lt = ap (λ (ms : List Member). length ms) (output_is k lt).members ∙ length-map (members_at outputs k) member_of

  some_members : (k : ℕ) → k < length m.outputs → 0 < count k
  some_members k lt = (let (ps, openers, mem) = is.plan.outputs in outputs_some fs ps outputs openers mem k (output_in k lt))

  alive_at : (k i : ℕ) → k < length m.outputs → i < count k → live fs (site_at (members_at outputs k) i)
  alive_at k i lt i_in = (let (ps, openers, mem) = is.plan.outputs in members_live fs ps outputs k mem (output_in k lt) i i_in)

  member_is : (k i : ℕ) → k < length m.outputs → i < count k → member_at (output_at m k) i ≡ member_of (site_at (members_at outputs k) i)
  member_is k i lt i_in =
      ap (λ (ms : List Member). get_or ms i no_member) (output_is k lt).members ∙
      get_or-map member_of (members_at outputs k) i (site 0 0) no_member i_in

  part_in : (k i : ℕ) → k < length m.outputs → i < count k → start k + i < length (flat outputs)
  part_in k i lt i_in = (let whole = within_all outputs k (output_in k lt) in omega arith)

  all_parts : (n : ℕ) → n < length (flat outputs) → n < length (link_parts fs opt l)
  all_parts n lt = (let long = parts_long fs opt.page outputs l.plan.commons in omega arith)

  part_at : (k i : ℕ) → k < length m.outputs → i < count k → IsPartOf opt fs l m k i (member_of (site_at (members_at outputs k) i))
  part_at k i lt i_in =
      let p = site_at (members_at outputs k) i in
      let alive = alive_at k i lt i_in in
      let here : p ≡ site p.file p.index = site_is p p.file p.index refl refl alive.3 in
      let part = part_in k i lt i_in in
      let at = flat_at outputs k i (output_in k lt) i_in in
      record {
        same = member_is k i lt i_in;
        here = here;
        part = part;
        alive = subst (live fs) here alive;
        begins = subst (λ (q : Site). cell m.addresses q.file q.index ≡ Some (slice_index l.places (start k + i))) at
            (of.addresses.placed (start k + i) part);
        ends = ap (λ (n : ℕ). slice_index l.places (start k + i) + n)
            (part_size fs opt.page outputs l.plan.commons (start k + i) part ∙ ap (size_at fs) at);
      }

  -- the same, of the member as the map has it
  stands_in : (k i : ℕ) → k < length m.outputs → i < length (output_at m k).members → IsPartOf opt fs l m k i (member_at (output_at m k) i)
  stands_in k i lt i_in =
      let many = many_members k lt in
      let at = part_at k i lt (omega arith) in
      subst (λ (p : Member). IsPartOf opt fs l m k i p) (sym at.same) at

  address_is : (k i : ℕ) → k < length m.outputs → i < length (output_at m k).members →
      member_address m (member_at (output_at m k) i) ≡ slice_index l.places (start k + i)
  address_is k i lt i_in = ap or_zero (stands_in k i lt i_in).begins

  -- all members are of one kind, that of the section that opens the output
  kind_of : (k i : ℕ) → k < length m.outputs → i < count k →
      is_no_bits (section_at_site fs (site_at (members_at outputs k) i)).body ≡ (output_at m k).no_bits
  kind_of k i lt i_in =
      let (ps, openers, mem) = is.plan.outputs in
      let many = mem.count in
      let each = mem.each k (let within = output_in k lt in omega arith) in
      (each.each i i_in).1.2 ∙ sym (each.each 0 (some_members k lt)).1.2 ∙ sym (output_is k lt).no_bits

  -- the last part of an output
  abbrev last_of : ℕ → ℕ
  last_of k = start k + count k - 1

  last_in : (k : ℕ) → k < length m.outputs → last_of k < length (link_parts fs opt l)
  last_in k lt = (let some = some_members k lt in all_parts (last_of k) (let whole = within_all outputs k (output_in k lt) in omega arith))

  ends_at : (k : ℕ) → k < length m.outputs → output_end m k ≡ end_of (link_parts fs opt l) l.places (last_of k)
  ends_at k lt = (output_is k lt).end

  members_order : (k : ℕ) → k < length m.outputs →
      Fits (map (member_part fs) (output_at m k).members) (output_at m k).address (map (member_address m) (output_at m k).members)
  members_order k lt =
      let o = output_at m k in
      let begins = (output_is k lt).address in
      fits_by (λ (p : Member). size_in fs p.file p.section) (member_address m) no_member o.members o.address
      (λ some. (
      let first = address_is k 0 lt some in
      let same = ap (λ (n : ℕ). slice_index l.places n) (let zero_is : start k + 0 ≡ start k = omega arith in zero_is) in
      omega arith))
      (λ i below. (
      let here = address_is k i lt (omega arith) in
      let next = address_is k (suc i) lt below in
      let at = stands_in k (suc i) lt below in
      let ends = (stands_in k i lt (omega arith)).ends in
      let above = above_earlier (link_parts fs opt l) opt.base l.places (start k + i) (start k + suc i) is.least.fits (omega arith)
      (all_parts (start k + suc i) at.part) in
      omega arith))

  members_last : (k : ℕ) → k < length m.outputs → output_end m k ≡
      end_of (map (member_part fs) (output_at m k).members) (map (member_address m) (output_at m k).members)
      (length (output_at m k).members - 1)
  members_last k lt =
      let o = output_at m k in
      let many = many_members k lt in
      let some = some_members k lt in
      let n = length o.members - 1 in
      let within : n < length o.members = omega arith in
      let here = stands_in k n lt within in
      let place = address_is k n lt within in
      let listed = get_or-map (member_address m) o.members n no_member 0 within in
      let sizes = map-map (λ (q : ℕ × ℕ). q.0) (member_part fs) o.members in
      let size = ap (λ (xs : List ℕ). slice_index xs n) sizes ∙
      get_or-map (λ (p : Member). size_in fs p.file p.section) o.members n no_member 0 within in
      let same : last_of k ≡ start k + n = omega arith in
      let at = ap (λ (i : ℕ). end_of (link_parts fs opt l) l.places i) same in
      let ends = here.ends in
      let whole = ends_at k lt in
      omega arith

  members_stand : (k : ℕ) → k < length m.outputs → MembersStand fs m (output_at m k)
  members_stand k lt =
      let many = many_members k lt in
      let some = some_members k lt in
      record {
        some = omega arith;
        live = λ i i_in. (stands_in k i lt i_in).alive;
        begins = λ i i_in. begins_here _ _ (stands_in k i lt i_in).begins;
        kind = λ i i_in. subst (λ (p : Member). is_no_bits (section_in fs p.file p.section).body ≡ (output_at m k).no_bits)
            (sym (member_is k i lt (omega arith))) (kind_of k i lt (omega arith));
        first = (
            let here = address_is k 0 lt (omega arith) in
            let same = ap (λ (n : ℕ). slice_index l.places n) (let zero_is : start k + 0 ≡ start k = omega arith in zero_is) in
            let begins = (output_is k lt).address in
            omega arith);
        order = members_order k lt;
        last = members_last k lt;
      }

  -- ---- the law

  holds : (f s a : ℕ) → BeginsAt m f s a → (k i : ℕ) × IsMemberAt m f s k i
  holds f s a at =
      let (n, here) = stands opt fs l m f s a is of at in
      let (k, i, k_in, i_in, split) = flat_split outputs n here.within in
      let lt : k < length m.outputs = (let many = of.outputs.count in omega arith) in
      let found = sym (flat_at outputs k i k_in i_in) ∙ ap (site_at (flat outputs)) (sym split) ∙ here.here in
      (k, i, (lt, (let many = many_members k lt in omega arith), member_is k i lt i_in ∙ ap member_of found))

  -- no two places of the plan have one section, and each place is one of one output
  one_place : (n p : ℕ) → n < length (flat outputs) → p < length (flat outputs) → site_at (flat outputs) n ≡ site_at (flat outputs) p →
      n ≡ p
  one_place n p n_in p_in same =
      let (ps, openers, mem) = is.plan.outputs in
      let apart = placed_once fs ps outputs openers mem in
      elim (cases_lt n p) [
        | inl below ↦ absurd (apart n p below p_in same)
        | inr above ↦ elim (cases_lt p n) [ inl below ↦ absurd (apart p n below n_in (sym same)) | inr equal ↦ omega arith ]
      ]

  one_output : (k i l j : ℕ) → k < length m.outputs → i < count k → l < length m.outputs → j < count l → start k + i ≡ start l + j →
      (k ≡ l) × (i ≡ j)
  one_output k i l j k_in i_in l_in j_in same = elim (cases_lt k l) [
    | inl below ↦ (let ascend = starts_ascend outputs k l below (output_in l l_in) in absurd (omega arith))
    | inr above ↦ elim (cases_lt l k) [
      | inl below ↦ (let ascend = starts_ascend outputs l k below (output_in k k_in) in absurd (omega arith))
      | inr equal ↦ (let one : k ≡ l = omega arith in (one, (let starts = ap start one in omega arith)))
    ]
  ]

  placed_at : (f s k i : ℕ) → IsMemberAt m f s k i → site_at (flat outputs) (start k + i) ≡ site f s
  placed_at f s k i (k_in, i_in, same) =
      flat_at outputs k i (output_in k k_in) (let many = many_members k k_in in omega arith) ∙ (stands_in k i k_in i_in).here
      ∙ ap (λ (p : Member). site p.file p.section) same

  once : (f s k i l j : ℕ) → IsMemberAt m f s k i → IsMemberAt m f s l j → (k ≡ l) × (i ≡ j)
  once f s k i l j one other =
      let (k_in, i_in, is_one) = one in
      let (l_in, j_in, is_other) = other in
      let same = one_place (start k + i) (start l + j) (stands_in k i k_in i_in).part (stands_in l j l_in j_in).part
      (placed_at f s k i one ∙ sym (placed_at f s l j other)) in
      let many = many_members k k_in in
      let more = many_members l l_in in
      one_output k i l j k_in (omega arith) l_in (omega arith) same

  past : (k n : ℕ) → k < length m.outputs → last_of k < n → n < length (link_parts fs opt l) → output_end m k ≤ slice_index l.places n
  past k n lt before within =
      let above = above_earlier (link_parts fs opt l) opt.base l.places (last_of k) n is.least.fits before within in
      let ends = ends_at k lt in
      omega arith

  pub stand : OutputsStand fs m
  stand = record {
    members = members_stand;
    holds = holds;
    once = once;
    within = λ k lt. (let ends = ends_at k lt in let fits = of.fits (last_of k) (last_in k lt) in omega arith);
    apart = λ j k before lt. (
        let some = some_members j (omega arith) in
        let ascend = starts_ascend outputs j k before (output_in k lt) in
        let later : last_of j < start k = omega arith in
        let there = all_parts (start k)
        (let more = some_members k lt in let whole = within_all outputs k (output_in k lt) in omega arith) in
        let above = past j (start k) (omega arith) later there in
        let begins = (output_is k lt).address in
        omega arith);
    commons_after = λ j k lt k_in. (
        let some = some_members j lt in
        let whole = within_all outputs j (output_in j lt) in
        let above = past j (length (placed l.plan) + k) lt (omega arith) (common_in_parts opt fs l m k of k_in) in
        let begins = common_begins opt fs l m k of k_in in
        omega arith);
  }

pub outputs_stand : (opt : Options) (fs : List ObjectValue) (m : LinkMapValue) → IsLinkMap opt fs m → OutputsStand fs m
outputs_stand opt fs m (l, is, of) = stand opt fs l m is of

-- ---- a member lies in its output

module _ (fs : List ObjectValue) (m : LinkMapValue) (o : OutputValue) (stand : MembersStand fs m o) where
  abbrev parts : List (ℕ × ℕ)
  parts = map (member_part fs) o.members

  abbrev places : List ℕ
  places = map (member_address m) o.members

  member_begins : (i : ℕ) → i < length o.members → slice_index places i ≡ member_address m (member_at o i)
  member_begins i lt = get_or-map (member_address m) o.members i no_member 0 lt

  member_ends : (i : ℕ) → i < length o.members →
      end_of parts places i ≡ member_address m (member_at o i) + size_in fs (member_at o i).file (member_at o i).section
  member_ends i lt =
      let begins = member_begins i lt in
      let sizes = map-map (λ (q : ℕ × ℕ). q.0) (member_part fs) o.members in
      let size = ap (λ (xs : List ℕ). slice_index xs i) sizes ∙
      get_or-map (λ (p : Member). size_in fs p.file p.section) o.members i no_member 0 lt in
      omega arith

  pub member_within : (i : ℕ) → i < length o.members → (o.address ≤ member_address m (member_at o i)) ×
      (member_address m (member_at o i) + size_in fs (member_at o i).file (member_at o i).section ≤ o.address + o.length)
  member_within i lt =
      let many = length-map o.members (member_part fs) in
      let from = above_from parts o.address places i stand.order (omega arith) in
      let begins = member_begins i lt in
      let ends = member_ends i lt in
      let last = stand.last in (
        omega arith,
        elim (cases_lt i (length o.members - 1)) [
          | inl before ↦ (
              let above = above_earlier parts o.address places i (length o.members - 1) stand.order before (omega arith) in
              let more : slice_index places (length o.members - 1) ≤ end_of parts places (length o.members - 1) = omega arith in
              omega arith)
          | inr past ↦ (
              let same : i ≡ length o.members - 1 = omega arith in
              let at = ap (λ (n : ℕ). end_of parts places n) same in
              omega arith)
        ],
      )
