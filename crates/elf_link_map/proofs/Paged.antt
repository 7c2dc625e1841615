-- If no rule is broken and the files are objects, the page is a power of two. Each output and the first common begin at a multiple of it.
-- The first part of each has the largest alignment of its parts and the page. That is a power of two no smaller than the page, so a
-- multiple of it.
use Rattle.std.proofs.Common.{◌≡◌, ◌≢◌, ℕ, ◌+◌, ◌-◌, ◌%◌, ◌^◌, ◌<◌, ◌≤◌, ◌⊎◌, List, [], ◌∷◌, get_or, length, map, take, zero, suc, inl, inr}
use Rattle.std.proofs.Common.{refl, sym, ◌∙◌, ap, subst, arith}
use Rattle.std.specs.Prelude.{None, fold, max, slice_index}
use Rattle.std.specs.Int.{IsPowerOfTwo}
use Rattle.std.specs.List.{flat_map}
use Rattle.std.proofs.lemmas.Bool.{cases_lt}
use Rattle.std.proofs.lemmas.List.{get_or-append-add, get_or-map, length-map}
use Rattle.std.proofs.lemmas.List.Concat.{get_or-flat_map}
use Rattle.std.proofs.lemmas.Nat.{pow_below, pow_pos}
use Rattle.std.proofs.Math.ListN.{get_or-append}
use Rattle.std.proofs.Math.Nat.{le-max_left, max-eq_left, max-eq_right, zero-mod}
use Rattle.std.proofs.Math.Pow.{mod-mod-pow}
use Rattle.elf_extent.specs.Place.{Fits, IsMultiple}
use Rattle.elf_image_rules.proofs.Public.{is_alignment}
use Rattle.elf_object_type.specs.Object.{ObjectValue}
use Rattle.elf_object_type.proofs.Public.{object_rules_kept}
use Rattle.elf_link_files.specs.declared.fault.Options.{Options}
use Rattle.elf_link_files.specs.declared.site.Site.{Site}
use Rattle.elf_link_files.specs.Rows.{no_common, site, site_at, FirstAt}
use Rattle.elf_link_files.specs.Files.{object_at}
use Rattle.elf_link_names.specs.Binds.{input_rules}
use Rattle.elf_link_outputs.specs.Outputs.{live, part_of, raised, common_part, output_parts, placed}
use Rattle.elf_link_outputs.specs.Placed.{common_at, members_at, start_of}
use Rattle.elf_link_outputs.proofs.Public.{length-outputs, length-raised, members_live, outputs_some, parts_long, within_all}
use Rattle.elf_link_map.specs.LinkMap.{FirstOfLink, IsLinkMap, IsLinkPlan, IsMapOf, LinkMapValue, LinkPlan, link_parts}
use Rattle.elf_link_map.specs.Standing.{ArePaged, AreObjects, output_at}
use Rattle.elf_link_map.proofs.Standing.{common_begins, common_in_parts}

-- ---- multiples of powers of two

-- a multiple of a power of two is one of each that is no larger
divides : (page align x : ℕ) → IsPowerOfTwo page → IsPowerOfTwo align → page ≤ align → x % align ≡ 0 → x % page ≡ 0
divides page align x (i, page_is) (j, align_is) le multiple = elim (cases_lt j i) [
  | inl below ↦ absurd (let more = pow_below j i below in omega arith)
  | inr above ↦ (
      let whole : (j - i) + i ≡ j = omega arith in
      let zero_is : x % 2 ^ j ≡ 0 = subst (λ (n : ℕ). x % n ≡ 0) align_is multiple in
      subst (λ (n : ℕ). x % n ≡ 0) (sym page_is)
      (sym (mod-mod-pow x (j - i) i) ∙ ap (λ (n : ℕ). x % 2 ^ n % 2 ^ i) whole ∙ ap (λ (n : ℕ). n % 2 ^ i) zero_is ∙ zero-mod (2 ^ i)))
]

multiple_of : (align x : ℕ) → IsPowerOfTwo align → IsMultiple align x → x % align ≡ 0
multiple_of zero x (k, is) multiple = absurd (let some = pow_pos k in omega arith)
multiple_of (suc n) x power multiple = multiple

-- an alignment: 0, or a power of two
abbrev IsZeroOrPower : ℕ → Type 0
IsZeroOrPower n = (n ≡ 0) ⊎ IsPowerOfTwo n

max_power : (a b : ℕ) → IsPowerOfTwo a → IsZeroOrPower b → IsPowerOfTwo (max a b)
max_power a b power other = elim (cases_lt a b) [
  | inl below ↦ elim other [
    | inl none ↦ absurd (omega arith)
    | inr also ↦ subst IsPowerOfTwo (sym (max-eq_right {n = a} {m = b} (omega arith))) also
  ]
  | inr above ↦ subst IsPowerOfTwo (sym (max-eq_left {n = a} {m = b} above)) power
]

abbrev largest : ℕ → List (ℕ × ℕ) → ℕ
largest page parts = fold (λ a q. max a q.1) page parts

abbrev HavePowers : List (ℕ × ℕ) → Type 0
HavePowers parts = (i : ℕ) → i < length parts → IsZeroOrPower (get_or parts i (0, 0)).1

largest_power : (parts : List (ℕ × ℕ)) (page : ℕ) → IsPowerOfTwo page → HavePowers parts →
    IsPowerOfTwo (largest page parts) × (page ≤ largest page parts)
largest_power [] page power powers = (power, omega arith)
largest_power (p ∷ parts) page power powers =
    let (whole, le) =
    largest_power parts (max page p.1) (max_power page p.1 power (powers 0 (omega arith))) (λ i lt. powers (suc i) (omega arith)) in
    let more = le-max_left page p.1 in
    (whole, omega arith)

place_multiple : (parts : List (ℕ × ℕ)) (from : ℕ) (places : List ℕ) (k : ℕ) → Fits parts from places → k < length parts →
    IsMultiple (get_or parts k (0, 0)).1 (slice_index places k)
place_multiple [] from places k fits lt = absurd (omega arith)
place_multiple (p ∷ parts) from [] k fits lt = absurd fits
place_multiple (p ∷ parts) from (x ∷ places) zero fits lt = fits.0
place_multiple (p ∷ parts) from (x ∷ places) (suc k) fits lt = place_multiple parts (x + p.0) places k fits.2 (omega arith)

-- a place at which the first of some raised parts is
raised_multiple : (page : ℕ) (parts : List (ℕ × ℕ)) (x : ℕ) → 0 < length parts → IsPowerOfTwo page → HavePowers parts →
    IsMultiple (get_or (raised page parts) 0 (0, 0)).1 x → x % page ≡ 0
raised_multiple page [] x some power powers multiple = absurd (omega arith)
raised_multiple page (p ∷ parts) x some power powers multiple =
    let (whole, le) = largest_power (p ∷ parts) page power powers in
    divides page (largest page (p ∷ parts)) x power whole le (multiple_of (largest page (p ∷ parts)) x whole multiple)

module _ (opt : Options) (fs : List ObjectValue) (l : LinkPlan) (m : LinkMapValue) (is : IsLinkPlan opt fs l) (of : IsMapOf opt fs l m)
    (clean : FirstAt (input_rules opt fs) None) (objects : AreObjects fs) where
  abbrev outputs : List (List Site)
  outputs = l.plan.outputs

  abbrev own : List (ℕ × ℕ)
  own = flat_map (output_parts fs opt.page) outputs

  page_power : IsPowerOfTwo opt.page
  page_power = elim (is_alignment opt.page (λ wrong. clean.0 (site 0 0) (inl (inr wrong), refl, refl, refl))) [
    | inl none ↦ absurd (clean.0 (site 0 0) (inl (inl none), refl, refl, refl))
    | inr power ↦ power
  ]

  part_multiple : (n : ℕ) → n < length (link_parts fs opt l) → IsMultiple (get_or (link_parts fs opt l) n (0, 0)).1 (slice_index l.places n)
  part_multiple n lt = place_multiple (link_parts fs opt l) opt.base l.places n is.least.fits lt

  -- ---- outputs

  section_power : (p : Site) → live fs p → IsZeroOrPower (part_of fs p).1
  section_power p alive = ((object_rules_kept (object_at fs p.file) (objects p.file alive.0)).alignments p.index alive.1).alignment

  output_powers : (k : ℕ) → k < length outputs → HavePowers (map (part_of fs) (members_at outputs k))
  output_powers k lt i i_in =
      let (ps, openers, mem) = is.plan.outputs in
      let ms = members_at outputs k in
      let long = length-map ms (part_of fs) in
      let within : i < length ms = omega arith in
      subst (λ (q : ℕ × ℕ). IsZeroOrPower q.1) (sym (get_or-map (part_of fs) ms i (site 0 0) (0, 0) within))
      (section_power (site_at ms i) (members_live fs ps outputs k mem lt i within))

  -- the first part of an output
  first_part : (k : ℕ) → k < length outputs → 0 < length (members_at outputs k) →
      get_or (link_parts fs opt l) (start_of outputs k) (0, 0) ≡ get_or (output_parts fs opt.page (members_at outputs k)) 0 (0, 0)
  first_part k lt some =
      let whole = within_all outputs k lt in
      let long = length-outputs fs opt.page outputs in
      let before = length-outputs fs opt.page (take k outputs) in
      let start : start_of outputs k ≡ length (flat_map (output_parts fs opt.page) (take k outputs)) + 0 = omega arith in
      let own_long = length-raised opt.page (map (part_of fs) (members_at outputs k)) in
      let many = length-map (members_at outputs k) (part_of fs) in
      get_or-append own (raised opt.page (map common_part l.plan.commons)) (0, 0) (start_of outputs k) (omega arith) ∙
      ap (λ (n : ℕ). get_or own n (0, 0)) start ∙
      get_or-flat_map (output_parts fs opt.page) outputs k 0 [] (0, 0) lt (omega arith)

  outputs_paged : (k : ℕ) → k < length m.outputs → (output_at m k).address % opt.page ≡ 0
  outputs_paged k k_in =
      let (ps, openers, mem) = is.plan.outputs in
      let lt : k < length outputs = (let many = of.outputs.count in omega arith) in
      let some = outputs_some fs ps outputs openers mem k lt in
      let whole = within_all outputs k lt in
      let long = parts_long fs opt.page outputs l.plan.commons in
      let many = length-map (members_at outputs k) (part_of fs) in
      let multiple = part_multiple (start_of outputs k) (omega arith) in
      subst (λ (x : ℕ). x % opt.page ≡ 0) (sym (of.outputs.each k lt).address)
      (raised_multiple opt.page (map (part_of fs) (members_at outputs k)) (slice_index l.places (start_of outputs k))
      (omega arith) page_power (output_powers k lt)
      (subst (λ (q : ℕ × ℕ). IsMultiple q.1 (slice_index l.places (start_of outputs k))) (first_part k lt some) multiple))

  -- ---- commons

  symbol_power : (value : ℕ) → ((value ≡ 0) ⊎ ((value ≢ 0) × (IsPowerOfTwo value → ⊥)) → ⊥) → IsZeroOrPower value
  symbol_power value never = is_alignment value (λ wrong. never (inr wrong))

  common_powers : HavePowers (map common_part l.plan.commons)
  common_powers i i_in =
      let cs = l.plan.commons in
      let long = length-map cs common_part in
      let within : i < length cs = omega arith in
      let (ps, listed, chosen) = is.plan.commons in
      let (p, there, at) = (chosen.each i (let count = chosen.count in omega arith)).1.1.attained in
      subst (λ (q : ℕ × ℕ). IsZeroOrPower q.1) (sym (get_or-map common_part cs i no_common (0, 0) within))
      (subst IsZeroOrPower at (symbol_power _ (λ bad. clean.1.1.1.1.1.1.0 p (there.0, there.1, (there.2.1, inr bad), there.3))))

  commons_paged : 0 < length m.commons → (common_at m.commons 0).address % opt.page ≡ 0
  commons_paged some =
      let cs = l.plan.commons in
      let first = length (placed l.plan) in
      let many : 0 < length cs = (let count = of.commons.count in omega arith) in
      let here : first + 0 ≡ length own + 0 = (let long = length-outputs fs opt.page outputs in omega arith) in
      let listed = length-map cs common_part in
      let part = ap (λ (n : ℕ). get_or (link_parts fs opt l) n (0, 0)) here ∙
      get_or-append-add own (raised opt.page (map common_part cs)) 0 (0, 0) in
      subst (λ (x : ℕ). x % opt.page ≡ 0) (sym (common_begins opt fs l m 0 of some))
      (raised_multiple opt.page (map common_part cs) (slice_index l.places (first + 0)) (omega arith) page_power common_powers
      (subst (λ (q : ℕ × ℕ). IsMultiple q.1 (slice_index l.places (first + 0))) part
      (part_multiple (first + 0) (common_in_parts opt fs l m 0 of some))))

  pub paged : ArePaged m
  paged = record {
    page = subst IsPowerOfTwo (sym of.page) page_power;
    outputs = λ k lt. subst (λ (n : ℕ). (output_at m k).address % n ≡ 0) (sym of.page) (outputs_paged k lt);
    commons = λ some. subst (λ (n : ℕ). (common_at m.commons 0).address % n ≡ 0) (sym of.page) (commons_paged some);
  }

pub are_paged : (opt : Options) (fs : List ObjectValue) (m : LinkMapValue) → IsLinkMap opt fs m → FirstOfLink opt fs None → AreObjects fs →
    ArePaged m
are_paged opt fs m (l, is, of) clean objects = paged opt fs l m is of clean.0 objects
