-- The text of `map` on at most 64 files is shorter than 2^64 bytes. The files have less than 2^30 sections and 2^31.5 symbols, and each of
-- their names and contents has at most 2^30 bytes. No section and no symbol has two lines of a kind. So the lines with names of symbols
-- have less than 2^63.5 bytes together, and all others less than 2^62.5.
use Rattle.std.proofs.Common.{◌≡◌, ◌∙◌, ◌<◌, ◌≤◌, ◌+◌, ◌*◌, ◌^◌, ◌++◌, ◌-◌, ℕ, zero, suc, Bool, true, false, List, [], ◌∷◌, None, Option}
use Rattle.std.proofs.Common.{Some, ap, arith, bytes_eq, codes, cond, get_or, if◌then◌else◌, inl, inr, length, length-append, map}
use Rattle.std.proofs.Common.{MatchOption, option_map, refl, subst, sym, unwrap_or}
use Rattle.std.specs.List.{AllByRecursion, IsDistinct, flat_map, list_any}
use Rattle.std.specs.Fmt.{decimal, digits}
use Rattle.std.proofs.Math.Dec.{eqb}
use Rattle.std.proofs.Math.Nat.{add-mul, mul-le-mul_right, suc-mul}
use Rattle.std.proofs.lemmas.Bool.{cases_lt, eqb-true, ne_eqb}
use Rattle.std.proofs.lemmas.List.{get_or-map, length-map}
use Rattle.std.proofs.lemmas.Map.Steps.{length-le_from_distinct_below}
use Rattle.std.proofs.lemmas.Nat.{and_le_l}
use Rattle.std.proofs.lemmas.Slice.Eq.{bytes_eq-Decides}
use Rattle.elf_extent.specs.Extent.{Never}
use Rattle.elf_field.specs.Abi.{SHF_GROUP}
use Rattle.elf_link_field.specs.declared.rule.RelocRule.{RelocRule}
use Rattle.elf_link_files.proofs.Public.{not_true, once_of, site_is}
use Rattle.elf_link_files.specs.Files.{mark, object_at, symbol_in}
use Rattle.elf_link_files.specs.Rows.{AreOnce, AtSymbol, Lists, chosen_at, entries, name_at, site, site_at}
use Rattle.elf_link_files.specs.declared.fault.Options.{Options}
use Rattle.elf_link_files.specs.declared.site.Site.{Site}
use Rattle.elf_link_map.proofs.Public.{outputs_stand, parts_apart}
use Rattle.elf_link_map.specs.LinkMap.{IsBinding, IsLinkMap, IsLinkPlan, IsMapOf, LinkMapValue, LinkPlan, bound_in, link_parts, no_name}
use Rattle.elf_link_map.specs.Standing.{OutputsStand, ArePlacedApart, member_address, member_at, no_member, output_at, size_in}
use Rattle.elf_link_map.specs.declared.bindings.Binding.TheVariants.{Strong, Common, Weak, Zero}
use Rattle.elf_link_map.specs.declared.bindings.Binding.{Binding}
use Rattle.elf_link_names.proofs.Public.{names_once}
use Rattle.elf_link_names.specs.Binds.{IsChosen, IsFirstEntry, first_entries}
use Rattle.elf_link_outputs.proofs.Public.{all_flat, members_live, placed_once}
use Rattle.elf_link_outputs.specs.Outputs.{flat, live, section_at_site}
use Rattle.elf_link_outputs.specs.Placed.{CommonValue, IsOutput, OutputValue, cell, common_at, member_of, no_output, no_placed, start_of}
use Rattle.elf_link_outputs.specs.declared.placing.Member.{Member}
use Rattle.elf_link_relocate.specs.Fields.{binding_value, place_value}
use Rattle.elf_link_relocate.specs.Linked.{AreBytesOf, HasLiveBits, IsLinked, LinkedValue, bytes_at}
use Rattle.elf_object_type.specs.Object.{ObjectValue}
use Rattle.elf_object_type.specs.declared.parts.Place.TheVariants.{Undef, Abs, In, Common as CommonPlace}
use Rattle.elf_object_type.specs.declared.parts.Place.{Place}
use Rattle.elf_tool_check.specs.declared.calls.Verdict.TheVariants.{Done}
use Rattle.elf_tool_link.proofs.FileSizes.{IsSmall, as_many, each_small}
use Rattle.elf_tool_link.specs.Map.{MapSays, RelocationSays, binding_text, bits_text, bytes_line, bytes_lines, common_line, common_lines}
use Rattle.elf_tool_link.specs.Map.{discarded_line, discarded_lines, discarded_text, file_discarded_text, map_text, member_bytes}
use Rattle.elf_tool_link.specs.Map.{member_line, member_text, name_line, name_lines, named_text, output_bytes, output_line, output_lines}
use Rattle.elf_tool_link.specs.Map.{output_text, relocated_text, value_text}
use Rattle.elf_tool_text.proofs.Public.{bytes_short, decimal_short, hexadecimal_short, indexed_short, line_length, lines_short, name_short}
use Rattle.elf_tool_text.proofs.TextLines.{few_digits}
use Rattle.elf_tool_text.specs.Line.{bytes_text, hexadecimal, name_text}

-- ---- how many different places there are: each has a number of its own

abbrev code : ℕ → Site → ℕ
code most p = p.file * most + p.index

-- the numbers of two files of `most` places are apart
rows_apart : (most f g : ℕ) → f < g → f * most + most ≤ g * most
rows_apart most f g less =
    let next : suc f * most ≤ g * most = mul-le-mul_right most (omega arith) in
    let whole = suc-mul f most in
    omega arith

-- a place in one of n files of `most` places
record IsIn (n most : ℕ) (p : Site) : Type 0 where
  file : p.file < n
  index : p.index < most
  entry : p.entry ≡ 0

code_below : (n most : ℕ) (p : Site) → IsIn n most p → code most p < n * most
code_below n most p is = let row = rows_apart most p.file n is.file in let index = is.index in omega arith

one_place : (n most : ℕ) (p q : Site) → IsIn n most p → IsIn n most q → code most p ≡ code most q → p ≡ q
one_place n most p q is also same =
    let here = is.index in
    let there = also.index in
    elim (cases_lt p.file q.file) [
      | inl less ↦ (let apart = rows_apart most p.file q.file less in absurd (omega arith))
      | inr not_less ↦ elim (cases_lt q.file p.file) [
        | inl more ↦ (let apart = rows_apart most q.file p.file more in absurd (omega arith))
        | inr not_more ↦
            let file : p.file ≡ q.file = omega arith in
            let row = ap (λ (n : ℕ). n * most) file in
            let index : p.index ≡ q.index = omega arith in
            site_is p q.file q.index file index is.entry ∙ sym (site_is q q.file q.index refl refl also.entry)
      ]
    ]

module _ (n most : ℕ) where
  others : (p : Site) (ps : List Site) → ((k : ℕ) → k < length ps → code most p ≡ code most (site_at ps k) → ⊥) →
      AllByRecursion (λ c. eqb (code most p) c ≡ false) (map (code most) ps)
  others p [] apart = tt
  others p (q ∷ qs) apart = (ne_eqb (code most p) (code most q) (apart 0 (omega arith)), others p qs (λ k lt. apart (suc k) (omega arith)))

  codes_distinct : (ps : List Site) → AreOnce ps → ((k : ℕ) → k < length ps → IsIn n most (site_at ps k)) →
      IsDistinct eqb (map (code most) ps)
  unfolding IsDistinct
  codes_distinct [] once are = tt
  codes_distinct (p ∷ ps) once are = (
    others p ps (λ k lt same. once 0 (suc k) (omega arith) (omega arith)
        (one_place n most p (site_at ps k) (are 0 (omega arith)) (are (suc k) (omega arith)) same)),
    codes_distinct ps (λ j k less lt. once (suc j) (suc k) (omega arith) (omega arith)) (λ k lt. are (suc k) (omega arith)),
  )

  codes_below : (ps : List Site) → ((k : ℕ) → k < length ps → IsIn n most (site_at ps k)) → (q : ℕ) →
      list_any (eqb q) (map (code most) ps) ≡ true → q < n * most
  codes_below [] are q is = absurd (cc)
  codes_below (p ∷ ps) are q is = by_first (eqb q (code most p)) refl (λ later. codes_below ps (λ k lt. are (suc k) (omega arith)) q later)
    where
      by_first : (same : Bool) → eqb q (code most p) ≡ same → (list_any (eqb q) (map (code most) ps) ≡ true → q < n * most) → q < n * most
      by_first true same rest = let first = eqb-true q (code most p) same in let below = code_below n most p (are 0 (omega arith)) in
          omega arith
      by_first false same rest = rest (rw same at is)

  few_places : (ps : List Site) → AreOnce ps → ((k : ℕ) → k < length ps → IsIn n most (site_at ps k)) → length ps ≤ n * most
  few_places ps once are =
      let long = length-map ps (code most) in
      let few = length-le_from_distinct_below (map (code most) ps) (n * most) (codes_distinct ps once are) (codes_below ps are) in
      omega arith

-- ---- lines

output_line_short : (o : OutputValue) → o.address < 2 ^ 64 → o.length < 2 ^ 64 → o.flags < 2 ^ 64 → length o.name ≤ 2 ^ 30 →
    length (output_line o) ≤ 2 ^ 31 + 73
unfolding output_line
output_line_short o address long flags name =
    let whole = line_length (codes "output")
    (hexadecimal o.address ∷ hexadecimal o.length ∷ bits_text o.no_bits ∷ hexadecimal o.flags ∷ name_text o.name ∷ []) in
    let a = hexadecimal_short o.address address in
    let b = hexadecimal_short o.length long in
    let c = kind o.no_bits in
    let d = hexadecimal_short o.flags flags in
    let e = name_short o.name in
    omega arith
  where
    kind : (no_bits : Bool) → length (bits_text no_bits) ≤ 6
    kind true = omega arith
    kind false = omega arith

member_line_short : (address size : ℕ) (s : Member) → address < 2 ^ 64 → size < 2 ^ 64 → s.file < 2 ^ 64 → s.section < 2 ^ 64 →
    length (member_line address size s) ≤ 87
unfolding member_line
member_line_short address size s a_fits b_fits c_fits d_fits =
    let whole = line_length (codes "member") (hexadecimal address ∷ hexadecimal size ∷ decimal s.file ∷ decimal s.section ∷ []) in
    let a = hexadecimal_short address a_fits in
    let b = hexadecimal_short size b_fits in
    let c = decimal_short s.file c_fits in
    let d = decimal_short s.section d_fits in
    omega arith

common_line_short : (c : CommonValue) → c.address < 2 ^ 64 → c.size < 2 ^ 64 → length c.name ≤ 2 ^ 30 → length (common_line c) ≤ 2 ^ 31 + 47
unfolding common_line
common_line_short c address size name =
    let whole = line_length (codes "common") (hexadecimal c.address ∷ hexadecimal c.size ∷ name_text c.name ∷ []) in
    let a = hexadecimal_short c.address address in
    let b = hexadecimal_short c.size size in
    let d = name_short c.name in
    omega arith

discarded_line_short : (f s : ℕ) → f < 2 ^ 64 → s < 2 ^ 64 → length (discarded_line f s) ≤ 52
unfolding discarded_line
discarded_line_short f s f_fits s_fits =
    let whole = line_length (codes "discarded") (decimal f ∷ decimal s ∷ []) in
    let a = decimal_short f f_fits in
    let b = decimal_short s s_fits in
    omega arith

-- a value has at most 65 bits
abbrev IsShortValue : Option ℕ → Type 0
IsShortValue None = Unit {0}
IsShortValue (Some value) = value < 2 ^ 65

value_short : (value : Option ℕ) → IsShortValue value → length (value_text value) ≤ 19
value_short None fits = omega arith
value_short (Some value) fits =
    let few = few_digits 16 (omega arith) 17 value (omega arith) (omega arith) in
    let both = length-append (codes "0x") (digits 16 false value) in
    omega arith

binding_short : (binding : Binding) → length (binding_text binding) ≤ 6
binding_short (Strong file symbol) = omega arith
binding_short (Common address size align) = omega arith
binding_short (Weak file symbol) = omega arith
binding_short Zero = omega arith

name_line_short : (value : Option ℕ) (binding : Binding) (name : List ℕ) → IsShortValue value → length name ≤ 2 ^ 30 →
    length (name_line value binding name) ≤ 2 ^ 31 + 34
unfolding name_line
name_line_short value binding name fits short =
    let whole = line_length (codes "name") (value_text value ∷ binding_text binding ∷ name_text name ∷ []) in
    let a = value_short value fits in
    let b = binding_short binding in
    let c = name_short name in
    omega arith

bytes_line_short : (s : Member) (bytes : List ℕ) → s.file < 2 ^ 64 → s.section < 2 ^ 64 → length bytes ≤ 2 ^ 30 →
    length (bytes_line s bytes) ≤ 2 ^ 31 + 50
unfolding bytes_line
bytes_line_short s bytes file section short =
    let whole = line_length (codes "bytes") (decimal s.file ∷ decimal s.section ∷ bytes_text bytes ∷ []) in
    let a = decimal_short s.file file in
    let b = decimal_short s.section section in
    let c = bytes_short bytes in
    omega arith

-- ---- texts of groups, each with so many bytes for each item of the group

groups_short : {X : Type 0} (f : X → List ℕ) (most : ℕ) (d : X) (xs : List X) (groups : List (List Site)) → length xs ≡ length groups
    → ((k : ℕ) → k < length xs → length (f (get_or xs k d)) ≤ length (get_or groups k []) * most) →
    length (flat_map f xs) ≤ length (flat groups) * most
groups_short f most d [] [] same each = omega arith
groups_short f most d [] (g ∷ groups) same each = absurd (omega arith)
groups_short f most d (x ∷ xs) [] same each = absurd (omega arith)
groups_short f most d (x ∷ xs) (g ∷ groups) same each =
    let here = each 0 (omega arith) in
    let rest = groups_short f most d xs groups (omega arith) (λ k lt. each (suc k) (omega arith)) in
    let text = length-append (f x) (flat_map f xs) in
    let items = length-append g (flat groups) in
    let whole : (length g + length (flat groups)) * most ≡ length g * most + length (flat groups) * most =
    add-mul (length g) (length (flat groups)) most in
    subst (λ (n : ℕ). length (flat_map f (x ∷ xs)) ≤ n * most) (sym items) (omega arith)

-- ---- what a name is bound to, by its position

-- the first one of a name is what is found of it
bound_first : (bs : List (List ℕ × Binding)) (q : List ℕ) (k : ℕ) → k < length bs → (get_or bs k no_name).0 ≡ q →
    ((j : ℕ) → j < k → (get_or bs j no_name).0 ≡ q → ⊥) → bound_in bs q ≡ Some (get_or bs k no_name).1
bound_first [] q k lt is none = absurd (omega arith)
bound_first (b ∷ bs) q zero lt is none = ap (λ (t : Bool). cond t (Some b.1) (bound_in bs q)) ((bytes_eq-Decides q b.0).1 (sym is))
bound_first (b ∷ bs) q (suc k) lt is none =
    ap (λ (t : Bool). cond t (Some b.1) (bound_in bs q))
    (not_true (bytes_eq q b.0) (λ equal. none 0 (omega arith) (sym ((bytes_eq-Decides q b.0).0 equal)))) ∙
    bound_first bs q k (omega arith) is (λ j below. none (suc j) (omega arith))

-- ---- the lines of a link map

module _ (opt : Options) (fs : List ObjectValue) (m : LinkMapValue) (l : LinkPlan) (plan : IsLinkPlan opt fs l) (of : IsMapOf opt fs l m)
    (few : length fs ≤ 64) (small : (f : ℕ) → IsSmall (object_at fs f)) where
  apart : ArePlacedApart fs m
  apart = parts_apart opt fs m (l, plan, of)

  stand : OutputsStand fs m
  stand = outputs_stand opt fs m (l, plan, of)

  abbrev groups : List (List Site)
  groups = l.plan.outputs

  -- ---- sections

  section_in_file : (p : Site) → live fs p → IsIn (length fs) (2 ^ 24) p
  section_in_file p (file, index, is_live, entry) = record {
    file = file;
    index = (let count = (small p.file).section_count in omega arith);
    entry = entry;
  }

  few_placed : length (flat groups) ≤ length fs * 2 ^ 24
  few_placed =
      let (ps, openers, mem) = plan.plan.outputs in
      few_places (length fs) (2 ^ 24) (flat groups) (placed_once fs ps groups openers mem)
      (λ k lt. section_in_file (site_at (flat groups) k)
      (all_flat (live fs) groups (λ i below. members_live fs ps groups i mem below) k lt))

  module _ (k : ℕ) (lt : k < length m.outputs) where
    abbrev o : OutputValue
    o = output_at m k

    abbrev ms : List Site
    ms = get_or groups k []

    is_output : IsOutput fs ms (link_parts fs opt l) l.places (start_of groups k) o
    is_output = of.outputs.each k (let count = of.outputs.count in omega arith)

    many : length o.members ≡ length ms
    many = ap length is_output.members ∙ length-map ms member_of

    some : 0 < length o.members
    some = (stand.members k lt).some

    member_in_file : (i : ℕ) → i < length o.members → IsIn (length fs) (2 ^ 24) (site (member_at o i).file (member_at o i).section)
    member_in_file i below = section_in_file (site (member_at o i).file (member_at o i).section) ((stand.members k lt).live i below)

    member_short : (i : ℕ) → i < length o.members → length (member_text fs m (member_at o i)) ≤ 87
    member_short i below =
        let p = member_at o i in
        let begins = (stand.members k lt).begins i below in
        let within = apart.within p.file p.section (member_address m p) begins in
        let file = (member_in_file i below).file in
        let index = (member_in_file i below).index in
        member_line_short (unwrap_or (cell m.addresses p.file p.section) 0) (size_in fs p.file p.section) p
        (subst (λ (a : Option ℕ). unwrap_or a 0 < 2 ^ 64) (sym begins) (omega arith)) (omega arith) (omega arith) (omega arith)

    output_short : length (output_text fs m o) ≤ length ms * (2 ^ 31 + 160)
    output_short =
        let p = site_at ms 0 in
        let section = (small p.file).sections p.index in
        let within = stand.within k lt in
        let mask = and_le_l (section_at_site fs p).flags (2 ^ 64 - 1 - SHF_GROUP) in
        let flags = is_output.flags in
        let flags_fit = section.flags in
        let named = ap length is_output.name in
        let name = section.name in
        let first = output_line_short o (omega arith) (omega arith) (omega arith) (omega arith) in
        let rest = lines_short (member_text fs m) 87 no_member o.members member_short in
        let both = length-append (output_line o) (flat_map (member_text fs m) o.members) in
        let count = many in
        let one = some in
        omega arith

    module _ (linked : LinkedValue)
        (is : (f s : ℕ) → MatchOption (bytes_at linked f s) (¬ HasLiveBits fs f s) (AreBytesOf fs m linked.rules f s)) where
      bytes_at_short : (i : ℕ) (found : Option (List ℕ)) → i < length o.members → (let p = member_at o i in
          MatchOption found (¬ HasLiveBits fs p.file p.section) (AreBytesOf fs m linked.rules p.file p.section)) →
          length (relocated_text (member_at o i) found) ≤ 2 ^ 31 + 50
      bytes_at_short i None below are = omega arith
      bytes_at_short i (Some bytes) below are =
          let p = member_at o i in
          let long = are.long in
          let content = ((small p.file).sections p.section).content in
          let file = (member_in_file i below).file in
          let index = (member_in_file i below).index in
          bytes_line_short p bytes (omega arith) (omega arith) (omega arith)

      bytes_of_output : length (output_bytes linked o) ≤ length ms * (2 ^ 31 + 50)
      bytes_of_output =
          let each = lines_short (member_bytes linked) (2 ^ 31 + 50) no_member o.members
          (λ i below. bytes_at_short i (bytes_at linked (member_at o i).file (member_at o i).section) below
          (is (member_at o i).file (member_at o i).section)) in
          let count = many in
          omega arith

  outputs_short : length (output_lines fs m) ≤ length (flat groups) * (2 ^ 31 + 160)
  unfolding output_lines
  outputs_short = groups_short (output_text fs m) (2 ^ 31 + 160) no_output m.outputs groups of.outputs.count (λ k lt. output_short k lt)

  relocated_short : (rules : List RelocRule) (linked : LinkedValue) → IsLinked fs m rules linked →
      length (bytes_lines linked) ≤ length (flat groups) * (2 ^ 31 + 50)
  unfolding bytes_lines
  relocated_short rules linked is =
      let each = rw (sym is.same_rules) at is.bytes in
      subst (λ (n : LinkMapValue). length (flat_map (output_bytes linked) n.outputs) ≤ length (flat groups) * (2 ^ 31 + 50))
      (sym is.same_map)
      (groups_short (output_bytes linked) (2 ^ 31 + 50) no_output m.outputs groups of.outputs.count
      (λ k lt. bytes_of_output k lt linked each))

  -- ---- discarded sections

  discarded_short : (f s : ℕ) (marked : Bool) → f < length fs → s < length (object_at fs f).sections →
      length (if marked then discarded_line f s else []) ≤ 52
  discarded_short f s true file index = let count = (small f).section_count in discarded_line_short f s (omega arith) (omega arith)
  discarded_short f s false file index = omega arith

  discarded_all_short : length (discarded_lines fs m) ≤ length fs * (2 ^ 24 * 52)
  unfolding discarded_lines
  discarded_all_short = indexed_short (file_discarded_text fs m) (2 ^ 24 * 52) (length fs) (λ f file. (
      let count = (small f).section_count in
      let each = indexed_short (discarded_text m f) 52 (length (object_at fs f).sections)
      (λ s index. discarded_short f s (mark m.discarded f s) file index) in
      omega arith))

  -- ---- symbols

  few_symbols : (P : ℕ → ℕ → Type 0) (ps : List Site) → Lists (AtSymbol fs P) ps → length ps ≤ length fs * 44739243
  few_symbols P ps lists =
      few_places (length fs) 44739243 ps (once_of (AtSymbol fs P) ps lists) (λ k lt. symbol_in_file (site_at ps k) (lists.each k lt))
    where
      symbol_in_file : (p : Site) → AtSymbol fs P p → IsIn (length fs) 44739243 p
      symbol_in_file p (file, index, is, entry) = record {
        file = file;
        index = (let count = (small p.file).symbol_count in omega arith);
        entry = entry;
      }

  name_at_short : (p : Site) → length (name_at fs p) ≤ 2 ^ 30
  name_at_short p = ((small p.file).symbols p.index).name

  few_commons : length m.commons ≤ length fs * 44739243
  few_commons =
      let (ps, lists, are) = plan.plan.commons in
      let listed = are.count in
      let placed = of.commons.count in
      let few_of = few_symbols (IsChosen fs) ps lists in
      omega arith

  common_short : (k : ℕ) → k < length m.commons → length (common_line (common_at m.commons k)) ≤ 2 ^ 31 + 47
  common_short k lt =
      let is = of.commons.each k (let count = of.commons.count in omega arith) in
      let within = apart.commons_within k lt in
      let name = name_at_short (chosen_at l.plan.commons k).site in
      let named : length (common_at m.commons k).name ≡ length (name_at fs (chosen_at l.plan.commons k).site) =
      ap (λ (c : CommonValue). length c.name) is in
      common_line_short (common_at m.commons k) (omega arith) (omega arith) (omega arith)

  commons_short : length (common_lines m) ≤ length m.commons * (2 ^ 31 + 47)
  unfolding common_lines
  commons_short = lines_short common_line (2 ^ 31 + 47) no_placed m.commons common_short

  -- ---- names

  place_value_short : (f value : ℕ) (place : Place) → value < 2 ^ 64 → IsShortValue (place_value m f place value)
  place_value_short f value Undef fits = tt
  place_value_short f value Abs fits = omega arith
  place_value_short f value CommonPlace fits = tt
  place_value_short f value (In s) fits = by_address (cell m.addresses f s) refl
    where
      by_address : (address : Option ℕ) → cell m.addresses f s ≡ address → IsShortValue (option_map (λ a. a + value) address)
      by_address None is = tt
      by_address (Some a) is = let within = apart.within f s a is in omega arith

  definition_short : (f i : ℕ) → IsShortValue (place_value m f (symbol_in fs f i).place (symbol_in fs f i).value)
  definition_short f i = place_value_short f (symbol_in fs f i).value (symbol_in fs f i).place ((small f).symbols i).value

  bound_value_short : (name : List ℕ) (binding : Binding) → IsBinding fs m.commons name binding → IsShortValue (binding_value fs m binding)
  bound_value_short name (Strong file symbol) is = definition_short file symbol
  bound_value_short name (Common address size align) (largest, (k, named, at)) =
      let within = apart.commons_within k named.0 in omega arith
  bound_value_short name (Weak file symbol) is = definition_short file symbol
  bound_value_short name Zero is = omega arith

  -- a name is bound to what is found of it: no other entry has it
  module _ (ps : List Site) (lists : Lists (first_entries fs) ps) (same : map (λ e. e.0) m.bindings ≡ map (name_at fs) ps) where
    as_many_names : length m.bindings ≡ length ps
    as_many_names = sym (length-map m.bindings (λ (e : List ℕ × Binding). e.0)) ∙ ap length same ∙ length-map ps (name_at fs)

    name_is : (k : ℕ) → k < length m.bindings → (get_or m.bindings k no_name).0 ≡ name_at fs (site_at ps k)
    name_is k lt =
        let count = as_many_names in
        sym (get_or-map (λ (e : List ℕ × Binding). e.0) m.bindings k no_name [] lt) ∙ ap (λ (ns : List (List ℕ)). get_or ns k []) same
        ∙ get_or-map (name_at fs) ps k (site 0 0) [] (omega arith)

    found : (k : ℕ) → k < length m.bindings → bound_in m.bindings (name_at fs (site_at ps k)) ≡ Some (get_or m.bindings k no_name).1
    found k lt =
        let count = as_many_names in
        bound_first m.bindings (name_at fs (site_at ps k)) k lt (name_is k lt)
        (λ j below also. names_once fs ps lists j k below (omega arith) (name_at fs (site_at ps k))
        (sym (name_is j (omega arith)) ∙ also) refl)

    named_short : (k : ℕ) → k < length m.bindings → length (named_text fs m (get_or m.bindings k no_name)) ≤ 2 ^ 31 + 34
    named_short k lt =
        let n = get_or m.bindings k no_name in
        let name = name_at fs (site_at ps k) in
        let bound = subst (λ (b : Option Binding). MatchOption b (Never (entries fs name)) (IsBinding fs m.commons name)) (found k lt)
        (of.bindings name) in
        let short = name_at_short (site_at ps k) in
        let long = ap length (name_is k lt) in
        name_line_short (binding_value fs m n.1) n.1 n.0 (bound_value_short name n.1 bound) (omega arith)

    few_names : length m.bindings ≤ length fs * 44739243
    few_names = let count = as_many_names in let few_of = few_symbols (IsFirstEntry fs) ps lists in omega arith

    names_short : length (name_lines fs m) ≤ length m.bindings * (2 ^ 31 + 34)
    unfolding name_lines
    names_short = lines_short (named_text fs m) (2 ^ 31 + 34) no_name m.bindings named_short

  map_text_short : length (map_text fs m) + length (flat groups) * (2 ^ 31 + 50) < 2 ^ 64
  unfolding map_text
  map_text_short =
      let (ps, lists, same) = of.names in
      let first = length-append (output_lines fs m) (common_lines m ++ (discarded_lines fs m ++ name_lines fs m)) in
      let second = length-append (common_lines m) (discarded_lines fs m ++ name_lines fs m) in
      let third = length-append (discarded_lines fs m) (name_lines fs m) in
      let placed = few_placed in
      let outputs = outputs_short in
      let common_count = few_commons in
      let commons = commons_short in
      let discarded = discarded_all_short in
      let name_count = few_names ps lists same in
      let names = names_short ps lists same in
      omega arith

-- ---- the text on files

said_short : (opt : Options) (fs : List ObjectValue) (m : LinkMapValue) (rules : Option (List RelocRule)) (text : List ℕ) →
    IsLinkMap opt fs m → length fs ≤ 64
    → ((f : ℕ) → IsSmall (object_at fs f)) → RelocationSays rules fs m Done text → length text < 2 ^ 64
said_short opt fs m None text (l, plan, of) few small same =
    let short = map_text_short opt fs m l plan of few small in
    let long = ap length same in
    omega arith
said_short opt fs m (Some rules) text (l, plan, of) few small (linked, is, same) =
    let short = map_text_short opt fs m l plan of few small in
    let bytes = relocated_short opt fs m l plan of few small rules linked is in
    let both = length-append (map_text fs m) (bytes_lines linked) in
    let long = ap length same in
    omega arith

pub few_files_short : (opt : Options) (rules : Option (List RelocRule)) (files : List (List ℕ)) (text : List ℕ) → length files ≤ 64
    → MapSays opt rules files Done text → length text < 2 ^ 64
few_files_short opt rules files text few (inl (fs, are, inl (sound, (m, is, says)))) =
    let count = as_many files fs are in
    said_short opt fs m rules text is (omega arith) (each_small files fs are) says
few_files_short opt rules files text few (inl (fs, are, inr refused)) = absurd refused
few_files_short opt rules files text few (inr refused) = absurd refused
