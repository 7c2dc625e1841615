-- Output sections: live sections of one name, the same flags but GROUP, and bits or none, in order of first appearance.
-- (gABI chapter 4, Sections: sh_flags; the placement is this project's profile.)
use Rattle.std.specs.Prelude.{◌≡◌, ◌↔◌, ◌⊎◌, ℕ, Bool, List, ◌+◌, ◌-◌, ◌^◌, ◌<◌, true, false, [], ◌∷◌, All, Contains, bit_and, fold, length}
use Rattle.std.specs.Prelude.{max, ◌++◌, get_or, set, map, slice_index}
use Rattle.std.specs.declared.cmp.Ordering.{Ordering}
use Rattle.std.specs.Ordering.{bool_cmp, nat_cmp, ordering_then}
use Rattle.std.specs.List.{flat_map}
use Rattle.std.specs.List.Sorted.{IsSortedByKey}
use Rattle.elf_field.specs.Abi.{SHF_GROUP}
use Rattle.elf_image_rules.specs.Rows.{Row}
use Rattle.elf_link_files.specs.Files.{section_in, Live}
use Rattle.elf_link_files.specs.Rows.{Lists, site_at, AtSection, Before, AreEach, Pairs}
use Rattle.elf_link_files.specs.declared.site.Chosen.{Chosen}
use Rattle.elf_link_files.specs.declared.site.Site.{Site}
use Rattle.elf_link_outputs.specs.declared.outputs.Keyed.{Keyed}
use Rattle.elf_link_outputs.specs.declared.outputs.OutputKey.{OutputKey}
use Rattle.elf_object_type.specs.Object.{BodyValue, bits, no_bits, relocs, group, ObjectValue, SectionValue}

abbrev pub live : List ObjectValue → Row Site
live fs = AtSection fs (Live fs)

-- the section at a site
abbrev pub section_at_site : List ObjectValue → Site → SectionValue
section_at_site fs p = section_in fs p.file p.index

-- all flags but GROUP
abbrev pub output_flags : ℕ → ℕ
output_flags flags = bit_and flags (2 ^ 64 - 1 - SHF_GROUP)

abbrev pub is_no_bits : BodyValue → Bool
is_no_bits (bits type content) = false
is_no_bits (no_bits size) = true
is_no_bits (relocs rela target entries) = false
is_no_bits (group comdat signature members) = false

-- two sections go to one output section
abbrev pub HaveOneKey : List ObjectValue → Site → Site → Type 0
HaveOneKey fs p q =
    ((section_at_site fs p).name ≡ (section_at_site fs q).name) ×
    (output_flags (section_at_site fs p).flags ≡ output_flags (section_at_site fs q).flags) ×
    (is_no_bits (section_at_site fs p).body ≡ is_no_bits (section_at_site fs q).body)

-- a live section opens an output section where no live section before it goes to the same one
abbrev pub IsOpener : List ObjectValue → Site → Type 0
IsOpener fs p = (q : Site) → live fs q → Before q p → HaveOneKey fs q p → ⊥

-- the sections that open the outputs with bits, and those without
abbrev pub openers : List ObjectValue → Bool → Row Site
openers fs without p = live fs p × (IsOpener fs p × (is_no_bits (section_at_site fs p).body ≡ without))

-- the members of the output section that p opens
abbrev pub members : List ObjectValue → Site → Row Site
members fs p q = live fs q × HaveOneKey fs q p

-- the size of a section in memory
abbrev pub memory_size : BodyValue → ℕ
memory_size (bits type content) = length content
memory_size (no_bits size) = size
memory_size (relocs rela target entries) = 0
memory_size (group comdat signature members) = 0

-- the part (size, alignment) of a section
abbrev pub part_of : List ObjectValue → Site → ℕ × ℕ
part_of fs p = (memory_size (section_at_site fs p).body, (section_at_site fs p).align)

-- the parts of one output: the first one counts the page and the largest alignment of them all too; page and alignments are
-- powers of two, so the largest of them is a multiple of each
abbrev pub raised : ℕ → List (ℕ × ℕ) → List (ℕ × ℕ)
raised page [] = []
raised page (p ∷ ps) = (p.0, fold (λ a q. max a q.1) page (p ∷ ps)) ∷ ps

-- the list has those of the first k sites that pass, in order
abbrev pub Picks : List Site → ℕ → (Site → Type 0) → List Site → Type 0
Picks ps k P out = Lists (λ p. P p × ((j : ℕ) × (j < k) × (site_at ps j ≡ p))) out

-- Sections grouped by the output that they go to, in the order of the first one of each.

-- a section, the first of whose name is at this position, has this key
abbrev pub IsKeyOf : List ObjectValue → Site → ℕ → OutputKey → Type 0
IsKeyOf fs p first key =
    (key.first ≡ first) × (key.flags ≡ output_flags (section_at_site fs p).flags) × (key.no_bits ≡ is_no_bits (section_at_site fs p).body)

-- the keys of the first n sites, each beside the position of its site
pub record AreKeyed (fs : List ObjectValue) (ps : List Site) (firsts : List ℕ) (n : ℕ) (keyed : List Keyed) : Type 0 where
  pub each : All (λ x. (x.position < n) × IsKeyOf fs (site_at ps x.position) (get_or firsts x.position 0) x.key) keyed
  pub all : (k : ℕ) → k < n → (x : Keyed) × Contains keyed x × (x.position ≡ k)

-- names first, then flags, then those with bits
abbrev pub key_cmp : OutputKey → OutputKey → Ordering
key_cmp a b = ordering_then (nat_cmp a.first b.first) (ordering_then (nat_cmp a.flags b.flags) (bool_cmp a.no_bits b.no_bits))

abbrev pub AreKeysAscending : List Keyed → Type 0
AreKeysAscending = IsSortedByKey (λ x. x.key) key_cmp

-- a number for each site: two have one number exactly if they go to one output section
pub record AreKeyNumbers (fs : List ObjectValue) (ps : List Site) (numbers : List ℕ) : Type 0 where
  pub count : length numbers ≡ length ps
  pub same : (i j : ℕ) → i < length ps → j < length ps →
      (slice_index numbers i ≡ slice_index numbers j) ↔ HaveOneKey fs (site_at ps i) (site_at ps j)

abbrev pub AreInOrder : List Site → Type 0
AreInOrder ps = Pairs Before ps

-- no site of the list before p has its key
abbrev pub IsHead : List ObjectValue → List Site → Site → Type 0
IsHead fs ps p = (j : ℕ) → j < length ps → Before (site_at ps j) p → HaveOneKey fs (site_at ps j) p → ⊥

-- the groups of the first k sites, by their heads
pub record AreHeaded (fs : List ObjectValue) (ps : List Site) (k : ℕ) (heads : List Site) (groups : List (List Site)) : Type 0 where
  pub opened : Picks ps k (IsHead fs ps) heads
  pub covers : (j : ℕ) → j < k → (r : ℕ) × (r < length heads) × HaveOneKey fs (site_at ps j) (site_at heads r)
  pub grouped : AreEach [] (λ r. Picks ps k (λ p. HaveOneKey fs p (site_at heads r))) (length heads) groups

-- the first i of these keys, which ascend, are numbered: the last of them has this number, and the others that or a lower one
pub record AreCounted (fs : List ObjectValue) (ps : List Site) (keyed : List Keyed) (i number : ℕ) (numbers : List ℕ) : Type 0 where
  pub count : length numbers ≡ length ps
  pub small : number < i
  pub last : (m : ℕ) (d : Keyed) → m + 1 ≡ i → m < length keyed → slice_index numbers (get_or keyed m d).position ≡ number
  pub below : (a : ℕ) (d : Keyed) → a < i → a < length keyed → slice_index numbers (get_or keyed a d).position < number + 1
  pub same : (a b : ℕ) (d : Keyed) → a < i → b < i → a < length keyed → b < length keyed →
      (slice_index numbers (get_or keyed a d).position ≡ slice_index numbers (get_or keyed b d).position) ↔
      HaveOneKey fs (site_at ps (get_or keyed a d).position) (site_at ps (get_or keyed b d).position)

-- each group has the number of its head
abbrev pub AreHeadNumbers : List Site → List ℕ → List Site → List ℕ → Type 0
AreHeadNumbers ps numbers heads =
    AreEach 0 (λ r n. (j : ℕ) × (j < length ps) × (site_at ps j ≡ site_at heads r) × (slice_index numbers j ≡ n)) (length heads)

-- the groups of the first k sites, and their numbers
abbrev pub AreGrouped : List ObjectValue → List Site → List ℕ → ℕ → List ℕ → List (List Site) → Type 0
AreGrouped fs ps numbers k keys groups = (heads : List Site) × AreHeadNumbers ps numbers heads keys × AreHeaded fs ps k heads groups

abbrev pub AreGroups : List ObjectValue → List Site → List (List Site) → Type 0
AreGroups fs ps groups = (heads : List Site) × AreHeaded fs ps (length ps) heads groups

-- a site is added to the group of this number
abbrev pub IsJoined : List ℕ → List (List Site) → ℕ → Site → List ℕ → List (List Site) → Type 0
IsJoined keys groups number s keys_now now =
    (r : ℕ) × (r < length keys) × (get_or keys r 0 ≡ number) × (keys_now ≡ keys) × (now ≡ set groups r (get_or groups r [] ++ s ∷ []))

-- a site opens a group, since none has this number
abbrev pub IsOpened : List ℕ → List (List Site) → ℕ → Site → List ℕ → List (List Site) → Type 0
IsOpened keys groups number s keys_now now =
    ((r : ℕ) → r < length keys → get_or keys r 0 ≡ number → ⊥) × (keys_now ≡ keys ++ number ∷ []) × (now ≡ groups ++ (s ∷ []) ∷ [])

abbrev pub IsMemberAdded : List ℕ → List (List Site) → ℕ → Site → List ℕ → List (List Site) → Type 0
IsMemberAdded keys groups number s keys_now now = IsJoined keys groups number s keys_now now ⊎ IsOpened keys groups number s keys_now now

-- the members of the first n outputs, by the sections that open them
abbrev pub AreOutputMembers : List ObjectValue → List Site → ℕ → List (List Site) → Type 0
AreOutputMembers fs ps = AreEach [] (λ k. Lists (members fs (site_at ps k)))

-- the groups of all live sections, by the sections that open them
abbrev pub AreLiveGroups : List ObjectValue → List (List Site) → Type 0
AreLiveGroups fs groups =
    (heads : List Site) × Lists (λ p. live fs p × IsOpener fs p) heads × AreOutputMembers fs heads (length heads) groups

-- Which sections are in each output, in order, and the commons after them; and their parts. (gABI chapter 4, Sections, Symbol Table:
-- SHN_COMMON; the placement is this project's profile.)

pub record Plan : Type 0 where
  pub outputs : List (List Site)
  pub commons : List Chosen

-- the sections that open an output: those with bits, and after them those without
abbrev pub AreOpeners : List ObjectValue → List Site → Type 0
AreOpeners fs ps =
    (with without : List Site) × Lists (openers fs false) with × Lists (openers fs true) without × (ps ≡ with ++ without)

-- the outputs of some of the openers: those whose sections have bits, or none
abbrev pub AreOfKind : List ObjectValue → List Site → ℕ → Bool → List (List Site) → Type 0
AreOfKind fs heads k without outputs =
    (ps : List Site) × Picks heads k (λ p. is_no_bits (section_at_site fs p).body ≡ without) ps × AreOutputMembers fs ps (length ps) outputs

-- the groups of the first openers are split by kind, and the rest is left
abbrev pub AreSplit : List ObjectValue → List (List Site) → List (List Site) → List (List Site) → Type 0
AreSplit fs rest outputs later =
    (heads : List Site) × (k : ℕ) × Lists (λ p. live fs p × IsOpener fs p) heads × (k + length rest ≡ length heads) ×
    ((r i : ℕ) → r < length rest → k + r ≡ i → Lists (members fs (site_at heads i)) (get_or rest r [])) ×
    AreOfKind fs heads k false outputs × AreOfKind fs heads k true later

abbrev pub AreOutputs : List ObjectValue → List (List Site) → Type 0
AreOutputs fs outputs = (ps : List Site) × AreOpeners fs ps × AreOutputMembers fs ps (length ps) outputs

-- all sections that are placed, in order
abbrev pub flat : List (List Site) → List Site
flat outputs = flat_map (λ ms. ms) outputs

abbrev pub placed : Plan → List Site
placed plan = flat plan.outputs

-- the parts (size, alignment) of the outputs, and after them those of the commons, as one more output
abbrev pub output_parts : List ObjectValue → ℕ → List Site → List (ℕ × ℕ)
output_parts fs page ms = raised page (map (part_of fs) ms)

abbrev pub common_part : Chosen → ℕ × ℕ
common_part c = (c.size, c.align)

abbrev pub parts_of : List ObjectValue → ℕ → Plan → List (ℕ × ℕ)
parts_of fs page plan = flat_map (output_parts fs page) plan.outputs ++ raised page (map common_part plan.commons)

-- The values of sections, of output sections, of a plan, and of a plan at its addresses.

-- some files, and sections of them
pub record SectionsValue : Type 0 where
  pub objects : List ObjectValue
  pub sites : List Site

-- some files, and the members of each output section of theirs
pub record OutputsValue : Type 0 where
  pub objects : List ObjectValue
  pub groups : List (List Site)

-- some files, and what is placed of them, for a page
pub record PlanValue : Type 0 where
  pub objects : List ObjectValue
  pub page : ℕ
  pub plan : Plan

-- its parts (size, alignment)
abbrev pub plan_parts : PlanValue → List (ℕ × ℕ)
plan_parts p = parts_of p.objects p.page p.plan

-- a plan, the address of each of its parts, and the entry symbol's value
pub record AddressedValue : Type 0 where
  pub plan : PlanValue
  pub places : List ℕ
  pub entry : ℕ
