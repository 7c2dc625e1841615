-- Rules 10 and 11 of the link: the entry symbol's value, and the ends of all parts. Addresses have no upper bound here, so that the
-- entry symbol's value is asked even where a part ends at 2^64 or later.
use Rattle.std.specs.Prelude.{◌≡◌, ℕ, ◌+◌, ◌^◌, ◌<◌, ◌≤◌, Option, None, Some, List, [], ◌∷◌, ◌++◌, drop, length, slice_index}
use Rattle.elf_extent.specs.Place.{Least, end_of, EndsFit}
use Rattle.elf_image_rules.specs.Rows.{Row, Ruled, rule}
use Rattle.elf_link_files.specs.Rows.{Once, FirstAt}
use Rattle.elf_link_files.specs.declared.fault.LinkFault.TheVariants.{Rule, OutOfMemory}
use Rattle.elf_link_files.specs.declared.fault.LinkFault.{LinkFault}
use Rattle.elf_link_files.specs.declared.site.Site.{Site}
use Rattle.elf_link_outputs.specs.Outputs.{AddressedValue, PlanValue, plan_parts}
use Rattle.elf_link_outputs.specs.declared.addresses.Target.TheVariants.{Lost, Fixed, Part}
use Rattle.elf_link_outputs.specs.declared.addresses.Target.{Target}

-- the least places of the parts put part t at or past 2^64, or at x
abbrev pub StartsPast : List (ℕ × ℕ) → ℕ → ℕ → Type 0
StartsPast parts from t = (places : List ℕ) × Least parts from places × (2 ^ 64 ≤ slice_index places t)

abbrev pub StartsAt : List (ℕ × ℕ) → ℕ → ℕ → ℕ → Type 0
StartsAt parts from t x = (places : List ℕ) × Least parts from places × (slice_index places t ≡ x)

-- the entry symbol's value where the parts have these places: none where it is lost, a fixed one, or an offset in a part
abbrev pub target_value : List ℕ → Target → Option ℕ
target_value places Lost = None
target_value places (Fixed value) = Some value
target_value places (Part t offset) = Some (slice_index places t + offset)

-- a part of a target is one of n parts, and a fixed value an address
abbrev pub IsTargetBelow : ℕ → Target → Type 0
IsTargetBelow n Lost = Unit {0}
IsTargetBelow n (Fixed value) = value < 2 ^ 64
IsTargetBelow n (Part t offset) = t < n

abbrev pub IsTarget : List (ℕ × ℕ) → Target → Type 0
IsTarget parts target = IsTargetBelow (length parts) target

-- at the least places the entry symbol has this value; or it has none below 2^64
abbrev pub HasValue : List (ℕ × ℕ) → ℕ → Target → ℕ → Type 0
HasValue parts base target x = (places : List ℕ) × Least parts base places × (target_value places target ≡ Some x) × (x < 2 ^ 64)

abbrev pub HasNoValue : List (ℕ × ℕ) → ℕ → Target → Type 0
HasNoValue parts base target =
    (places : List ℕ) × Least parts base places × ((x : ℕ) → target_value places target ≡ Some x → 2 ^ 64 ≤ x)

-- some part ends at 2^64 or later, counted after its last byte
abbrev pub Overflows : List (ℕ × ℕ) → ℕ → Type 0
Overflows parts base =
    (places : List ℕ) × Least parts base places × ((k : ℕ) × (k < length parts) × (2 ^ 64 ≤ end_of parts places k))

abbrev pub no_entry : List (ℕ × ℕ) → ℕ → Target → Row Site
no_entry parts base target = Once (HasNoValue parts base target)

abbrev pub address_overflow : List (ℕ × ℕ) → ℕ → Row Site
address_overflow parts base = Once (Overflows parts base)

abbrev pub address_rules : List (ℕ × ℕ) → ℕ → Target → List {1} (Ruled Site)
address_rules parts base target = rule 10 (no_entry parts base target) ∷ rule 11 (address_overflow parts base) ∷ []

-- the places of the first i parts are known, and the next one is placed from the cursor
abbrev pub IsCursor : List (ℕ × ℕ) → ℕ → ℕ → ℕ → Type 0
IsCursor parts from i cursor =
    (done : List ℕ) × (length done ≡ i) × ((rest : List ℕ) → Least (drop i parts) cursor rest → Least parts from (done ++ rest))

-- The fault of parts that have no addresses.

-- the first of rules 10 and 11 that is broken; out of memory is reported only where none is broken
abbrev pub IsAddressFault : List (ℕ × ℕ) → ℕ → Target → LinkFault → Type 0
IsAddressFault parts base target (Rule number file index entry) =
    FirstAt (address_rules parts base target) (Some (number, record { file = file; index = index; entry = entry }))
IsAddressFault parts base target OutOfMemory = FirstAt (address_rules parts base target) None

-- A plan at its least addresses.

-- neither rule 10 nor 11 is broken: the parts have their least places from `base`, end there below 2^64, and the entry symbol has its value
pub record IsAddressedFrom (p : PlanValue) (base : ℕ) (target : Target) (a : AddressedValue) : Type 0 where
  pub plan : a.plan ≡ p
  pub sound : FirstAt (address_rules (plan_parts a.plan) base target) None
  pub least : Least (plan_parts a.plan) base a.places
  pub fits : EndsFit (plan_parts a.plan) a.places (length (plan_parts a.plan))
  pub entry : HasValue (plan_parts a.plan) base target a.entry
