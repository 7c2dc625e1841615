-- The link map as a value, and when it is the one of some objects and options.
-- (gABI chapter 4, Symbol Table; outputs and placement are this project's profile.)
use Rattle.std.specs.Prelude.{◌≡◌, ℕ, ◌<◌, Bool, Option, MatchOption, List, [], length, map, ◌⊎◌, None, Some}
use Rattle.std.specs.Map.{lookup}
use Rattle.std.specs.Str.{bytes_eq}
use Rattle.elf_extent.specs.Extent.{Never}
use Rattle.elf_extent.specs.Place.{EndsFit, Least}
use Rattle.elf_link_files.specs.FileRules.{option_rules}
use Rattle.elf_link_files.specs.Files.{AreDiscardMarks}
use Rattle.elf_link_files.specs.Rows.{Lists, name_at, FirstAt, entries}
use Rattle.elf_link_files.specs.declared.fault.LinkFault.TheVariants.{Rule, OutOfMemory}
use Rattle.elf_link_files.specs.declared.fault.LinkFault.{LinkFault}
use Rattle.elf_link_files.specs.declared.fault.Options.{Options}
use Rattle.elf_link_files.specs.declared.site.Site.{Site}
use Rattle.elf_link_map.specs.Entry.{IsEntrySymbolTarget}
use Rattle.elf_link_map.specs.declared.bindings.Binding.TheVariants.{Strong, Common, Weak, Zero}
use Rattle.elf_link_map.specs.declared.bindings.Binding.{Binding}
use Rattle.elf_link_map.specs.declared.bindings.Named.{Named}
use Rattle.elf_link_map.specs.declared.link_map.LinkMap.TheInside.{Inside}
use Rattle.elf_link_names.specs.Binds.{Binds, first_entries, input_rules}
use Rattle.elf_link_names.specs.Resolution.{AreChosen}
use Rattle.elf_link_names.specs.declared.name_rules.Choice.TheVariants.{Strong as StrongChoice, Common as CommonChoice, Weak as WeakChoice}
use Rattle.elf_link_names.specs.declared.name_rules.Choice.TheVariants.{Zero as ZeroChoice}
use Rattle.elf_link_outputs.specs.Addresses.{HasValue, address_rules}
use Rattle.elf_link_outputs.specs.Outputs.{Plan, parts_of, placed, AreOutputs, AddressedValue}
use Rattle.elf_link_outputs.specs.Placed.{OutputValue, CommonValue, common_at, AreAddresses, ArePlacedOutputs, ArePlacedCommons}
use Rattle.elf_link_outputs.specs.Placed.{output_value, common_value}
use Rattle.elf_link_outputs.specs.declared.addresses.Target.{Target}
use Rattle.elf_object_type.specs.Object.{ObjectValue}

pub record LinkMapValue : Type 0 where
  pub addresses : List (List (Option ℕ))
  pub discarded : List (List Bool)
  pub bindings : List (List ℕ × Binding)
  pub outputs : List OutputValue
  pub commons : List CommonValue
  pub base : ℕ
  pub page : ℕ
  pub entry : ℕ

-- the common at position k has this name
abbrev pub IsCommonNamed : List CommonValue → List ℕ → ℕ → Type 0
IsCommonNamed cs name k = (k < length cs) × ((common_at cs k).name ≡ name)

-- what a name is bound to; a common has its address
abbrev pub IsBinding : List ObjectValue → List CommonValue → List ℕ → Binding → Type 0
IsBinding fs cs name (Strong file symbol) = Binds fs name (StrongChoice file symbol)
IsBinding fs cs name (Common address size align) =
    Binds fs name (CommonChoice size align) × ((k : ℕ) × IsCommonNamed cs name k × ((common_at cs k).address ≡ address))
IsBinding fs cs name (Weak file symbol) = Binds fs name (WeakChoice file symbol)
IsBinding fs cs name Zero = Binds fs name ZeroChoice

-- what a list of names with their bindings has of a name
abbrev pub bound_in : List (List ℕ × Binding) → List ℕ → Option Binding
bound_in bindings name = lookup (bytes_eq name) bindings

-- the one used for a name that isn't there
abbrev pub no_name : List ℕ × Binding
no_name = ([], Zero)

-- each name with an entry is there once, in the order of the first entries
abbrev pub AreNames : List ObjectValue → List (List ℕ × Binding) → Type 0
AreNames fs bindings = (ps : List Site) × Lists (first_entries fs) ps × (map (λ e. e.0) bindings ≡ map (name_at fs) ps)

-- each name with an entry is bound, and no other
abbrev pub AreBindings : List ObjectValue → List CommonValue → List (List ℕ × Binding) → Type 0
AreBindings fs cs bindings = (name : List ℕ) → MatchOption (bound_in bindings name) (Never (entries fs name)) (IsBinding fs cs name)

pub record IsPlan (fs : List ObjectValue) (plan : Plan) : Type 0 where
  pub outputs : AreOutputs fs plan.outputs
  pub commons : AreChosen fs plan.commons

-- the plan of a link, the least places of its parts, and what the entry symbol's value is made of
pub record LinkPlan : Type 0 where
  pub plan : Plan
  pub places : List ℕ
  pub target : Target

abbrev pub link_parts : List ObjectValue → Options → LinkPlan → List (ℕ × ℕ)
link_parts fs opt l = parts_of fs opt.page l.plan

pub record IsLinkPlan (opt : Options) (fs : List ObjectValue) (l : LinkPlan) : Type 0 where
  pub plan : IsPlan fs l.plan
  pub target : IsEntrySymbolTarget fs (placed l.plan) l.plan.commons opt.entry l.target
  pub least : Least (link_parts fs opt l) opt.base l.places

-- the link map of this plan
pub record IsMapOf (opt : Options) (fs : List ObjectValue) (l : LinkPlan) (m : LinkMapValue) : Type 0 where
  pub fits : EndsFit (link_parts fs opt l) l.places (length (link_parts fs opt l))
  pub addresses : AreAddresses fs (placed l.plan) l.places m.addresses
  pub discarded : AreDiscardMarks fs m.discarded
  pub bindings : AreBindings fs m.commons m.bindings
  pub names : AreNames fs m.bindings
  pub outputs : ArePlacedOutputs fs l.plan.outputs (link_parts fs opt l) l.places (length l.plan.outputs) m.outputs
  pub commons : ArePlacedCommons fs l.plan.commons l.places (length (placed l.plan)) (length l.plan.commons) m.commons
  pub base : m.base ≡ opt.base
  pub page : m.page ≡ opt.page
  pub entry : HasValue (link_parts fs opt l) opt.base l.target m.entry

-- the same map with this base, page and entry
abbrev pub with_options : LinkMapValue → ℕ → ℕ → ℕ → LinkMapValue
with_options m base page entry = record m { base = base; page = page; entry = entry }

-- the link map of some objects and options
abbrev pub IsLinkMap : Options → List ObjectValue → LinkMapValue → Type 0
IsLinkMap opt fs m = (l : LinkPlan) × IsLinkPlan opt fs l × IsMapOf opt fs l m

-- the link map of some objects, whatever its base, page and entry are
abbrev pub IsSomeLinkMap : List ObjectValue → LinkMapValue → Type 0
IsSomeLinkMap fs m = (opt : Options) × (base page entry : ℕ) × IsLinkMap opt fs (with_options m base page entry)

-- What contracts see of a link map, its outputs and its commons.

-- a name with its binding
abbrev pub named_value : Named → List ℕ × Binding
named_value n = (n.name.now, n.binding)

abbrev pub link_map_value : Inside → LinkMapValue
link_map_value m = record {
  addresses = map (λ row. row.items) m.addresses.items;
  discarded = map (λ row. row.items) m.discarded.items;
  bindings = m.names;
  outputs = map output_value m.outputs.items;
  commons = map common_value m.commons.items;
  base = m.base;
  page = m.page;
  entry = m.entry;
}

-- The fault of a link: the first of rules 1 to 11 that is broken. Rules 10 and 11 are asked of the plan, where none before is broken.

-- rules 10 and 11 at the plan of the objects
abbrev pub FirstOfAddresses : Options → List ObjectValue → Option (ℕ × Site) → Type 0
FirstOfAddresses opt fs found =
    (l : LinkPlan) × IsLinkPlan opt fs l × FirstAt (address_rules (link_parts fs opt l) opt.base l.target) found

-- the first rule of the link that is broken
abbrev pub FirstOfLink : Options → List ObjectValue → Option (ℕ × Site) → Type 0
FirstOfLink opt fs None = FirstAt (input_rules opt fs) None × FirstOfAddresses opt fs None
FirstOfLink opt fs (Some broken) =
    FirstAt (input_rules opt fs) (Some broken) ⊎ (FirstAt (input_rules opt fs) None × FirstOfAddresses opt fs (Some broken))

-- why objects have no link map: the first rule of 1 to 11 that is broken, with its first site; memory is taken only where rules 1 and 2 are
-- not broken
abbrev pub IsLinkFault : Options → List ObjectValue → LinkFault → Type 0
IsLinkFault opt fs (Rule number file index entry) =
    FirstOfLink opt fs (Some (number, record { file = file; index = index; entry = entry }))
IsLinkFault opt fs OutOfMemory = FirstAt (option_rules opt fs) None

-- these are the only answers: no other map is the link map of these files and options, and no other rule or site the first that is broken
abbrev pub IsOnlyLinkMap : Options → List ObjectValue → LinkMapValue → Type 0
IsOnlyLinkMap opt fs m = (n : LinkMapValue) → IsLinkMap opt fs n → n ≡ m

abbrev pub IsOnlyFirst : (Option (ℕ × Site) → Type 0) → Option (ℕ × Site) → Type 0
IsOnlyFirst First found = (x : Option (ℕ × Site)) → First x → x ≡ found

abbrev pub IsOnlyFault : (Option (ℕ × Site) → Type 0) → LinkFault → Type 0
IsOnlyFault First (Rule number file index entry) = IsOnlyFirst First (Some (number, record { file = file; index = index; entry = entry }))
IsOnlyFault First OutOfMemory = Unit {0}

-- A plan at the addresses that a link gives it.

abbrev pub plan_at : AddressedValue → Target → LinkPlan
plan_at a target = record { plan = a.plan.plan; places = a.places; target = target }

-- the plan of these files and options, and neither rule 10 nor 11 is broken
pub record IsPlacedAt (opt : Options) (fs : List ObjectValue) (a : AddressedValue) (target : Target) : Type 0 where
  pub objects : a.plan.objects ≡ fs
  pub page : a.plan.page ≡ opt.page
  pub plan : IsLinkPlan opt fs (plan_at a target)
  pub sound : FirstAt (address_rules (link_parts fs opt (plan_at a target)) opt.base target) None
  pub fits : EndsFit (link_parts fs opt (plan_at a target)) a.places (length (link_parts fs opt (plan_at a target)))
  pub entry : HasValue (link_parts fs opt (plan_at a target)) opt.base target a.entry

abbrev pub IsAddressedFor : Options → List ObjectValue → AddressedValue → Type 0
IsAddressedFor opt fs a = (target : Target) × IsPlacedAt opt fs a target

-- the first of rules 10 and 11 that is broken, or out of memory
abbrev pub IsAddressingFault : Options → List ObjectValue → LinkFault → Type 0
IsAddressingFault opt fs (Rule number file index entry) =
    FirstOfAddresses opt fs (Some (number, record { file = file; index = index; entry = entry }))
IsAddressingFault opt fs OutOfMemory = Unit {0}
