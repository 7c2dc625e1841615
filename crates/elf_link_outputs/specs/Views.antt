-- What contracts see of outputs, of plans and of addressed plans.
use Rattle.std.specs.Prelude.{map, ◌≡◌}
use Rattle.elf_link_files.specs.Rows.{AreIn, AreSymbols}
use Rattle.elf_link_outputs.specs.Outputs.{AreInOrder, AreOutputs, flat, OutputsValue, SectionsValue, parts_of, PlanValue, AddressedValue}
use Rattle.elf_link_outputs.specs.Outputs.{plan_parts}
use Rattle.elf_link_outputs.specs.Placed.{AreAllIn, AreLive, AreSome, ArePlaced}
use Rattle.elf_link_outputs.specs.declared.addresses.Addressed.TheInside.{Inside as AddressedInside}
use Rattle.elf_link_outputs.specs.declared.outputs.Outputs.TheInside.{Inside as OutputsInside}
use Rattle.elf_link_outputs.specs.declared.outputs.Sections.TheInside.{Inside as SectionsInside}
use Rattle.elf_link_outputs.specs.declared.plan.Plan.TheInside.{Inside}

-- What contracts see of sections of some files, and of their output sections; and what is true of these.

abbrev pub sections_value : SectionsInside → SectionsValue
sections_value l = record { objects = l.objects.now; sites = l.sites.now }

-- each is a section of its file, and they are in order
pub record AreSections (l : SectionsInside) : Type 0 where
  pub within : AreIn l.objects.now l.sites.now
  pub order : AreInOrder l.sites.now

abbrev pub outputs_value : OutputsInside → OutputsValue
outputs_value o = record { objects = o.objects.now; groups = map (λ ms. ms.items) o.groups.items }

-- they are the output sections of the files: each has a member, and each live section is a member once
pub record AreOutputSections (o : OutputsInside) : Type 0 where
  pub outputs : AreOutputs o.objects.now (map (λ ms. ms.items) o.groups.items)
  pub within : AreAllIn o.objects.now (map (λ ms. ms.items) o.groups.items)
  pub some : AreSome (map (λ ms. ms.items) o.groups.items)
  pub live : AreLive o.objects.now (flat (map (λ ms. ms.items) o.groups.items))

-- What contracts see of a plan, and what is true of it.

abbrev pub plan_value : Inside → PlanValue
plan_value p = record {
  objects = p.outputs.objects;
  page = p.page;
  plan = record { outputs = p.outputs.groups; commons = p.commons.now };
}

-- the sites are those of all outputs, the parts those of the outputs and commons, and each common is a symbol of its file
pub record IsPlanned (p : Inside) : Type 0 where
  pub sites : p.sites.items ≡ flat p.outputs.groups
  pub parts : p.parts.items ≡ parts_of p.outputs.objects p.page (record { outputs = p.outputs.groups; commons = p.commons.now })
  pub commons : AreSymbols p.outputs.objects p.commons.now

-- What contracts see of a plan at its addresses, and what is true of it.

abbrev pub addressed_value : AddressedInside → AddressedValue
addressed_value a = record { plan = a.plan; places = a.places.items; entry = a.entry }

-- the parts have their least places, and end there below 2^64
abbrev pub IsAddressed : AddressedInside → Type 0
IsAddressed a = ArePlaced (plan_parts a.plan) a.places.items
