-- Objects of a link without some of the symbols that nothing needs. (gABI chapter 4, Symbol Table: SHN_UNDEF, STB_LOCAL.)
use Rattle.std.specs.Prelude.{◌≡◌, ◌<◌, ◌⊎◌, ◌↔◌, ℕ, zero, suc, List, length, map, Option, None, Some, option_map}
use Rattle.elf_field.specs.Abi.{STB_LOCAL}
use Rattle.elf_link_files.specs.Files.{object_at}
use Rattle.elf_link_map.specs.LinkMap.{LinkMapValue}
use Rattle.elf_link_map.specs.declared.bindings.Binding.TheVariants as bound
use Rattle.elf_link_map.specs.declared.bindings.Binding.{Binding}
use Rattle.elf_link_names.specs.declared.name_rules.Choice.TheVariants.{Strong, Common, Weak, Zero}
use Rattle.elf_link_names.specs.declared.name_rules.Choice.{Choice}
use Rattle.elf_object_type.specs.Object.{BodyValue, ObjectValue, SectionValue, SymbolValue, binding, bits, group, no_bits, relocs}
use Rattle.elf_object_type.specs.Object.{symbol_at}
use Rattle.elf_object_type.specs.declared.parts.Place.TheVariants.{Undef}
use Rattle.elf_object_type.specs.declared.relocations.Relocation.{Relocation}

-- a relocation and a section whose references to symbols are those at other positions: symbol j is at `at j`

abbrev pub relocation_by : (ℕ → ℕ) → Relocation → Relocation
relocation_by at r = record { offset = r.offset; symbol = option_map at r.symbol; kind = r.kind; addend = r.addend }

abbrev pub body_by : (ℕ → ℕ) → BodyValue → BodyValue
body_by at (bits type content) = bits type content
body_by at (no_bits size) = no_bits size
body_by at (relocs rela target entries) = relocs rela target (map (relocation_by at) entries)
body_by at (group comdat signature members) = group comdat (at signature) members

abbrev pub section_by : (ℕ → ℕ) → SectionValue → SectionValue
section_by at s = record s { body = body_by at s.body }

-- no other file needs a symbol: it is defined nowhere, or is local
abbrev pub IsUnneeded : SymbolValue → Type 0
IsUnneeded s = (s.place ≡ Undef) ⊎ (binding s ≡ STB_LOCAL)

-- object p is o without some symbols that no other file needs and no section refers to: its symbol j is symbol `at j` of o, in the same
-- order, and all else is the same
pub record LeavesOut (o p : ObjectValue) (at : ℕ → ℕ) : Type 0 where
  pub order : p.order ≡ o.order
  pub osabi : p.osabi ≡ o.osabi
  pub abi : p.abi ≡ o.abi
  pub machine : p.machine ≡ o.machine
  pub flags : p.flags ≡ o.flags
  pub sections : map (section_by at) p.sections ≡ o.sections
  pub symbols : (j : ℕ) → symbol_at p j ≡ symbol_at o (at j)
  pub within : (j : ℕ) → (j < length p.symbols) ↔ (at j < length o.symbols)
  pub ascend : (j k : ℕ) → j < k → at j < at k
  pub others : (i : ℕ) → i < length o.symbols → ((j : ℕ) × (at j ≡ i)) ⊎ IsUnneeded (symbol_at o i)

-- where position j of a list is after an item is inserted at position k
abbrev pub inserted_at : ℕ → ℕ → ℕ
inserted_at zero j = suc j
inserted_at (suc k) zero = 0
inserted_at (suc k) (suc j) = suc (inserted_at k j)

-- each file of a link is the other one without some symbols; `at f` has the positions in file f
pub record AreLessSymbols (fs gs : List ObjectValue) (at : ℕ → ℕ → ℕ) : Type 0 where
  pub files : length gs ≡ length fs
  pub each : (f : ℕ) → f < length fs → LeavesOut (object_at fs f) (object_at gs f) (at f)

-- a link map with other bindings of names, and all else as it is
abbrev pub with_bindings : LinkMapValue → List (List ℕ × Binding) → LinkMapValue
with_bindings m bindings = record m { bindings = bindings }

-- what a name is bound to, by the positions of the symbols before
abbrev pub as_before : (ℕ → ℕ → ℕ) → Choice → Choice
as_before at (Strong file symbol) = Strong file (at file symbol)
as_before at (Common size align) = Common size align
as_before at (Weak file symbol) = Weak file (at file symbol)
as_before at Zero = Zero

-- the binding of a name in the link map before and in that after: the same, by the positions of symbols in each, except for the address of
-- a common; or the name was bound to zero, and has no entry any more
abbrev pub IsBindingAfter : (ℕ → ℕ → ℕ) → Option Binding → Option Binding → Type 0
IsBindingAfter at None None = Unit {0}
IsBindingAfter at (Some (bound.Strong file symbol)) (Some (bound.Strong f s)) = (f ≡ file) × (at f s ≡ symbol)
IsBindingAfter at (Some (bound.Common address size align)) (Some (bound.Common a n m)) = (n ≡ size) × (m ≡ align)
IsBindingAfter at (Some (bound.Weak file symbol)) (Some (bound.Weak f s)) = (f ≡ file) × (at f s ≡ symbol)
IsBindingAfter at (Some bound.Zero) (Some bound.Zero) = Unit {0}
IsBindingAfter at (Some bound.Zero) None = Unit {0}
IsBindingAfter at before after = ⊥
