-- What contracts see of the types of this crate.
use Rattle.std.specs.Prelude.{ℕ, List, map, map as map_list, ◌<◌, length, ◌≡◌}
use Rattle.elf_link_files.specs.Files.{object_at}
use Rattle.elf_link_map.specs.Naming.{AreBindingIndexes}
use Rattle.elf_link_map.specs.Standing.{AreObjects, ObjectsFit}
use Rattle.elf_link_relocate.specs.Fields.{IsApplied, body_at, entry_at, is_rela, target_at, HasField}
use Rattle.elf_link_relocate.specs.Linked.{LinkedValue, MappedValue, IsSoundMap, HasPlacedSections}
use Rattle.elf_link_relocate.specs.Passes.{copies_view, LinkingValue, FieldOfValue, IsInTarget, AreFields, FieldListValue, AreFieldsRead}
use Rattle.elf_link_relocate.specs.Passes.{AllWithin}
use Rattle.elf_link_relocate.specs.declared.field.Entry.{Entry}
use Rattle.elf_link_relocate.specs.declared.field.FieldList.TheInside.{Inside as FieldListInside}
use Rattle.elf_link_relocate.specs.declared.linked.Linked.TheInside.{Inside}
use Rattle.elf_link_relocate.specs.declared.linked.Mapped.TheInside.{Inside as MappedInside}
use Rattle.elf_link_relocate.specs.declared.numbers.FieldOf.TheInside.{Inside as FieldOfInside}
use Rattle.elf_link_relocate.specs.declared.values.Linking.TheInside.{Inside as LinkingInside}
use Rattle.elf_link_relocate.specs.declared.values.Values.TheInside.{Inside as ValuesInside}
use Rattle.elf_object_type.specs.Object.{ObjectValue}

-- What contracts see of the relocated bytes of a link, and what is true of them.

abbrev pub linked_value : Inside → LinkedValue
linked_value l = record { map = l.map.now; objects = l.objects.now; rules = l.rules.now; copies = copies_view l.copies.items }

-- each object breaks none of the object rules and fits the fields of a file
pub record HasSoundObjects (l : Inside) : Type 0 where
  pub objects : AreObjects l.objects.now
  pub widths : ObjectsFit l.objects.now

-- What contracts see of objects that are linked, and what is true of them.

abbrev pub mapped_value : MappedInside → MappedValue
mapped_value l = record { objects = l.objects.items; map = l.link.map }

-- the map is the one of the objects, and the indexes those of their names
pub record HasItsMap (l : MappedInside) : Type 0 where
  pub map : IsSoundMap l.objects.items l.link.map
  pub indexes : AreBindingIndexes l.objects.items l.link.map (map_list (λ row. row.items) l.link.indexes.items)

-- The objects, the map and the relocation rules of a link.

abbrev pub linking_value : LinkingInside → LinkingValue
linking_value l = record { objects = l.objects.now; map = l.map.now; rules = l.rules.now }

-- the map says which sections are discarded, and its sections share no byte
abbrev pub IsReady : LinkingInside → Type 0
IsReady l = HasPlacedSections l.objects.now l.map.now

-- A link with the indexes of its names.

-- a symbol of a file
abbrev pub IsFileSymbol : List ObjectValue → ℕ → ℕ → Type 0
IsFileSymbol fs f i = (f < length fs) × (i < length (object_at fs f).symbols)

-- the link: all else follows from it
abbrev pub values_value : ValuesInside → LinkingValue
values_value v = v.linking.now

-- each symbol has the index of its name
abbrev pub HasValues : ValuesInside → Type 0
HasValues v = AreBindingIndexes v.linking.now.objects v.linking.now.map (map (λ row. row.items) v.indexes.now)

-- A field in hand, with its entry.

-- an entry that is applied, and what is at its site
pub record IsAppliedEntry (fs : List ObjectValue) (e : Entry) : Type 0 where
  pub applied : IsApplied fs e.site
  pub rela : e.rela ≡ is_rela (body_at fs e.site)
  pub target : e.target ≡ target_at fs e.site
  pub relocation : e.relocation ≡ entry_at fs e.site

abbrev pub field_of_value : FieldOfInside → FieldOfValue
field_of_value d = record { objects = d.values.now.objects; map = d.values.now.map; rules = d.values.now.rules; field = d.field }

-- the entry is the one at the field's site
pub record IsFieldOf (v : FieldOfValue) (e : Entry) : Type 0 where
  pub site : e.site ≡ v.field.site
  pub entry : IsAppliedEntry v.objects e
  pub has : HasField v.objects v.rules v.field.site v.field.rule
  pub place : IsInTarget v.objects v.field

abbrev pub HasItsEntry : FieldOfInside → Type 0
HasItsEntry d = IsFieldOf (field_of_value d) d.entry

-- A list of all fields of a link, each of which ends within its target.

abbrev pub field_list_value : FieldListInside → FieldListValue
field_list_value l = record { objects = l.values.now.objects; map = l.values.now.map; rules = l.values.now.rules; fields = l.fields.now }

-- all fields, with what they carry
pub record AreFieldsWithin (l : FieldListValue) : Type 0 where
  pub fields : AreFields l.objects l.rules l.fields
  pub read : AreFieldsRead l.objects l.map l.fields
  pub within : AllWithin l.objects l.fields

abbrev pub HasFields : FieldListInside → Type 0
HasFields l = AreFieldsWithin (field_list_value l)
