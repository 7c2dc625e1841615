-- The files of a link: objects in the order they are given, by position from 0.
use Rattle.std.specs.Prelude.{ℕ, ◌≡◌, ◌<◌, ◌⊎◌, List, [], get_or, length, ◌↔◌, Bool, true, false, ◌≢◌, map}
use Rattle.elf_field.specs.Abi.{SHF_ALLOC, STB_GLOBAL, STB_LOCAL, STB_WEAK}
use Rattle.elf_field.specs.declared.number.Order.TheVariants.{Little}
use Rattle.elf_link_files.specs.declared.inputs.Inputs.TheInside.{Inside}
use Rattle.elf_link_files.specs.declared.inputs.SectionId.{SectionId}
use Rattle.elf_link_files.specs.declared.inputs.SymbolId.{SymbolId}
use Rattle.elf_object_type.specs.Object.{ObjectValue, SectionValue, SymbolValue, section_at, symbol_at, BodyValue, bits, no_bits, relocs}
use Rattle.elf_object_type.specs.Object.{group, members_of, HasFlag, binding}
use Rattle.elf_object_type.specs.ObjectRules.{NamesMember}
use Rattle.elf_object_type.specs.declared.parts.Place.TheVariants.{Undef, Abs, Common, In}
use Rattle.elf_object_type.specs.declared.parts.Place.{Place}

-- the one used for a file that isn't there
abbrev pub no_object : ObjectValue
no_object = record { order = Little; osabi = 0; abi = 0; machine = 0; flags = 0; sections = []; symbols = [] }

abbrev pub object_at : List ObjectValue → ℕ → ObjectValue
object_at fs f = get_or fs f no_object

-- section s, and symbol i, of file f
abbrev pub section_in : List ObjectValue → ℕ → ℕ → SectionValue
section_in fs f s = section_at (object_at fs f) s

abbrev pub symbol_in : List ObjectValue → ℕ → ℕ → SymbolValue
symbol_in fs f i = symbol_at (object_at fs f) i

-- position k of file f comes before position j of file g
abbrev pub IsEarlier : ℕ → ℕ → ℕ → ℕ → Type 0
IsEarlier f k g j = (f < g) ⊎ ((f ≡ g) × (k < j))

-- The sections and symbols of the files, by file and position.

-- a section, or a symbol, of the files
abbrev pub IsSectionIn : List ObjectValue → SectionId → Type 0
IsSectionIn fs id = (id.file < length fs) × (id.index < length (object_at fs id.file).sections)

abbrev pub IsSymbolIn : List ObjectValue → SymbolId → Type 0
IsSymbolIn fs id = (id.file < length fs) × (id.index < length (object_at fs id.file).symbols)

-- the one that it names
abbrev pub section_with : List ObjectValue → SectionId → SectionValue
section_with fs id = section_in fs id.file id.index

abbrev pub symbol_with : List ObjectValue → SymbolId → SymbolValue
symbol_with fs id = symbol_in fs id.file id.index

-- Which sections are discarded: the members of each COMDAT group whose signature an earlier one has.
-- (gABI chapter 4, Section Groups: GRP_COMDAT.)

abbrev pub is_comdat : BodyValue → Bool
is_comdat (bits type content) = false
is_comdat (no_bits size) = false
is_comdat (relocs rela target entries) = false
is_comdat (group comdat signature members) = comdat

-- the position of a group's signature symbol; 0 for another body
abbrev pub signature_position : BodyValue → ℕ
signature_position (bits type content) = 0
signature_position (no_bits size) = 0
signature_position (relocs rela target entries) = 0
signature_position (group comdat signature members) = signature

-- section g of file f is a COMDAT group
abbrev pub IsComdat : List ObjectValue → ℕ → ℕ → Type 0
IsComdat fs f g = (f < length fs) × (g < length (object_at fs f).sections) × (is_comdat (section_in fs f g).body ≡ true)

-- its signature: the name of its signature symbol
abbrev pub signature : List ObjectValue → ℕ → ℕ → List ℕ
signature fs f g = (symbol_in fs f (signature_position (section_in fs f g).body)).name

-- a COMDAT group before section g of file f has this signature
abbrev pub IsSeen : List ObjectValue → ℕ → ℕ → List ℕ → Type 0
IsSeen fs f g name = (e h : ℕ) × IsEarlier e h f g × IsComdat fs e h × (signature fs e h ≡ name)

-- section s of file f is a member of the group in section g
abbrev pub IsGroupMember : List ObjectValue → ℕ → ℕ → ℕ → Type 0
IsGroupMember fs f g s = (let members = members_of (section_in fs f g).body in NamesMember members (length members) s)

-- section s of file f is a member of a COMDAT group of the file, and an earlier COMDAT group has its signature
abbrev pub Discarded : List ObjectValue → ℕ → ℕ → Type 0
Discarded fs f s = (g : ℕ) × IsComdat fs f g × IsGroupMember fs f g s × IsSeen fs f g (signature fs f g)

-- the mark of section s of file f, of marks for each section of each file
abbrev pub mark : List (List Bool) → ℕ → ℕ → Bool
mark marks f s = get_or (get_or marks f []) s false

-- the sections with a mark are those that are discarded
pub record AreDiscardMarks (fs : List ObjectValue) (marks : List (List Bool)) : Type 0 where
  pub files : length marks ≡ length fs
  pub long : (f : ℕ) → f < length fs → length (get_or marks f []) ≡ length (object_at fs f).sections
  pub right : (f s : ℕ) → f < length fs → s < length (object_at fs f).sections → (mark marks f s ≡ true) ↔ Discarded fs f s

-- Live sections: those that take memory while the program runs.

-- the body is bits, or takes memory without them
abbrev pub is_loadable : BodyValue → Bool
is_loadable (bits type content) = true
is_loadable (no_bits size) = true
is_loadable (relocs rela target entries) = false
is_loadable (group comdat signature members) = false

-- it has the flag ALLOC, takes memory, with bits or without, and is not discarded
abbrev pub Live : List ObjectValue → ℕ → ℕ → Type 0
Live fs f s = HasFlag (section_in fs f s).flags SHF_ALLOC × (is_loadable (section_in fs f s).body ≡ true) × ¬ Discarded fs f s

-- What a symbol is to the link. (gABI chapter 4, Symbol Table: st_info, st_shndx, st_value.)

abbrev pub is_common : Place → Bool
is_common Undef = false
is_common Abs = false
is_common Common = true
is_common (In s) = false

-- a place in file f is a definition: absolute, or in a section that is not discarded
abbrev pub IsDefinedAt : List ObjectValue → ℕ → Place → Type 0
IsDefinedAt fs f Undef = ⊥
IsDefinedAt fs f Abs = Unit {0}
IsDefinedAt fs f Common = ⊥
IsDefinedAt fs f (In s) = ¬ Discarded fs f s

-- it counts as undefined: nowhere, or in a section that is discarded
abbrev pub IsUndefinedAt : List ObjectValue → ℕ → Place → Type 0
IsUndefinedAt fs f Undef = Unit {0}
IsUndefinedAt fs f Abs = ⊥
IsUndefinedAt fs f Common = ⊥
IsUndefinedAt fs f (In s) = Discarded fs f s

-- symbol i of file f is an entry of the name: it has it, and is not local
abbrev pub IsEntry : List ObjectValue → List ℕ → ℕ → ℕ → Type 0
IsEntry fs name f i = (binding (symbol_in fs f i) ≢ STB_LOCAL) × ((symbol_in fs f i).name ≡ name)

-- a definition of the name that is GLOBAL, or WEAK
abbrev pub IsDefinition : ℕ → List ObjectValue → List ℕ → ℕ → ℕ → Type 0
IsDefinition bound fs name f i =
    ((symbol_in fs f i).name ≡ name) × (binding (symbol_in fs f i) ≡ bound) × IsDefinedAt fs f (symbol_in fs f i).place

abbrev pub IsStrong : List ObjectValue → List ℕ → ℕ → ℕ → Type 0
IsStrong = IsDefinition STB_GLOBAL

abbrev pub IsWeak : List ObjectValue → List ℕ → ℕ → ℕ → Type 0
IsWeak = IsDefinition STB_WEAK

-- an entry of the name that is COMMON, or that is not WEAK
abbrev pub IsCommon : List ObjectValue → List ℕ → ℕ → ℕ → Type 0
IsCommon fs name f i = IsEntry fs name f i × (is_common (symbol_in fs f i).place ≡ true)

abbrev pub IsNotWeak : List ObjectValue → List ℕ → ℕ → ℕ → Type 0
IsNotWeak fs name f i = IsEntry fs name f i × (binding (symbol_in fs f i) ≢ STB_WEAK)

-- the section of a place, where it is in one, is one of the object's
abbrev pub IsPlaceIn : ObjectValue → Place → Type 0
IsPlaceIn o Undef = Unit {0}
IsPlaceIn o Abs = Unit {0}
IsPlaceIn o Common = Unit {0}
IsPlaceIn o (In s) = s < length o.sections

-- Marks on members of a group.

-- the first n of these members have a mark now, besides those that had one before
pub record AreMembersMarked (before : List Bool) (members : List ℕ) (n : ℕ) (row : List Bool) : Type 0 where
  pub long : length row ≡ length before
  pub right : (s : ℕ) → s < length before → (get_or row s false ≡ true) ↔ ((get_or before s false ≡ true) ⊎ NamesMember members n s)

-- The files of a link with their discarded sections, as the functions of `Inputs` look at them.

-- the files: the marks follow from them
abbrev pub objects_of : Inside → List ObjectValue
objects_of i = i.objects.now

-- the sections with a mark are those that are discarded
abbrev pub AreMarked : Inside → Type 0
AreMarked i = AreDiscardMarks i.objects.now (map (λ row. row.items) i.marks.items)
