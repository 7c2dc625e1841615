-- The fields of applied entries: the bytes of their targets that they change.
-- (gABI chapter 4, Relocation: r_offset; relocation rules are this project's profile.)
use Rattle.std.specs.Prelude.{ℕ, ◌<◌, Bool, false, List, [], get_or, length, ◌≡◌, ◌≢◌, ◌+◌, ◌≤◌, ◌^◌, if◌then◌else◌, nat_eq, Option, None}
use Rattle.std.specs.Prelude.{Some, option_map, IfSome, ℤ, ◌∷◌}
use Rattle.elf_field.specs.Abi.{STB_LOCAL}
use Rattle.elf_image_rules.specs.Rows.{Row, Ruled, rule}
use Rattle.elf_link_field.specs.Field.{IsFirstRelocationRule, size_of, addend_at, relocation_number, Admits, HasNoRelocationRule}
use Rattle.elf_link_field.specs.declared.rule.Form.TheVariants.{None as NoForm}
use Rattle.elf_link_field.specs.declared.rule.RelocRule.{RelocRule}
use Rattle.elf_link_files.specs.Files.{Discarded, object_at, section_in, Live, symbol_in}
use Rattle.elf_link_files.specs.Rows.{Before, FirstAt}
use Rattle.elf_link_files.specs.declared.fault.LinkFault.TheVariants.{Rule, OutOfMemory}
use Rattle.elf_link_files.specs.declared.fault.LinkFault.{LinkFault}
use Rattle.elf_link_files.specs.declared.site.Site.{Site}
use Rattle.elf_link_map.specs.LinkMap.{LinkMapValue, bound_in}
use Rattle.elf_link_map.specs.Standing.{address_in}
use Rattle.elf_link_map.specs.declared.bindings.Binding.TheVariants.{Strong, Common, Weak, Zero}
use Rattle.elf_link_map.specs.declared.bindings.Binding.{Binding}
use Rattle.elf_link_outputs.specs.Placed.{cell}
use Rattle.elf_object_type.specs.Object.{BodyValue, bits, no_bits, relocs, group, ObjectValue, no_relocation, binding}
use Rattle.elf_object_type.specs.declared.parts.Place.TheVariants.{Undef, Abs, In, Common as CommonPlace}
use Rattle.elf_object_type.specs.declared.parts.Place.{Place}
use Rattle.elf_object_type.specs.declared.relocations.Relocation.{Relocation}

-- The relocation entries of the files of a link, and which of them are applied.
-- (gABI chapter 4, Relocation; Sections: sh_info; Section Groups: GRP_COMDAT.)

-- the entries of a section's body, the section that they relocate, and whether they have addends; another body has none
abbrev pub entries_of : BodyValue → List Relocation
entries_of (bits type content) = []
entries_of (no_bits size) = []
entries_of (relocs rela target entries) = entries
entries_of (group comdat signature members) = []

abbrev pub target_of : BodyValue → ℕ
target_of (bits type content) = 0
target_of (no_bits size) = 0
target_of (relocs rela target entries) = target
target_of (group comdat signature members) = 0

abbrev pub is_rela : BodyValue → Bool
is_rela (bits type content) = false
is_rela (no_bits size) = false
is_rela (relocs rela target entries) = rela
is_rela (group comdat signature members) = false

-- at a site: the body of the section that lists the entry, the entry, and the section that it relocates
abbrev pub body_at : List ObjectValue → Site → BodyValue
body_at fs p = (section_in fs p.file p.index).body

abbrev pub entry_at : List ObjectValue → Site → Relocation
entry_at fs p = get_or (entries_of (body_at fs p)) p.entry no_relocation

abbrev pub target_at : List ObjectValue → Site → ℕ
target_at fs p = target_of (body_at fs p)

-- the site of an entry: a file, a section of it, an entry of that
pub record IsEntrySite (fs : List ObjectValue) (p : Site) : Type 0 where
  pub file : p.file < length fs
  pub section : p.index < length (object_at fs p.file).sections
  pub entry : p.entry < length (entries_of (body_at fs p))

-- the entries of a section are applied where it is not discarded and their target is live
abbrev pub AreApplied : List ObjectValue → ℕ → ℕ → Type 0
AreApplied fs f s = (¬ Discarded fs f s) × Live fs f (target_of (section_in fs f s).body)

abbrev pub IsApplied : List ObjectValue → Site → Type 0
IsApplied fs p = IsEntrySite fs p × AreApplied fs p.file p.index

-- an entry has a field by this relocation rule: it is applied, and the rule is the first one of its kind and has a form
pub record HasField (fs : List ObjectValue) (rules : List RelocRule) (p : Site) (r : RelocRule) : Type 0 where
  pub applied : IsApplied fs p
  pub rule : IsFirstRelocationRule (entry_at fs p).kind rules r
  pub form : r.form ≢ NoForm

-- the bytes of a section's body
abbrev pub content_of : BodyValue → List ℕ
content_of (bits type content) = content
content_of (no_bits size) = []
content_of (relocs rela target entries) = []
content_of (group comdat signature members) = []

abbrev pub content_in : List ObjectValue → ℕ → ℕ → List ℕ
content_in fs f s = content_of (section_in fs f s).body

-- the bytes that an entry's field is in
abbrev pub content_at : List ObjectValue → Site → List ℕ
content_at fs p = content_in fs p.file (target_at fs p)

-- where the field starts and ends there
abbrev pub field_start : List ObjectValue → Site → ℕ
field_start fs p = (entry_at fs p).offset

abbrev pub field_end : List ObjectValue → Site → RelocRule → ℕ
field_end fs p r = field_start fs p + size_of r.width

-- it has the byte at offset x of its target
abbrev pub HasOffset : List ObjectValue → Site → RelocRule → ℕ → Type 0
HasOffset fs p r x = (field_start fs p ≤ x) × (x < field_end fs p r)

-- it ends within its target
abbrev pub IsWithin : List ObjectValue → Site → RelocRule → Type 0
IsWithin fs p r = field_end fs p r ≤ length (content_at fs p)

-- two entries relocate one section, and their fields share a byte of it
abbrev pub HaveOneTarget : List ObjectValue → Site → Site → Type 0
HaveOneTarget fs p q = (p.file ≡ q.file) × (target_at fs p ≡ target_at fs q)

abbrev pub Share : List ObjectValue → Site → RelocRule → Site → RelocRule → Type 0
Share fs p r q s = HaveOneTarget fs p q × ((x : ℕ) × HasOffset fs p r x × HasOffset fs q s x)

-- The value of a symbol at the addresses of a link map: a whole number, or none where the symbol has no value.
-- (gABI chapter 4, Symbol Table: st_value; STB_LOCAL.)

-- of a symbol of file f by its place: absolute, or so far after the start of a section that has an address
abbrev pub place_value : LinkMapValue → ℕ → Place → ℕ → Option ℕ
place_value m f Undef value = None
place_value m f Abs value = Some value
place_value m f CommonPlace value = None
place_value m f (In s) value = option_map (λ a. a + value) (cell m.addresses f s)

abbrev pub definition_value : List ObjectValue → LinkMapValue → ℕ → ℕ → Option ℕ
definition_value fs m f i = place_value m f (symbol_in fs f i).place (symbol_in fs f i).value

-- of a binding: that of its definition; a common's address; zero
abbrev pub binding_value : List ObjectValue → LinkMapValue → Binding → Option ℕ
binding_value fs m (Strong file symbol) = definition_value fs m file symbol
binding_value fs m (Common address size align) = Some address
binding_value fs m (Weak file symbol) = definition_value fs m file symbol
binding_value fs m Zero = Some 0

abbrev pub bound_value : List ObjectValue → LinkMapValue → Option Binding → Option ℕ
bound_value fs m None = None
bound_value fs m (Some bound) = binding_value fs m bound

abbrev pub name_value : List ObjectValue → LinkMapValue → List ℕ → Option ℕ
name_value fs m name = bound_value fs m (bound_in m.bindings name)

-- of symbol i of file f: a local one has its own, another one that of its name's binding
abbrev pub resolved_value : List ObjectValue → LinkMapValue → ℕ → ℕ → Option ℕ
resolved_value fs m f i =
    if nat_eq (binding (symbol_in fs f i)) STB_LOCAL then definition_value fs m f i else name_value fs m (symbol_in fs f i).name

-- of an entry: that of its symbol, 0 where it has none
abbrev pub reference_value : List ObjectValue → LinkMapValue → ℕ → Option ℕ → Option ℕ
reference_value fs m f None = Some 0
reference_value fs m f (Some i) = resolved_value fs m f i

abbrev pub value_at : List ObjectValue → LinkMapValue → Site → Option ℕ
value_at fs m p = reference_value fs m p.file (entry_at fs p).symbol

-- at most the sum of an address and a st_value: below 2^65
abbrev pub IsSmall : Option ℕ → Type 0
IsSmall value = IfSome value (λ v. v < 2 ^ 65)

-- The number of a field: S + A, or S + A - P. (gABI chapter 4, Relocation.)

-- P: the address of an entry's field
abbrev pub field_address : List ObjectValue → LinkMapValue → Site → ℕ
field_address fs m p = address_in m p.file (target_at fs p) + field_start fs p

-- A: the entry's addend; in a section of type REL the number that is in the field of the input
abbrev pub addend_of : List ObjectValue → Site → RelocRule → ℤ
addend_of fs p r =
    if is_rela (body_at fs p) then (entry_at fs p).addend
    else addend_at (object_at fs p.file).order r.range (content_at fs p) (field_start fs p) (size_of r.width)

-- the number of a field; None if its symbol has no value (S)
abbrev pub number_at : List ObjectValue → LinkMapValue → Site → RelocRule → Option ℤ
number_at fs m p r = option_map (λ value. relocation_number r.form value (addend_of fs p r) (field_address fs m p)) (value_at fs m p)

-- Rules 12 to 16 of the link, on the applied entries, and the first one that is broken. (gABI chapter 4, Relocation; relocation rules are
-- this project's profile.)

-- rule 12: an applied entry whose kind has no relocation rule
abbrev pub no_rule : List ObjectValue → List RelocRule → Row Site
no_rule fs rules p = IsApplied fs p × HasNoRelocationRule (entry_at fs p).kind rules

-- the row of a rule on each field
abbrev pub AtField : List ObjectValue → List RelocRule → (Site → RelocRule → Type 0) → Row Site
AtField fs rules P p = (r : RelocRule) × HasField fs rules p r × P p r

-- rule 13: its symbol has no value
abbrev pub IsUnplaced : List ObjectValue → LinkMapValue → Site → RelocRule → Type 0
IsUnplaced fs m p r = value_at fs m p ≡ None

abbrev pub unplaced : List ObjectValue → LinkMapValue → List RelocRule → Row Site
unplaced fs m rules = AtField fs rules (IsUnplaced fs m)

-- rule 14: it passes the end of its target
abbrev pub IsFieldOutOfRange : List ObjectValue → Site → RelocRule → Type 0
IsFieldOutOfRange fs p r = ¬ IsWithin fs p r

abbrev pub field_out_of_range : List ObjectValue → List RelocRule → Row Site
field_out_of_range fs rules = AtField fs rules (IsFieldOutOfRange fs)

-- rule 15: it shares a byte with a field before it
abbrev pub SharesEarlier : List ObjectValue → List RelocRule → Site → RelocRule → Type 0
SharesEarlier fs rules p r = (q : Site) × (s : RelocRule) × Before q p × HasField fs rules q s × Share fs q s p r

abbrev pub fields_overlap : List ObjectValue → List RelocRule → Row Site
fields_overlap fs rules = AtField fs rules (SharesEarlier fs rules)

-- rule 16: its number, which is made of the field's own bytes where the section is of type REL, is one that it does not admit
abbrev pub IsValueOutOfRange : List ObjectValue → LinkMapValue → Site → RelocRule → Type 0
IsValueOutOfRange fs m p r = IsWithin fs p r × ((z : ℤ) × (number_at fs m p r ≡ Some z) × ¬ Admits r.range (size_of r.width) z)

abbrev pub value_out_of_range : List ObjectValue → LinkMapValue → List RelocRule → Row Site
value_out_of_range fs m rules = AtField fs rules (IsValueOutOfRange fs m)

abbrev pub applied_entry_rules : List ObjectValue → LinkMapValue → List RelocRule → List {1} (Ruled Site)
applied_entry_rules fs m rules =
    rule 12 (no_rule fs rules) ∷
    rule 13 (unplaced fs m rules) ∷
    rule 14 (field_out_of_range fs rules) ∷
    rule 15 (fields_overlap fs rules) ∷
    rule 16 (value_out_of_range fs m rules) ∷ []

-- the first of rules 12 to 16 that is broken, at its first site; or an allocation failed
abbrev pub IsRelocationFault : List ObjectValue → LinkMapValue → List RelocRule → LinkFault → Type 0
IsRelocationFault fs m rules (Rule number file index entry) =
    FirstAt (applied_entry_rules fs m rules) (Some (number, record { file = file; index = index; entry = entry }))
IsRelocationFault fs m rules OutOfMemory = Unit {0}
