-- The nine rules of an object, and the first one that is broken with its least position.
use Rattle.std.specs.Prelude.{◌≡◌, ◌≢◌, ℕ, ◌%◌, ◌<◌, ◌≤◌, ◌⊎◌, false, None, List, [], ◌∷◌, length, pos, Any, Contains, ◌↔◌, Bool, true}
use Rattle.std.specs.Prelude.{slice_index, get_or, SomeIndex, Option, Some, ◌++◌, IfSome}
use Rattle.elf_field.specs.Abi.{SHF_INFO_LINK, SHT_DYNAMIC, SHT_DYNSYM, SHT_GROUP, SHT_HASH, SHT_NOBITS, SHT_NULL, SHT_REL, SHT_RELA}
use Rattle.elf_field.specs.Abi.{SHT_SHLIB, SHT_SYMTAB, SHT_SYMTAB_SHNDX, WORD_SIZE, relocation_size, SHF_GROUP, STB_LOCAL}
use Rattle.elf_image_rules.specs.KeepsRules.{IsAlignment}
use Rattle.elf_image_rules.specs.Rows.{AtEntry, Row, Ruled, rule, FirstIn}
use Rattle.elf_image_rules.specs.Rules.{IsWrongAlignment}
use Rattle.elf_object_type.specs.Object.{BodyValue, bits, no_bits, relocs, group, ObjectValue, SectionValue, section_at, HasFlag, HasZero}
use Rattle.elf_object_type.specs.Object.{IsPast, LacksFlag, info_position, is_bits, is_group, members_of, SymbolValue, binding, symbol_at}
use Rattle.elf_object_type.specs.Object.{no_relocation}
use Rattle.elf_object_type.specs.declared.object.ObjectFault.TheVariants.{Section as ObjectFaultSection, Symbol, OutOfMemory}
use Rattle.elf_object_type.specs.declared.object.ObjectFault.{ObjectFault}
use Rattle.elf_object_type.specs.declared.object_rules.SymbolRule.TheVariants.{ZeroInSymbolName, WrongPlace}
use Rattle.elf_object_type.specs.declared.object_rules.SymbolRule.{SymbolRule}
use Rattle.elf_object_type.specs.declared.parts.Info.TheVariants.{Number, Section}
use Rattle.elf_object_type.specs.declared.parts.Info.{Info}
use Rattle.elf_object_type.specs.declared.parts.Place.TheVariants.{Undef, Abs, Common, In}
use Rattle.elf_object_type.specs.declared.parts.Place.{Place}
use Rattle.elf_object_type.specs.declared.relocations.Relocation.{Relocation}
use Rattle.elf_object_type.specs.declared.section_rules.SectionRule.TheVariants.{ZeroInSectionName, WrongBitsType, WrongAlignment}
use Rattle.elf_object_type.specs.declared.section_rules.SectionRule.TheVariants.{WrongPosition, WrongField}
use Rattle.elf_object_type.specs.declared.section_rules.SectionRule.{SectionRule}

-- Rules 1 to 5 of an object: what each section says by itself, and whether what it names is there.
-- (gABI chapter 4, Sections: sh_type, sh_flags, sh_link, sh_info, sh_addralign, sh_entsize; Relocation.)

-- the section types whose body is another, or that an object can't have
abbrev pub types_without_bits : List ℕ
types_without_bits =
    SHT_NULL ∷ SHT_SYMTAB ∷ SHT_RELA ∷ SHT_HASH ∷ SHT_DYNAMIC ∷ SHT_NOBITS ∷ SHT_REL ∷ SHT_SHLIB ∷ SHT_DYNSYM ∷
    SHT_GROUP ∷ SHT_SYMTAB_SHNDX ∷ []

-- rule 2: the section has bits, and a type that doesn't go with them
abbrev pub IsWrongBitsType : BodyValue → Type 0
IsWrongBitsType (bits type content) = Contains types_without_bits type
IsWrongBitsType (no_bits size) = ⊥
IsWrongBitsType (relocs rela target entries) = ⊥
IsWrongBitsType (group comdat signature members) = ⊥

-- rule 3: the alignment is neither 0 nor a power of two, or the address is no multiple of it
abbrev pub HasWrongAlignment : SectionValue → Type 0
HasWrongAlignment s = IsWrongAlignment s.align ⊎ ((1 < s.align) × (s.addr % s.align ≢ 0))

-- rule 4: a position in the body names a section or symbol that isn't there, or the target has no bits
abbrev pub IsNoTarget : ObjectValue → ℕ → Type 0
IsNoTarget o target = (length o.sections ≤ target) ⊎ (is_bits (section_at o target).body ≡ false)

abbrev pub HasWrongReference : ObjectValue → BodyValue → Type 0
HasWrongReference o (bits type content) = ⊥
HasWrongReference o (no_bits size) = ⊥
HasWrongReference o (relocs rela target entries) = IsNoTarget o target ⊎ Any (λ entry. IsPast (length o.symbols) entry.symbol) entries
HasWrongReference o (group comdat signature members) = (length o.symbols ≤ signature) ⊎ Any (λ member. length o.sections ≤ member) members

-- or a position in the link or the info does
abbrev pub HasWrongPosition : ObjectValue → SectionValue → Type 0
HasWrongPosition o s =
    IsPast (length o.sections) s.link ⊎ (IsPast (length o.sections) (info_position s.info) ⊎ HasWrongReference o s.body)

-- rule 5: where the body gives info no meaning, it is a number though the flag INFO_LINK says that it is a section's position,
-- or the other way round
abbrev pub IsAgainstFlag : ℕ → Info → Type 0
IsAgainstFlag flags (Number number) = HasFlag flags SHF_INFO_LINK
IsAgainstFlag flags (Section position) = LacksFlag flags SHF_INFO_LINK

-- where it does, the section has a link or an info of its own, or entries of another size, or entries of REL with an addend
abbrev pub HasLinkOrInfo : SectionValue → Type 0
HasLinkOrInfo s = (s.link ≢ None) ⊎ (s.info ≢ Number 0)

abbrev pub HasWrongField : SectionValue → BodyValue → Type 0
HasWrongField s (bits type content) = IsAgainstFlag s.flags s.info
HasWrongField s (no_bits size) = IsAgainstFlag s.flags s.info
HasWrongField s (relocs rela target entries) =
    HasLinkOrInfo s ⊎ ((s.entsize ≢ relocation_size rela) ⊎ ((rela ≡ false) × Any (λ entry. entry.addend ≢ pos 0) entries))
HasWrongField s (group comdat signature members) = HasLinkOrInfo s ⊎ (s.entsize ≢ WORD_SIZE)

-- what breaks each of these rules
abbrev pub BreaksSection : SectionRule → ObjectValue → SectionValue → Type 0
BreaksSection ZeroInSectionName o s = HasZero s.name
BreaksSection WrongBitsType o s = IsWrongBitsType s.body
BreaksSection WrongAlignment o s = HasWrongAlignment s
BreaksSection WrongPosition o s = HasWrongPosition o s
BreaksSection WrongField o s = HasWrongField s s.body

-- the row of such a rule: the positions of the sections that break it
abbrev pub SomeSection : SectionRule → ObjectValue → Row ℕ
SomeSection r o = AtEntry (length o.sections) (λ i. BreaksSection r o (section_at o i)) (λ i. i)

abbrev pub zero_in_section_name : ObjectValue → Row ℕ
zero_in_section_name = SomeSection ZeroInSectionName

abbrev pub wrong_bits_type : ObjectValue → Row ℕ
wrong_bits_type = SomeSection WrongBitsType

abbrev pub wrong_alignment : ObjectValue → Row ℕ
wrong_alignment = SomeSection WrongAlignment

abbrev pub wrong_position : ObjectValue → Row ℕ
wrong_position = SomeSection WrongPosition

abbrev pub wrong_field : ObjectValue → Row ℕ
wrong_field = SomeSection WrongField

unfoldable pub object_section_rules : ObjectValue → List {1} (Ruled ℕ)
object_section_rules o =
    rule 1 (zero_in_section_name o) ∷
    rule 2 (wrong_bits_type o) ∷
    rule 3 (wrong_alignment o) ∷
    rule 4 (wrong_position o) ∷
    rule 5 (wrong_field o) ∷ []

-- Rule 6 of an object: the members of its groups. (gABI chapter 4, Section Groups.)

-- one of the first `count` members is section m
abbrev pub NamesMember : List ℕ → ℕ → ℕ → Type 0
NamesMember members count m = (k : ℕ) × (k < count) × (slice_index members k ≡ m)

-- section m is a member of a group before section i
abbrev pub IsInEarlierGroup : ObjectValue → ℕ → ℕ → Type 0
IsInEarlierGroup o i m =
    (h : ℕ) × (h < i) × (let members = members_of (section_at o h).body in NamesMember members (length members) m)

-- member j of the group in section i, which has these members, is not after it, or named before in it or in an earlier group, or a group
-- itself, or lacks the flag GROUP
abbrev pub IsWrongMembership : ObjectValue → ℕ → List ℕ → ℕ → Type 0
IsWrongMembership o i members j =
    let m = slice_index members j in
    let s = section_at o m in
    (m ≤ i) ⊎ ((NamesMember members j m ⊎ IsInEarlierGroup o i m) ⊎ ((is_group s.body ≡ true) ⊎ LacksFlag s.flags SHF_GROUP))

abbrev pub HasWrongMembership : ObjectValue → ℕ → Type 0
HasWrongMembership o i = let members = members_of (section_at o i).body in SomeIndex members (IsWrongMembership o i members)

-- rule 6: a group has such a member
abbrev pub wrong_membership : ObjectValue → Row ℕ
wrong_membership o = AtEntry (length o.sections) (HasWrongMembership o) (λ i. i)

unfoldable pub object_group_rules : ObjectValue → List {1} (Ruled ℕ)
object_group_rules o = rule 6 (wrong_membership o) ∷ []

-- each section has a mark just where it is one of the first j of these members of section i, or a member of a group before it
pub record AreMembershipMarks (o : ObjectValue) (i : ℕ) (members : List ℕ) (j : ℕ) (marks : List Bool) : Type 0 where
  pub long : length marks ≡ length o.sections
  pub right : (m : ℕ) → m < length marks → (get_or marks m false ≡ true) ↔ (NamesMember members j m ⊎ IsInEarlierGroup o i m)

-- with these marks, section m can't be a member of the group in section i
abbrev pub CannotJoin : ObjectValue → ℕ → List Bool → ℕ → Type 0
CannotJoin o i marks m =
    let s = section_at o m in
    (m ≤ i) ⊎ ((get_or marks m false ≡ true) ⊎ ((is_group s.body ≡ true) ⊎ LacksFlag s.flags SHF_GROUP))

-- Rules 7 to 9 of an object: its symbols. (gABI chapter 4, Symbol Table: st_name, st_shndx, st_info; Sections: sh_info.)

-- the position of the section that a symbol is defined in, where it is in one
abbrev pub place_position : Place → Option ℕ
place_position Undef = None
place_position Abs = None
place_position Common = None
place_position (In position) = Some position

-- the binding of a symbol is local
abbrev pub IsLocal : SymbolValue → Type 0
IsLocal s = binding s ≡ STB_LOCAL

-- what breaks the rules on a symbol by itself
abbrev pub BreaksSymbol : SymbolRule → ObjectValue → SymbolValue → Type 0
BreaksSymbol ZeroInSymbolName o s = HasZero s.name
BreaksSymbol WrongPlace o s = IsPast (length o.sections) (place_position s.place)

abbrev pub SomeSymbol : SymbolRule → ObjectValue → Row ℕ
SomeSymbol r o = AtEntry (length o.symbols) (λ i. BreaksSymbol r o (symbol_at o i)) (λ i. i)

-- rule 7: a symbol's name has a zero byte
abbrev pub zero_in_symbol_name : ObjectValue → Row ℕ
zero_in_symbol_name = SomeSymbol ZeroInSymbolName

-- rule 8: a symbol is defined in a section that isn't there
abbrev pub wrong_place : ObjectValue → Row ℕ
wrong_place = SomeSymbol WrongPlace

-- rule 9: a symbol is local, and one before it is not
abbrev pub IsMisplacedLocal : ObjectValue → ℕ → Type 0
IsMisplacedLocal o i = IsLocal (symbol_at o i) × ((k : ℕ) × (k < i) × ¬ IsLocal (symbol_at o k))

abbrev pub misplaced_local : ObjectValue → Row ℕ
misplaced_local o = AtEntry (length o.symbols) (IsMisplacedLocal o) (λ i. i)

unfoldable pub object_symbol_rules : ObjectValue → List {1} (Ruled ℕ)
object_symbol_rules o =
    rule 7 (zero_in_symbol_name o) ∷
    rule 8 (wrong_place o) ∷
    rule 9 (misplaced_local o) ∷ []

-- in the order of their numbers
unfoldable pub object_rules : ObjectValue → List {1} (Ruled ℕ)
object_rules o = object_section_rules o ++ (object_group_rules o ++ object_symbol_rules o)

-- the value breaks none of them: it is an object
abbrev pub IsObject : ObjectValue → Type 0
IsObject o = FirstIn (object_rules o) None

-- the fault of a value: rules 1 to 6 are those of sections; memory is only taken for groups, after rules 1 to 5
abbrev pub IsObjectFault : ObjectValue → ObjectFault → Type 0
IsObjectFault o (ObjectFaultSection number position) = (number ≤ 6) × FirstIn (object_rules o) (Some (number, position))
IsObjectFault o (Symbol number position) = (6 < number) × FirstIn (object_rules o) (Some (number, position))
IsObjectFault o OutOfMemory = FirstIn (object_section_rules o) None

-- What an object has that keeps its nine rules: one fact for each, in the standard's words.
-- (gABI chapter 4, Sections: sh_name, sh_type, sh_flags, sh_addr, sh_addralign, sh_link, sh_info, sh_entsize; Section Groups;
-- Symbol Table: st_name, st_shndx, st_info; Relocation.)

-- each section, and each symbol
abbrev pub EachSection : ObjectValue → (SectionValue → Type 0) → Type 0
EachSection o P = (p : ℕ) → p < length o.sections → P (section_at o p)

abbrev pub EachSymbol : ObjectValue → (SymbolValue → Type 0) → Type 0
EachSymbol o P = (k : ℕ) → k < length o.symbols → P (symbol_at o k)

-- rule 2: a section of bits has a type that goes with them
abbrev pub HasBitsType : BodyValue → Type 0
HasBitsType (bits type content) = ¬ Contains types_without_bits type
HasBitsType (no_bits size) = Unit {0}
HasBitsType (relocs rela target entries) = Unit {0}
HasBitsType (group comdat signature members) = Unit {0}

-- rule 3: the address is a multiple of the alignment
pub record IsAligned (s : SectionValue) : Type 0 where
  pub alignment : IsAlignment s.align
  pub address : 1 < s.align → s.addr % s.align ≡ 0

-- rule 4: what a section names is there. Relocations apply to section p, which has bits; the entries name symbols
pub record HasRelocationReferences (o : ObjectValue) (p : ℕ) (es : List Relocation) : Type 0 where
  pub target_there : p < length o.sections
  pub target_bits : is_bits (section_at o p).body ≡ true
  pub symbols_there : (e : ℕ) → e < length es → IfSome (get_or es e no_relocation).symbol (λ k. k < length o.symbols)

-- the signature of a group is symbol k
pub record HasGroupReferences (o : ObjectValue) (k : ℕ) (ms : List ℕ) : Type 0 where
  pub signature_there : k < length o.symbols
  pub members_there : (j : ℕ) → j < length ms → slice_index ms j < length o.sections

abbrev pub HasReferences : ObjectValue → BodyValue → Type 0
HasReferences o (bits type content) = Unit {0}
HasReferences o (no_bits size) = Unit {0}
HasReferences o (relocs rela target entries) = HasRelocationReferences o target entries
HasReferences o (group comdat signature members) = HasGroupReferences o signature members

pub record HasRightPositions (o : ObjectValue) (s : SectionValue) : Type 0 where
  pub link_there : IfSome s.link (λ p. p < length o.sections)
  pub info_there : IfSome (info_position s.info) (λ p. p < length o.sections)
  pub references : HasReferences o s.body

-- rule 5: info is a section's position just where the flag INFO_LINK says so
abbrev pub FollowsFlag : ℕ → Info → Type 0
FollowsFlag flags (Number number) = LacksFlag flags SHF_INFO_LINK
FollowsFlag flags (Section position) = HasFlag flags SHF_INFO_LINK

-- where the body gives link and info their meaning there are no others; the entries have this size
pub record HasEntryFields (s : SectionValue) (size : ℕ) : Type 0 where
  pub no_link : s.link ≡ None
  pub no_info : s.info ≡ Number 0
  pub entry_size : s.entsize ≡ size

-- entries of REL have no addend
abbrev pub HasNoAddends : List Relocation → Type 0
HasNoAddends entries = (e : ℕ) → e < length entries → (get_or entries e no_relocation).addend ≡ pos 0

abbrev pub HasRightFields : SectionValue → BodyValue → Type 0
HasRightFields s (bits type content) = FollowsFlag s.flags s.info
HasRightFields s (no_bits size) = FollowsFlag s.flags s.info
HasRightFields s (relocs rela target entries) = HasEntryFields s (relocation_size rela) × (rela ≡ false → HasNoAddends entries)
HasRightFields s (group comdat signature members) = HasEntryFields s WORD_SIZE

-- rule 6: the members of the group in section p, and member j
abbrev pub group_members : ObjectValue → ℕ → List ℕ
group_members o p = members_of (section_at o p).body

abbrev pub member_in : ObjectValue → ℕ → ℕ → ℕ
member_in o p j = slice_index (group_members o p) j

abbrev pub EachMember : ObjectValue → (ℕ → ℕ → Type 0) → Type 0
EachMember o P = (p j : ℕ) → p < length o.sections → j < length (group_members o p) → P p (member_in o p j)

-- a group is before its members, which have the flag GROUP and are no groups; a section is a member once, and of one group
pub record HasRightMembers (o : ObjectValue) : Type 0 where
  pub members_after : EachMember o (λ p m. p < m)
  pub flagged : EachMember o (λ p m. HasFlag (section_at o m).flags SHF_GROUP)
  pub no_group : EachMember o (λ p m. is_group (section_at o m).body ≡ false)
  pub once : (p j k : ℕ) → p < length o.sections → j < length (group_members o p) → k < length (group_members o p) →
      member_in o p j ≡ member_in o p k → j ≡ k
  pub of_one : (p q j k : ℕ) → p < length o.sections → q < length o.sections → j < length (group_members o p) →
      k < length (group_members o q) →
      member_in o p j ≡ member_in o q k → p ≡ q

-- rules 1 to 9
pub record KeepsObjectRules (o : ObjectValue) : Type 0 where
  -- 1, zero_in_section_name
  pub section_names : EachSection o (λ s. ¬ HasZero s.name)
  -- 2, wrong_bits_type
  pub bits_types : EachSection o (λ s. HasBitsType s.body)
  -- 3, wrong_alignment
  pub alignments : EachSection o IsAligned
  -- 4, wrong_position
  pub positions : EachSection o (HasRightPositions o)
  -- 5, wrong_field
  pub fields : EachSection o (λ s. HasRightFields s s.body)
  -- 6, wrong_membership
  pub membership : HasRightMembers o
  -- 7, zero_in_symbol_name
  pub symbol_names : EachSymbol o (λ s. ¬ HasZero s.name)
  -- 8, wrong_place
  pub places_there : EachSymbol o (λ s. IfSome (place_position s.place) (λ p. p < length o.sections))
  -- 9, misplaced_local
  pub locals_first : (k j : ℕ) → k < j → j < length o.symbols → IsLocal (symbol_at o j) → IsLocal (symbol_at o k)
