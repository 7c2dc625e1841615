-- Section groups, as values. (gABI chapter 4, Section Groups.)
use Rattle.std.specs.Prelude.{ℕ, ◌+◌, ◌-◌, ◌/◌, ◌<◌, List, length, map, ◌≡◌, ◌≢◌, ◌*◌, ◌≤◌, ◌⊎◌, [], ◌∷◌, ◌++◌, bit_and, get_or}
use Rattle.std.specs.List.{range_with_len}
use Rattle.elf_field.specs.Abi.{WORD_SIZE, GRP_COMDAT, SHF_GROUP, SH_INFO_AT, SH_SIZE_AT}
use Rattle.elf_field.specs.declared.number.Order.{Order}
use Rattle.elf_image_rules.specs.Rows.{AtEntry, Row, Ruled, When, rule}
use Rattle.elf_table_symbols.specs.Sections.{Sections, content, order, section, own_rules, count, header_at}
use Rattle.elf_table_symbols.specs.Symbols.{word, entry_count, symbol_table_rules}
use Rattle.elf_table_symbols.specs.declared.table_section.TableKind.TheVariants.{SectionGroup}

pub record GroupValue : Type 0 where
  pub flags : ℕ
  -- the index of the symbol that is the group's signature
  pub signature : ℕ
  -- the indexes of its sections
  pub members : List ℕ

-- the content of a group: a word of flags, and then a word for each member
abbrev pub group_flags : Order → List ℕ → ℕ
group_flags o words = word o words 0

abbrev pub member_count : List ℕ → ℕ
member_count words = length words / WORD_SIZE - 1

abbrev pub member : Order → List ℕ → ℕ → ℕ
member o words j = word o words (j + 1)

-- each member is above those before it
abbrev pub MembersAscend : Order → List ℕ → Type 0
MembersAscend o words = (k j : ℕ) → k < j → j < member_count words → member o words k < member o words j

unfoldable pub members_in : Order → List ℕ → List ℕ
members_in o words = map (member o words) (range_with_len 0 (member_count words))

-- the group of this content and this signature
abbrev pub group_in : Order → ℕ → List ℕ → GroupValue
group_in o signature words = record { flags = group_flags o words; signature = signature; members = members_in o words }

-- the group that section i holds: its signature is sh_info
unfoldable pub group_of : Sections → ℕ → GroupValue
group_of f i = group_in (order f) (section f i).sh_info (content f i)

-- Rules 55 to 58: the flags, the signature and the members of a section group.
-- (gABI chapter 4, Section Groups; Sections: sh_info, SHF_GROUP.)

-- rule 55: the group has no word of flags
abbrev pub empty_group : Sections → ℕ → Row ℕ
empty_group f i = When ((section f i).sh_size ≡ 0) (header_at f i + SH_SIZE_AT)

-- rule 56: its flags are neither none nor GRP_COMDAT alone
abbrev pub wrong_group_flags : Sections → ℕ → Row ℕ
wrong_group_flags f i =
    let flags = group_flags (order f) (content f i) in
    When ((flags ≢ 0) × (flags ≢ GRP_COMDAT)) (section f i).sh_offset

-- rule 57: its signature is symbol 0, or none of those in the symbol table
abbrev pub wrong_signature : Sections → ℕ → Row ℕ
wrong_signature f i =
    let s = section f i in
    When ((s.sh_info ≡ 0) ⊎ (entry_count (content f s.sh_link) ≤ s.sh_info)) (header_at f i + SH_INFO_AT)

-- section m can't be in the group of section i: its header isn't after the group's, it is not there, or it lacks SHF_GROUP
abbrev pub IsUnfit : Sections → ℕ → ℕ → Type 0
IsUnfit f i m = (m ≤ i) ⊎ (count f ≤ m) ⊎ (bit_and (section f m).sh_flags SHF_GROUP ≡ 0)

-- a member before member j is m
abbrev pub IsNamedBefore : Order → List ℕ → ℕ → ℕ → Type 0
IsNamedBefore o words j m = (k : ℕ) × (k < j) × (member o words k ≡ m)

abbrev pub IsWrongMember : Sections → ℕ → ℕ → Type 0
IsWrongMember f i j =
    let m = member (order f) (content f i) j in
    IsUnfit f i m ⊎ IsNamedBefore (order f) (content f i) j m

-- marks of members, none of which is above `end`
abbrev pub AreMarksUpTo : ℕ → List ℕ → Type 0
AreMarksUpTo end marks = (m : ℕ) → get_or marks m 0 ≤ end

-- rule 58: a member can't be in the group, or is in it twice
abbrev pub wrong_member : Sections → ℕ → Row ℕ
wrong_member f i =
    AtEntry (member_count (content f i)) (IsWrongMember f i) (λ j. (section f i).sh_offset + WORD_SIZE * (j + 1))

-- rules 55 to 57, which need no memory
unfoldable pub group_front_rules : Sections → ℕ → List {1} (Ruled ℕ)
group_front_rules f i = rule 55 (empty_group f i) ∷ rule 56 (wrong_group_flags f i) ∷ rule 57 (wrong_signature f i) ∷ []

unfoldable pub group_member_rules : Sections → ℕ → List {1} (Ruled ℕ)
group_member_rules f i = rule 58 (wrong_member f i) ∷ []

unfoldable pub group_rules : Sections → ℕ → List {1} (Ruled ℕ)
group_rules f i = group_front_rules f i ++ group_member_rules f i

-- all rules of the group in section i but rule 58, and all of them, in the order in which they are tested
unfoldable pub group_section_front : Sections → ℕ → List {1} (Ruled ℕ)
group_section_front f i = own_rules SectionGroup f i ++ (symbol_table_rules f (section f i).sh_link ++ group_front_rules f i)

unfoldable pub group_section_rules : Sections → ℕ → List {1} (Ruled ℕ)
group_section_rules f i = own_rules SectionGroup f i ++ (symbol_table_rules f (section f i).sh_link ++ group_rules f i)
