-- The dynamic array of a file, and its rules. (gABI chapter 5, Dynamic Section.)
use Rattle.std.specs.Prelude.{◌≡◌, ℕ, ℤ, ◌*◌, ◌/◌, ◌||◌, Bool, List, length, map, pos, ◌+◌, ◌<◌, ◌≤◌, true, [], ◌∷◌, ◌++◌}
use Rattle.std.specs.List.{before_first, range_with_len}
use Rattle.std.specs.Ordering.{int_eq}
use Rattle.elf_field.specs.Abi.{DT_NEEDED, DT_NULL, DT_RPATH, DT_RUNPATH, DT_SONAME, DYN_SIZE, D_UN_AT, SH_SIZE_AT}
use Rattle.elf_field.specs.Entries.{dyn_at}
use Rattle.elf_field.specs.declared.dynamic.Dyn.{Dyn}
use Rattle.elf_field.specs.declared.number.Order.{Order}
use Rattle.elf_image_rules.specs.Rows.{AtEntry, Row, Ruled, When, rule}
use Rattle.elf_table_symbols.specs.Sections.{Sections, content, order, own_rules, header_at, section}
use Rattle.elf_table_symbols.specs.Symbols.{linked_string_rules}
use Rattle.elf_table_symbols.specs.declared.table_section.TableKind.TheVariants.{DynamicArray}

-- The dynamic array: the entries of a dynamic section before the first DT_NULL. (gABI chapter 5, Dynamic Section.)

-- entry j of a dynamic section's content, and how many there are
unfoldable pub dynamic_entry : Order → List ℕ → ℕ → Dyn
dynamic_entry o table j = dyn_at o table (DYN_SIZE * j)

abbrev pub dynamic_entry_count : List ℕ → ℕ
dynamic_entry_count table = length table / DYN_SIZE

-- an entry ends the array
abbrev pub IsNullEntry : Dyn → Type 0
IsNullEntry e = e.d_tag ≡ DT_NULL

abbrev pub is_null_entry : Dyn → Bool
is_null_entry e = int_eq e.d_tag DT_NULL

-- the value of an entry with such a tag is the offset of a string
abbrev pub is_string_tag : ℤ → Bool
is_string_tag tag = int_eq tag DT_NEEDED || (int_eq tag DT_SONAME || (int_eq tag DT_RPATH || int_eq tag DT_RUNPATH))

-- the first so many entries
unfoldable pub dynamic_entries : Order → List ℕ → ℕ → List Dyn
dynamic_entries o table n = map (dynamic_entry o table) (range_with_len 0 n)

-- the dynamic array in section i
unfoldable pub dynamic_array_of : Sections → ℕ → List Dyn
dynamic_array_of f i = before_first is_null_entry (dynamic_entries (order f) (content f i) (dynamic_entry_count (content f i)))

-- the entry used for one that isn't there
abbrev pub no_dynamic_entry : Dyn
no_dynamic_entry = record { d_tag = pos 0; d_un = 0 }

-- Rules 63 and 64: the end and the strings of a dynamic array. (gABI chapter 5, Dynamic Section.)

-- entry j of the dynamic section i
abbrev pub entry_of : Sections → ℕ → ℕ → Dyn
entry_of f i j = dynamic_entry (order f) (content f i) j

-- rule 63: no entry ends the array
abbrev pub no_null_entry : Sections → ℕ → Row ℕ
no_null_entry f i =
    When ((j : ℕ) → j < dynamic_entry_count (content f i) → ¬ IsNullEntry (entry_of f i j)) (header_at f i + SH_SIZE_AT)

-- rule 64: a string of an entry before the end begins after the string table, even an empty one
abbrev pub IsDynamicStringPastEnd : ℕ → Dyn → Type 0
IsDynamicStringPastEnd size e = (is_string_tag e.d_tag ≡ true) × (size ≤ e.d_un)

abbrev pub dynamic_string_past_end : Sections → ℕ → Row ℕ
dynamic_string_past_end f i =
    let s = section f i in
    AtEntry (dynamic_entry_count (content f i))
    (λ j. ((k : ℕ) → k ≤ j → ¬ IsNullEntry (entry_of f i k)) × IsDynamicStringPastEnd (length (content f s.sh_link)) (entry_of f i j))
    (λ j. s.sh_offset + DYN_SIZE * j + D_UN_AT)

unfoldable pub dynamic_rules : Sections → ℕ → List {1} (Ruled ℕ)
dynamic_rules f i = rule 63 (no_null_entry f i) ∷ rule 64 (dynamic_string_past_end f i) ∷ []

-- all rules of the dynamic section i, in the order in which they are tested
unfoldable pub dynamic_section_rules : Sections → ℕ → List {1} (Ruled ℕ)
dynamic_section_rules f i =
    let link = (section f i).sh_link in
    own_rules DynamicArray f i ++ (linked_string_rules (content f link) (section f link).sh_offset ++ dynamic_rules f i)
