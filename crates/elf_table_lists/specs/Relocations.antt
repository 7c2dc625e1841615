-- The relocations of a relocation section, as values. (gABI chapter 4, Relocation.)
use Rattle.std.specs.Prelude.{ℕ, ◌*◌, ◌/◌, ◌%◌, ◌^◌, ◌==◌, Bool, true, false, None, Some, List, length, map, ◌+◌, ◌≤◌, [], ◌∷◌, ◌++◌}
use Rattle.std.specs.List.{range_with_len}
use Rattle.elf_field.specs.Abi.{RELA_SIZE, REL_SIZE, SHT_RELA, R_INFO_AT, SH_INFO_AT, relocation_size}
use Rattle.elf_field.specs.Entries.{rel_at, rela_at}
use Rattle.elf_field.specs.declared.number.Order.{Order}
use Rattle.elf_image_rules.specs.Rows.{AtEntry, Row, Ruled, When, rule}
use Rattle.elf_table_lists.specs.declared.relocations.Relocation.{Relocation}
use Rattle.elf_table_symbols.specs.Sections.{Sections, content, order, section, own_rules, count, header_at}
use Rattle.elf_table_symbols.specs.Symbols.{entry_count, symbol_table_rules}
use Rattle.elf_table_symbols.specs.declared.table_section.TableKind.TheVariants.{RelocationTable}

-- the relocations of a section of this type have addends
abbrev pub has_addends : ℕ → Bool
has_addends type = type == SHT_RELA

-- how many relocations there are in a content
abbrev pub relocation_count : Bool → List ℕ → ℕ
relocation_count true table = length table / RELA_SIZE
relocation_count false table = length table / REL_SIZE

-- relocation j
unfoldable pub relocation_in : Bool → Order → List ℕ → ℕ → Relocation
relocation_in true o table j =
    let e = rela_at o table (RELA_SIZE * j) in
    record { offset = e.r_offset; symbol = e.r_info / 2 ^ 32; relocation_type = e.r_info % 2 ^ 32; addend = Some e.r_addend }
relocation_in false o table j =
    let e = rel_at o table (REL_SIZE * j) in
    record { offset = e.r_offset; symbol = e.r_info / 2 ^ 32; relocation_type = e.r_info % 2 ^ 32; addend = None }

unfoldable pub relocations_in : Bool → Order → List ℕ → List Relocation
relocations_in addends o table = map (relocation_in addends o table) (range_with_len 0 (relocation_count addends table))

-- the relocations of section i
unfoldable pub relocations_of : Sections → ℕ → List Relocation
relocations_of f i = relocations_in (has_addends (section f i).sh_type) (order f) (content f i)

-- the relocation used for one that isn't there
abbrev pub no_relocation_entry : Relocation
no_relocation_entry = record { offset = 0; symbol = 0; relocation_type = 0; addend = None }

-- Rules 53 and 54: the target and the symbols of a relocation section. (gABI chapter 4, Relocation; Sections: sh_info.)

-- rule 53: there is no section that the relocations apply to
abbrev pub wrong_target : Sections → ℕ → Row ℕ
wrong_target f i = When (count f ≤ (section f i).sh_info) (header_at f i + SH_INFO_AT)

-- rule 54: a relocation's symbol is none of those in the symbol table
abbrev pub wrong_relocation_symbol : Sections → ℕ → Row ℕ
wrong_relocation_symbol f i =
    let s = section f i in
    let addends = has_addends s.sh_type in
    AtEntry (relocation_count addends (content f i))
    (λ j. entry_count (content f s.sh_link) ≤ (relocation_in addends (order f) (content f i) j).symbol)
    (λ j. s.sh_offset + relocation_size addends * j + R_INFO_AT)

unfoldable pub relocation_entry_rules : Sections → ℕ → List {1} (Ruled ℕ)
relocation_entry_rules f i = rule 53 (wrong_target f i) ∷ rule 54 (wrong_relocation_symbol f i) ∷ []

-- all rules of the relocation section i, in the order in which they are tested
unfoldable pub relocation_section_rules : Sections → ℕ → List {1} (Ruled ℕ)
relocation_section_rules f i =
    own_rules RelocationTable f i ++ (symbol_table_rules f (section f i).sh_link ++ relocation_entry_rules f i)
