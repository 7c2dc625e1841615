-- If a group or a dynamic section breaks no rule, the section that it links to is there, by its own rules. A group's symbol table breaks no
-- rule, which the group's rules include, and has the symbol of the signature. A table that breaks no rule has the verdict None, because it
-- has one fault only (`one_fault`).
use Rattle.std.proofs.Common.{◌≡◌, ◌≢◌, ℕ, ◌+◌, inl, inr, sym, ◌∙◌, None, Option, Some, length, subst, ◌<◌, List, get_or, refl, ◌*◌, ◌≤◌}
use Rattle.std.proofs.lemmas.Bool.{cases_eq, cases_lt}
use Rattle.elf_extent.specs.declared.extent.Extent.{Extent}
use Rattle.elf_field.proofs.RecordTableLaws.{record_of_part}
use Rattle.elf_field.specs.Abi.{SHT_SYMTAB, DYN_SIZE, RELA_SIZE, REL_SIZE, SYM_SIZE, WORD_SIZE}
use Rattle.elf_field.specs.Entries.{dyn_at, rel_at, rela_at, sym_at, word_at}
use Rattle.elf_field.specs.laws.Entries.{dyn_laws, rel_laws, rela_laws, sym_laws, word_laws}
use Rattle.elf_field.specs.declared.number.Order.{Order}
use Rattle.elf_image_rules.proofs.Public.{FirstIn-after, FirstIn-front, one_fault}
use Rattle.elf_image_rules.specs.Rows.{FirstIn}
use Rattle.elf_image_rules.specs.Tables.{bytes_in}
use Rattle.elf_table_all.specs.Tables.{AreAllIndexTables, index_tables_at, rules_of_kind, table_rules, AreVerdicts, HasSoundTable}
use Rattle.elf_table_all.specs.Tables.{TablesValue}
use Rattle.elf_table_all.specs.declared.verdicts.AllIndexTables.{AllIndexTables}
use Rattle.elf_table_lists.specs.Dynamic.{dynamic_section_rules, dynamic_entry}
use Rattle.elf_table_lists.specs.Groups.{group_front_rules, group_rules, group_section_rules}
use Rattle.elf_table_symbols.proofs.Public.{index_tables_noted, index_tables_passed, length_symbols, link_there, symbols_kind}
use Rattle.elf_table_symbols.specs.Sections.{Sections, section, sections_of, kind_of, own_rules, content, count, order}
use Rattle.elf_table_symbols.specs.Symbols.{IsIndexTable, noted, entry_count, symbol_table_rules, symbols_of, entry, word}
use Rattle.elf_table_symbols.specs.declared.table_section.TableKind.TheVariants.{DynamicArray, SectionGroup, SymbolTable}
use Rattle.elf_table_symbols.specs.declared.table_section.TableKind.{TableKind}

-- The index tables of all symbol tables, found section by section.

-- a section that is an index table of none changes nothing
pub all_passed : (f : Sections) (j : ℕ) (all : AllIndexTables) → AreAllIndexTables f j all → ((i : ℕ) → IsIndexTable f i j → ⊥) →
    AreAllIndexTables f (j + 1) all
all_passed f j all are other = record { right = λ i. index_tables_passed f i j _ (are.right i) (other i) }

-- one that is one is noted where it belongs
pub all_noted : (f : Sections) (j link : ℕ) (old now : AllIndexTables) → AreAllIndexTables f j old → IsIndexTable f link j →
    index_tables_at now link ≡ noted (index_tables_at old link) j → ((i : ℕ) → i ≢ link → index_tables_at now i ≡ index_tables_at old i) →
    AreAllIndexTables f (j + 1) now
all_noted f j link old now are is here others = record {
  right = λ i. elim (cases_eq i link) [
    | inl same ↦ rw (same, here) (index_tables_noted f link j _ (are.right link) is)
    | inr other ↦ rw (others i other) (index_tables_passed f i j _ (are.right i) (λ this. other (sym this.1 ∙ is.1)))
  ];
}

-- Which rules a section's type asks for.

-- a section of this kind has the rules of the kind
pub kind_asked : (f : Sections) (i : ℕ) (kind : Option TableKind) (found : Option (ℕ × ℕ)) → kind_of (section f i).sh_type ≡ kind →
    FirstIn (table_rules f i) found →
    FirstIn (rules_of_kind kind f i) found
unfolding table_rules
kind_asked f i kind found is run = subst (λ (k : Option TableKind). FirstIn (rules_of_kind k f i) found) is run

-- a sound table keeps the rules of its kind
pub sound_rules : (tables : TablesValue) (i : ℕ) (kind : TableKind) →
    AreVerdicts (sections_of tables.image) (length tables.image.sections) tables.verdicts →
    HasSoundTable tables i kind → FirstIn (rules_of_kind (Some kind) (sections_of tables.image) i) None
sound_rules tables i kind verdicts has =
    kind_asked (sections_of tables.image) i (Some kind) None has.typed
    (subst (FirstIn (table_rules (sections_of tables.image) i)) has.sound (verdicts.right i has.there))

-- the verdict on a table that breaks no rule is None
pub none_kept : (f : Sections) (i : ℕ) (kind : Option TableKind) (verdicts : List (Option (ℕ × ℕ))) → AreVerdicts f (count f) verdicts →
    i < count f →
    kind_of (section f i).sh_type ≡ kind → FirstIn (rules_of_kind kind f i) None → get_or verdicts i None ≡ None
unfolding table_rules
none_kept f i kind verdicts are there is sound =
    one_fault (table_rules f i) _ None (are.right i there)
    (subst (λ (k : Option TableKind). FirstIn (rules_of_kind k f i) None) (sym is) sound)

-- ---- a section group

pub group_link : (f : Sections) (i : ℕ) → FirstIn (group_section_rules f i) None → (section f i).sh_link < count f
unfolding group_section_rules
group_link f i sound = link_there SectionGroup f i (FirstIn-front (own_rules SectionGroup f i) _ sound)

-- it links to a symbol table
pub group_symbols : (f : Sections) (i : ℕ) → FirstIn (group_section_rules f i) None →
    kind_of (section f (section f i).sh_link).sh_type ≡ Some SymbolTable
unfolding group_section_rules own_rules
group_symbols f i sound =
    let own = FirstIn-front (own_rules SectionGroup f i) _ sound in
    elim (cases_eq (section f (section f i).sh_link).sh_type SHT_SYMTAB) [
      | inl same ↦ symbols_kind _ (inl same)
      | inr other ↦ absurd (own.1.1.1.0 _ (inr other, refl))
    ]

-- which breaks no rule
pub group_symbols_sound : (f : Sections) (i : ℕ) → FirstIn (group_section_rules f i) None →
    FirstIn (symbol_table_rules f (section f i).sh_link) None
unfolding group_section_rules
group_symbols_sound f i sound = FirstIn-front _ _ (FirstIn-after (own_rules SectionGroup f i) _ sound)

-- and has the symbol that is the group's signature
pub group_signature : (f : Sections) (i : ℕ) → FirstIn (group_section_rules f i) None →
    (section f i).sh_info < length (symbols_of f (section f i).sh_link)
unfolding group_section_rules group_rules group_front_rules symbols_of
group_signature f i sound =
    let rest = FirstIn-after (symbol_table_rules f (section f i).sh_link) _ (FirstIn-after (own_rules SectionGroup f i) _ sound) in
    let front = FirstIn-front (group_front_rules f i) _ rest in
    elim (cases_lt (section f i).sh_info (entry_count (content f (section f i).sh_link))) [
      | inl there ↦ rw (length_symbols (order f) (content f (section f i).sh_link) _ _) there
      | inr past ↦ absurd (front.1.1.0 _ (inr past, refl))
    ]

-- ---- a dynamic section

pub dynamic_link : (f : Sections) (i : ℕ) → FirstIn (dynamic_section_rules f i) None → (section f i).sh_link < count f
unfolding dynamic_section_rules
dynamic_link f i sound = link_there DynamicArray f i (FirstIn-front (own_rules DynamicArray f i) _ sound)

-- An entry that lies inside a content is the record at its place in the file, for symbols, words, relocations and dynamic entries. The
-- content is a part of the file's bytes, and a record of a part is that of the whole (`record_of_part`).

pub symbol_in_file : (o : Order) (b : List ℕ) (e : Extent) (j : ℕ) → SYM_SIZE * j + SYM_SIZE ≤ e.len →
    entry o (bytes_in b e) j ≡ sym_at o b (e.start + SYM_SIZE * j)
unfolding entry
symbol_in_file o b e j within = record_of_part sym_laws o b e.start e.len (SYM_SIZE * j) within

pub word_in_file : (o : Order) (b : List ℕ) (e : Extent) (j : ℕ) → WORD_SIZE * j + WORD_SIZE ≤ e.len →
    word o (bytes_in b e) j ≡ word_at o b (e.start + WORD_SIZE * j)
unfolding word
word_in_file o b e j within = record_of_part word_laws o b e.start e.len (WORD_SIZE * j) within

pub rela_in_file : (o : Order) (b : List ℕ) (e : Extent) (j : ℕ) → RELA_SIZE * j + RELA_SIZE ≤ e.len →
    rela_at o (bytes_in b e) (RELA_SIZE * j) ≡ rela_at o b (e.start + RELA_SIZE * j)
rela_in_file o b e j within = record_of_part rela_laws o b e.start e.len (RELA_SIZE * j) within

pub rel_in_file : (o : Order) (b : List ℕ) (e : Extent) (j : ℕ) → REL_SIZE * j + REL_SIZE ≤ e.len →
    rel_at o (bytes_in b e) (REL_SIZE * j) ≡ rel_at o b (e.start + REL_SIZE * j)
rel_in_file o b e j within = record_of_part rel_laws o b e.start e.len (REL_SIZE * j) within

pub dynamic_in_file : (o : Order) (b : List ℕ) (e : Extent) (j : ℕ) → DYN_SIZE * j + DYN_SIZE ≤ e.len →
    dynamic_entry o (bytes_in b e) j ≡ dyn_at o b (e.start + DYN_SIZE * j)
unfolding dynamic_entry
dynamic_in_file o b e j within = record_of_part dyn_laws o b e.start e.len (DYN_SIZE * j) within
