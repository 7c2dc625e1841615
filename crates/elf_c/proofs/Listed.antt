-- What is found by the numbers of a file or table is what a file lists that breaks no rule; and it is in the struct or the buffer that it
-- is
-- put into.
use Rattle.std.proofs.Common.{◌≡◌, ◌<◌, ◌↔◌, Bool, ℕ, List, None, Option, Some, ap, inl, inr, length, refl, subst, sym, ◌∙◌}
use Rattle.std.proofs.lemmas.Bool.{OnTrue_from, cases_lt}
use Rattle.std.specs.Bool.{OnTrue}
use Rattle.std.specs.Prelude.{IfSome, IsSome, IsTrue, SomeIff}
use Rattle.elf_c.proofs.ReadEntries.{array_counted, array_counted_in, entry_before_null, entry_by_numbers, relocation_by_numbers}
use Rattle.elf_c.proofs.ReadEntries.{relocations_counted, symbol_by_numbers, symbol_there}
use Rattle.elf_c.proofs.ReadFiles.{section_at, section_below}
use Rattle.elf_c.proofs.ReadTables.{table_kind}
use Rattle.elf_c.specs.Bulk.{IsFilled}
use Rattle.elf_c.specs.Files.{IsFileOf, ListsSection, ReadsSection, order_named, section_shape}
use Rattle.elf_c.specs.Tables.{IsTableOf, ListsDynamic, ListsRelocation, ListsSymbol, ReadsDynamic, ReadsRelocation, ReadsSymbol}
use Rattle.elf_c.specs.Tables.{dynamic_shape, relocation_shape, slot_bytes, reported_symbol}
use Rattle.elf_c.specs.declared.shapes.DynamicEntry.{DynamicEntry}
use Rattle.elf_c.specs.declared.shapes.File.{File}
use Rattle.elf_c.specs.declared.shapes.Relocation.{Relocation}
use Rattle.elf_c.specs.declared.shapes.Section.{Section}
use Rattle.elf_c.specs.declared.shapes.Symbol.{Symbol}
use Rattle.elf_c.specs.declared.shapes.Table.{Table}
use Rattle.elf_table_lists.specs.Dynamic.{dynamic_array_of}
use Rattle.elf_table_symbols.specs.Sections.{sections_in}
use Rattle.elf_table_symbols.specs.Symbols.{symbol_entry_in, symbols_of}
use Rattle.elf_table_symbols.specs.declared.table_section.TableKind.TheVariants.{DynamicArray, RelocationTable, SymbolTable}

-- ---- the entry of an index

pub section_listed_as : (f : File) (b : List ℕ) (j : ℕ) (r : Option Section) → IsFileOf f b → ReadsSection f b j r → ListsSection b j r
section_listed_as f b j None is none = λ below. none (section_at f b j is below).there
section_listed_as f b j (Some x) is (has, same) =
    let below = section_below f b j (length b) is has in
    (below, same ∙ ap section_shape (section_at f b j is below).read)

pub symbol_listed_as : (t : Table) (b : List ℕ) (i j : ℕ) (r : Option Symbol) → IsTableOf SymbolTable t b i → ReadsSymbol t b j r →
    IfSome r (λ s. reported_symbol b s ≡
    symbol_entry_in (order_named t.ei_data) (slot_bytes b t.content) (slot_bytes b t.strings) (slot_bytes b t.linked) j) →
    ListsSymbol b i j r
symbol_listed_as t b i j None is none said =
    let past = (symbol_there t b i j is).1 in
    elim (cases_lt j (length (symbols_of (sections_in b) i))) [
      | inl below ↦ absurd (none (past below))
      | inr le ↦ le
    ]
symbol_listed_as t b i j (Some x) is (has, same) said = ((symbol_there t b i j is).0 has, said ∙ symbol_by_numbers t b i j is has.1)

pub relocation_listed_as : (t : Table) (b : List ℕ) (i j : ℕ) (r : Option Relocation) → IsTableOf RelocationTable t b i →
    ReadsRelocation t b j r →
    ListsRelocation b i j r
relocation_listed_as t b i j None is none =
    λ below. none (table_kind RelocationTable t b i is, subst (λ (n : ℕ). j < n) (sym (relocations_counted t b i is)) below)
relocation_listed_as t b i j (Some x) is (has, same) =
    (subst (λ (n : ℕ). j < n) (relocations_counted t b i is) has.1, same ∙ ap relocation_shape (relocation_by_numbers t b i j is has.1))

pub dynamic_listed_as : (t : Table) (b : List ℕ) (i j : ℕ) (r : Option DynamicEntry) → IsTableOf DynamicArray t b i → ReadsDynamic t b j r →
    ListsDynamic b i j r
dynamic_listed_as t b i j None is none =
    λ below. none (
      table_kind DynamicArray t b i is,
      entry_before_null (order_named t.ei_data) (slot_bytes b t.content) j
          (subst (λ (n : ℕ). j < n) (sym (array_counted_in t b i is)) below),
      subst (λ (n : ℕ). j < n) (sym (array_counted t b i is)) below,
    )
dynamic_listed_as t b i j (Some x) is (has, same) =
    let below : j < length (dynamic_array_of (sections_in b) i) = subst (λ (n : ℕ). j < n) (array_counted t b i is) has.2 in
    (below, same ∙ ap dynamic_shape (entry_by_numbers t b i j is below))

-- ---- where it is put

-- what is there is reported
pub put_there : {T : Type 0} (P : Type 0) (v : T) (r : Option T) (b : Bool) → SomeIff r P v → (IsTrue b ↔ IsSome r) → IsTrue b ↔ P
put_there P v None b none there = (λ yes. (let some = there.0 yes in absurd cc), λ holds. absurd (none holds))
put_there P v (Some x) b (holds, same) there = (λ _. holds, λ _. there.1 refl)

-- and the struct has it
pub put_value : {T : Type 0} (P : Type 0) (v : T) (r : Option T) (b : Bool) (new : T) → SomeIff r P v → (IsTrue b ↔ IsSome r) →
    IfSome r (λ x. new ≡ x) → OnTrue b (new ≡ v)
put_value P v None b new none there put = OnTrue_from b _ (λ yes. (let some = there.0 yes in absurd cc))
put_value P v (Some x) b new (holds, same) there put = OnTrue_from b _ (λ yes. put ∙ same)

-- what is known of each entry is known of the entries in a buffer
pub filled_as : {T : Type 0} (P Q : ℕ → Option T → Type 0) → ((j : ℕ) (r : Option T) → P j r → Q j r) →
    (first : ℕ) (old new : List T) (count : ℕ) →
    IsFilled P first old new count → IsFilled Q first old new count
filled_as {T} P Q weaker first old new count filled = record {
  long = filled.long;
  fits = filled.fits;
  right = λ k d below. weaker _ _ (filled.right k d below);
  others = filled.others;
  all = λ more index. weaker _ _ (filled.all more index);
}
