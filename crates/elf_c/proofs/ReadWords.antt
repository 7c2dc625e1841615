-- The words that are read by the numbers of a table are those of its section; of a group they are its flags and its members.
use Rattle.std.proofs.Common.{◌≡◌, ◌<◌, ◌+◌, ◌-◌, ◌∷◌, ℕ, List, None, Option, Some, ap, arith, get_or, inl, length, map, refl, subst, suc}
use Rattle.std.proofs.Common.{sym, zero, zero-add, ◌∙◌}
use Rattle.std.proofs.lemmas.List.FromFn.{get_or-map-range_with_len}
use Rattle.std.specs.List.{range_with_len}
use Rattle.std.specs.Prelude.{◌/◌}
use Rattle.elf_c.proofs.ReadTables.{content_by_numbers, content_long, order_by_numbers, table_sound, words_counted}
use Rattle.elf_c.specs.Files.{order_named}
use Rattle.elf_c.specs.Places.{HoldsRecords}
use Rattle.elf_c.specs.Tables.{IsTableOf, slot_bytes, words_of}
use Rattle.elf_c.specs.Words.{AreWordsOf, ListsWord, ReadsWord, words_of_group}
use Rattle.elf_c.specs.declared.fields.RecordKind.TheVariants.{Word}
use Rattle.elf_c.specs.declared.shapes.Table.{Table}
use Rattle.elf_field.specs.Abi.{WORD_SIZE}
use Rattle.elf_field.specs.declared.number.Order.{Order}
use Rattle.elf_table_hash.specs.HashTable.{words_in}
use Rattle.elf_table_lists.proofs.Public.{sound_group}
use Rattle.elf_table_lists.specs.Groups.{group_of, members_in}
use Rattle.elf_table_symbols.specs.Sections.{content, order, section, sections_in}
use Rattle.elf_table_symbols.specs.Symbols.{word}
use Rattle.elf_table_symbols.specs.declared.table_section.TableKind.TheVariants.{SectionGroup}

-- ---- the word of an index

word_get : (o : Order) (table : List ℕ) (j : ℕ) → j < length table / WORD_SIZE → get_or (words_in o table) j 0 ≡ word o table j
unfolding words_in
word_get o table j below = get_or-map-range_with_len (word o table) 0 (length table / WORD_SIZE) j j 0 below (zero-add j)

-- by a table's numbers there are as many words as the section has
words_there : (t : Table) (b : List ℕ) (i : ℕ) → AreWordsOf t b i →
    length (slot_bytes b t.content) / WORD_SIZE ≡ length (words_of (sections_in b) i)
words_there t b i are =
    ap (λ (c : List ℕ). length c / WORD_SIZE) (content_by_numbers t b i are.numbers are.there) ∙ words_counted (sections_in b) i

-- and each is the one of its index
words_by_numbers : (t : Table) (b : List ℕ) (i j : ℕ) → AreWordsOf t b i → j < length (slot_bytes b t.content) / WORD_SIZE →
    word (order_named t.ei_data) (slot_bytes b t.content) j ≡ get_or (words_of (sections_in b) i) j 0
words_by_numbers t b i j are below =
    let f = sections_in b in
    let own = content_by_numbers t b i are.numbers are.there in
    ap (λ (o : Order). word o (slot_bytes b t.content) j) (order_by_numbers t b i are.numbers)
    ∙ ap (λ (c : List ℕ). word (order f) c j) own
    ∙ sym (word_get (order f) (content f i) j (subst (λ (c : List ℕ). j < length c / WORD_SIZE) own below))

pub word_listed_as : (t : Table) (b : List ℕ) (i j : ℕ) (r : Option ℕ) → AreWordsOf t b i → ReadsWord t b j r →
    ListsWord (words_of (sections_in b) i) j r
word_listed_as t b i j None are none =
    let f = sections_in b in
    let type : t.sh_type ≡ (section f i).sh_type = ap (λ (u : Table). u.sh_type) are.numbers in
    λ below. none
    (subst (λ (n : ℕ). HoldsRecords n Word) (sym type) are.typed, subst (λ (n : ℕ). j < n) (sym (words_there t b i are)) below)
word_listed_as t b i j (Some x) are (has, same) =
    (subst (λ (n : ℕ). j < n) (words_there t b i are) has.1, same ∙ words_by_numbers t b i j are has.1)

-- ---- the words of a group: it breaks no rule, so it has a word of flags

-- a function at the indexes from a + 1 on
map_later : (f : ℕ → ℕ) (a b n : ℕ) → b ≡ a + 1 → map f (range_with_len b n) ≡ map (λ j. f (j + 1)) (range_with_len a n)
map_later f a b zero is = refl
map_later f a b (suc n) is = rw is (ap (λ (xs : List ℕ). f (a + 1) ∷ xs) (map_later f (a + 1) (a + 1 + 1) n refl))

words_split : (o : Order) (table : List ℕ) (n : ℕ) → length table / WORD_SIZE ≡ suc n →
    words_in o table ≡ word o table 0 ∷ members_in o table
unfolding words_in members_in
words_split o table n counted =
    let less : suc n - 1 ≡ n = omega arith in
    rw (counted, less) (ap (λ (xs : List ℕ). word o table 0 ∷ xs) (map_later (word o table) 0 1 n refl))

pub group_words_listed : (t : Table) (b : List ℕ) (i : ℕ) → IsTableOf SectionGroup t b i →
    words_of (sections_in b) i ≡ words_of_group (group_of (sections_in b) i)
unfolding group_of
group_words_listed t b i is =
    let f = sections_in b in
    let whole = sound_group f i (table_sound SectionGroup t b i is) in
    let typed = whole.typed in
    let long = content_long b i is.kept is.there (λ null. omega arith) (λ bits. omega arith) in
    let sized = whole.sized in
    let some = whole.some in
    words_split (order f) (content f i) (length (content f i) / WORD_SIZE - 1) (omega arith)

-- so they are the words of a table of words
pub group_are_words : (t : Table) (b : List ℕ) (i : ℕ) → IsTableOf SectionGroup t b i → AreWordsOf t b i
group_are_words t b i is = record {
  kept = is.kept;
  there = is.there;
  typed = inl (sound_group (sections_in b) i (table_sound SectionGroup t b i is)).typed;
  numbers = is.numbers;
}

pub group_listed_as : (t : Table) (b : List ℕ) (i j : ℕ) (r : Option ℕ) → IsTableOf SectionGroup t b i → ReadsWord t b j r →
    ListsWord (words_of_group (group_of (sections_in b) i)) j r
group_listed_as t b i j r is read =
    subst (λ (words : List ℕ). ListsWord words j r) (group_words_listed t b i is) (word_listed_as t b i j r (group_are_words t b i is) read)
