-- The hash table in a section, as a value.
use Rattle.std.specs.Prelude.{ℕ, List, drop}
use Rattle.elf_table_hash.specs.HashTable.{HashValue, symbol_names_of, words_in}
use Rattle.elf_table_hash.specs.declared.hash.HashIter.{HashIter}
use Rattle.elf_table_symbols.specs.Sections.{Sections, content, order, section}

abbrev pub hash_of_section : Sections → ℕ → HashValue
hash_of_section f i = record {
  words = words_in (order f) (content f i);
  names = symbol_names_of f (section f i).sh_link;
}

-- The words that an iterator over a hash table has left.

abbrev pub words_left : HashIter → List ℕ
words_left it = drop it.next it.hash.now.words
