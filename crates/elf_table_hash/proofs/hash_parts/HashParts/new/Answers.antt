-- The parts are those of the definition, field by field, because the section that the symbol table links to is there (`sound_link`). There
-- are as many words as the section's size says, because its type is HASH (`hash_type`). The header and the table lie in the file; so do the
-- symbols, which bounds the number of names.
use Rattle.std.proofs.Common.{inl, inr, ℕ, ◌+◌, ◌/◌, ◌<◌, ◌≤◌, List, length, refl, ap, ◌∙◌, arith}
use Rattle.std.proofs.lemmas.Bool.{cases_lt}
use Rattle.elf_field.specs.Abi.{WORD_SIZE}
use Rattle.elf_field.specs.declared.number.Order.{Order}
use Rattle.elf_table_symbols.specs.Sections.{section, sections_seen}
use Rattle.elf_table_symbols.proofs.Public.{sound_link}
use Rattle.elf_table_hash.specs.HashTable.{names_in}
use Rattle.elf_table_hash.proofs.HashSound.{hash_content, hash_type, names_of_section, length_names, length_words}
use Rattle.elf_table_hash.proofs.hash_parts.HashParts.new.Goals as goal

pub content-strings-requires : goal.content-strings-requires
content-strings-requires c =
    rw c.linked_header-strings_index.ensures (sound_link (sections_seen c.args.linked.table.sections) _ c.requires.symbols)

pub returns-clause-value : goal.returns-clause-value
returns-clause-value c =
    let f = sections_seen c.args.linked.table.sections in
    let names = names_of_section f (section f c.args.linked.table.index).sh_link in
    rw (
      c.header_offset.ensures.value,
      c.new.ensures,
      c.new-2.ensures,
      c.order-order.ensures,
      c.content.ensures.bytes,
      c.linked_content-symbols.ensures.bytes,
      c.content-strings.ensures.bytes,
      c.linked_header-strings_index.ensures,
      names,
      c.header-section.ensures,
    ) refl

-- a content that lies in the file is no longer than the file
no_longer : (n start end : ℕ) → (0 < n → start + n ≤ end) → n ≤ end
no_longer n start end within =
    elim (cases_lt 0 n) [ inl some ↦ (let le = within some in omega arith) | inr none ↦ (let le = none in omega arith) ]

-- the entries of a content are no more than its bytes
few : (o : Order) (table names : List ℕ) (m : ℕ) → length table ≤ m → length (names_in o table names) ≤ m
few o table names m le = rw (length_names o table names) (omega arith)

pub invariant_of-result : goal.invariant_of-result
invariant_of-result c =
    let f = sections_seen c.args.linked.table.sections in
    let i = c.args.linked.table.index in
    let size = c.content.ensures.size ∙ hash_content (section f i) (hash_type f i c.requires.own) in
    let inside = c.content.ensures.inside in
    let linked = c.linked_content-symbols.ensures.inside in
    let header = c.header_offset.ensures.inside in
    record {
      sized = rw (c.new.ensures, length_words) (rw c.header-section.ensures (ap (λ n. n / WORD_SIZE) size));
      header_inside = omega arith;
      table_inside = rw c.header-section.ensures (λ some. (let fits = inside (omega arith) in omega arith));
      names_inside = rw c.new-2.ensures (let fits = no_longer _ _ _ linked in few _ _ _ _ (omega arith));
      named = c.new-2.ensures;
    }
