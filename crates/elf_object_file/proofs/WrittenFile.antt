-- The sections of the file that an object is written as. Own section p has index p + 1; then come the symbol table, its index table if one
-- is needed, and the string tables. By cases on whether there is an index table. What holds of index 0 and of each of these holds of all
-- (`by_section`).
use Rattle.std.proofs.Common.{◌≡◌, ◌≢◌, ◌<◌, ◌≤◌, ◌+◌, ◌-◌, ◌^◌, ◌||◌, ℕ, zero, suc, Bool, true, false, List, [], ◌∷◌, length, map, get_or}
use Rattle.std.proofs.Common.{refl, sym, ap, subst, ◌∙◌, arith, inl, inr, ap₂, ◌⊎◌}
use Rattle.std.specs.Prelude.{◌==◌, if◌then◌else◌, codes, Option, None, Some, slice_index}
use Rattle.std.specs.List.{AllByRecursion, filter, flat_map}
use Rattle.std.proofs.lemmas.Bool.{cases_lt, ne_eqb}
use Rattle.std.proofs.lemmas.List.{map-append, get_or-map, length-map}
use Rattle.elf_field.specs.Abi.{SHT_NOBITS, SHT_NULL, EI_ABIVERSION, EI_OSABI, SHT_DYNAMIC, SHT_DYNSYM, SHT_GROUP, SHT_HASH, SHT_REL}
use Rattle.elf_field.specs.Abi.{SHT_RELA, SHT_SHLIB, SHT_STRTAB, SHT_SYMTAB, SHT_SYMTAB_SHNDX}
use Rattle.elf_field.specs.Bytes.{IsBytes}
use Rattle.elf_field.specs.laws.Bytes.{IsBytes-append, IsBytes-bytes_of, IsBytes-nil}
use Rattle.elf_field.specs.Entries.{rel_bytes, rel_layout, rela_bytes, rela_layout, sym_bytes, sym_layout, word_bytes}
use Rattle.elf_field.specs.Record.{widths}
use Rattle.elf_field.specs.laws.Record.{IsBytes-spelled}
use Rattle.elf_field.specs.declared.number.Order.{Order}
use Rattle.elf_field.specs.declared.shdr.Shdr.{Shdr}
use Rattle.elf_image_outline.specs.Image.{value_names}
use Rattle.elf_image_rules.proofs.Public.{above}
use Rattle.elf_image_type.proofs.Public.{IsBytes-all, order_identified}
use Rattle.elf_field.specs.Strings.{string}
use Rattle.elf_object_file.proofs.WrittenSections.{own_short, symbols_short, last_some, own_typed, written_name_table, written_own}
use Rattle.elf_object_file.proofs.WrittenSections.{written_content, count_of_written, written_last, indexes_no_body, own_type}
use Rattle.elf_object_file.proofs.WrittenSections.{symbols_no_body, written_first}
use Rattle.elf_object_file.specs.ObjectFile.{IsWrittenAt, written_sections}
use Rattle.elf_object_reader.specs.Denotes.{section_name_of}
use Rattle.elf_object_reader.specs.FileRules.{IsForeignType}
use Rattle.elf_object_strings.proofs.Public.{holds_names}
use Rattle.elf_object_strings.specs.StringTable.{string_table, HasNoZero, name_offset}
use Rattle.elf_object_type.proofs.Public.{all_of_each, each_of_all, no_wrong_bits_type, no_wrong_position, no_zero_in_section_name}
use Rattle.elf_object_type.specs.Object.{BodyValue, bits, no_bits, relocs, group, ObjectValue, SectionValue, SymbolValue, no_section}
use Rattle.elf_object_type.specs.Object.{section_at, BodyFits, InfoFits, SectionFits, SymbolFits, IsPast, info_position}
use Rattle.elf_object_type.specs.ObjectRules.{HasWrongReference, IsWrongBitsType}
use Rattle.elf_object_type.specs.declared.parts.Info.TheVariants.{Number, Section}
use Rattle.elf_object_type.specs.declared.parts.Info.{Info}
use Rattle.elf_object_type.specs.declared.relocations.Relocation.{Relocation}
use Rattle.elf_object_layout.proofs.Public.{last_sections, length-plain, no_plain, plain_at, plain_last, plain_own, last_count}
use Rattle.elf_object_layout.specs.Laid.{section_size, PlainSection, body_bytes, body_info, body_link, body_space, body_type, group_words}
use Rattle.elf_object_layout.specs.Laid.{has_index_table, index_of, index_table_section, index_word, is_local, null_symbol, own_info}
use Rattle.elf_object_layout.specs.Laid.{own_section, plain_sections, rel_entry, rela_entry, relocation_bytes, section_names}
use Rattle.elf_object_layout.specs.Laid.{sections_before_names, strings, symbol_entry, symbol_names, symbol_table_section, name_table_at}
use Rattle.elf_object_layout.specs.Laid.{strings_at, symbol_table_at, section_header}
use Rattle.elf_table_symbols.specs.Sections.{content, order, section, Sections, count}

-- The section headers and contents of a written object fit a file: each number its field, each content the size that is reported. The
-- object's own fields are bounded by its widths, the others by the length of a layout that is not too long.

-- ---- what holds of each kind of section holds of all

pub record EachKind (o : ObjectValue) (P : PlainSection → Type 0) : Type 0 where
  pub own : (p : ℕ) → p < length o.sections → P (own_section o (section_at o p))
  pub symbols : P (symbol_table_section o)
  pub indexes : has_index_table o ≡ true → P (index_table_section o)
  pub symbol_strings : P (strings (codes ".strtab") (symbol_names o))
  pub section_strings : P (strings (codes ".shstrtab") (section_names o))

last_of : (o : ObjectValue) (P : PlainSection → Type 0) → EachKind o P → (far : Bool) → has_index_table o ≡ far → (k : ℕ) →
    k < (if far then 4 else 3) → P (get_or (last_sections o far) k no_plain)
unfolding last_sections
last_of o P each true is zero lt = each.symbols
last_of o P each true is (suc zero) lt = each.indexes is
last_of o P each true is (suc (suc zero)) lt = each.symbol_strings
last_of o P each true is (suc (suc (suc zero))) lt = each.section_strings
last_of o P each true is (suc (suc (suc (suc k)))) lt = absurd (omega arith)
last_of o P each false is zero lt = each.symbols
last_of o P each false is (suc zero) lt = each.symbol_strings
last_of o P each false is (suc (suc zero)) lt = each.section_strings
last_of o P each false is (suc (suc (suc k))) lt = absurd (omega arith)

pub each_plain : (o : ObjectValue) (P : PlainSection → Type 0) → EachKind o P → (p : ℕ) → p < length (plain_sections o) → P (plain_at o p)
each_plain o P each p lt = elim (cases_lt p (length o.sections)) [
  | inl own ↦ subst P (sym (plain_own o p own)) (each.own p own)
  | inr last ↦ (
      let far = has_index_table o in
      let many = length-plain o far refl in
      let k : (k : ℕ) × (p ≡ length o.sections + k) = (p - length o.sections, omega arith) in
      subst P (sym (ap (plain_at o) k.1 ∙ plain_last o far refl k.0)) (last_of o P each far refl k.0 (omega arith)))
]

-- ---- bytes

IsBytes-flat : {A : Type 0} (f : A → List ℕ) → ((x : A) → IsBytes (f x)) → (xs : List A) → IsBytes (flat_map f xs)
IsBytes-flat f each [] = IsBytes-nil
IsBytes-flat f each (x ∷ xs) = IsBytes-append (f x) (flat_map f xs) (each x) (IsBytes-flat f each xs)

IsBytes-relocations : (order : Order) (rela : Bool) (entries : List Relocation) → IsBytes (relocation_bytes order rela entries)
IsBytes-relocations order true entries =
    IsBytes-flat (rela_bytes order) (λ e. IsBytes-spelled order [] (widths rela_layout) (rela_layout.values e) IsBytes-nil)
    (map rela_entry entries)
IsBytes-relocations order false entries =
    IsBytes-flat (rel_bytes order) (λ e. IsBytes-spelled order [] (widths rel_layout) (rel_layout.values e) IsBytes-nil)
    (map rel_entry entries)

IsBytes-words : (order : Order) (words : List ℕ) → IsBytes (flat_map (word_bytes order) words)
IsBytes-words order words = IsBytes-flat (word_bytes order) (λ word. IsBytes-bytes_of order 4 word) words

IsBytes-symtab : IsBytes (codes ".symtab")
IsBytes-symtab =
    IsBytes-all (codes ".symtab")
    (omega arith, (omega arith, (omega arith, (omega arith, (omega arith, (omega arith, (omega arith, tt)))))))

IsBytes-symtab_shndx : IsBytes (codes ".symtab_shndx")
IsBytes-symtab_shndx =
    IsBytes-all (codes ".symtab_shndx") (
      omega arith,
      (
        omega arith,
        (
          omega arith,
          (
            omega arith,
            (
              omega arith,
              (omega arith, (omega arith, (omega arith, (omega arith, (omega arith, (omega arith, (omega arith, (omega arith, tt)))))))),
            ),
          ),
        ),
      ),
    )

IsBytes-strtab : IsBytes (codes ".strtab")
IsBytes-strtab =
    IsBytes-all (codes ".strtab")
    (omega arith, (omega arith, (omega arith, (omega arith, (omega arith, (omega arith, (omega arith, tt)))))))

IsBytes-shstrtab : IsBytes (codes ".shstrtab")
IsBytes-shstrtab =
    IsBytes-all (codes ".shstrtab") (
      omega arith,
      (omega arith, (omega arith, (omega arith, (omega arith, (omega arith, (omega arith, (omega arith, (omega arith, tt)))))))),
    )

-- ---- the names

pub section_names_are : (o : ObjectValue) → section_names o ≡ map (λ (s : PlainSection). s.name) (plain_sections o)
unfolding section_names plain_sections
section_names_are o =
    sym (map-append (λ (s : PlainSection). s.name) (sections_before_names o) (strings (codes ".shstrtab") (section_names o) ∷ []))

names_are_bytes : (o : ObjectValue) (places : List ℕ) → IsWrittenAt o places → EachKind o (λ s. IsBytes s.name)
names_are_bytes o places written = record {
  own = λ p lt. (each_of_all SectionFits o.sections no_section written.widths.sections p lt).name;
  symbols = IsBytes-symtab;
  indexes = λ far. IsBytes-symtab_shndx;
  symbol_strings = IsBytes-strtab;
  section_strings = IsBytes-shstrtab;
}

IsBytes-section_names : (o : ObjectValue) (places : List ℕ) → IsWrittenAt o places → IsBytes (string_table (section_names o))
IsBytes-section_names o places written =
    let each = each_plain o (λ s. IsBytes s.name) (names_are_bytes o places written) in
    let names = all_of_each (λ (s : PlainSection). IsBytes s.name) (plain_sections o) no_plain each in
    (holds_names (section_names o)).bytes (subst (AllByRecursion IsBytes) (sym (section_names_are o)) (map_all (plain_sections o) names))
  where
    map_all : (sections : List PlainSection) → AllByRecursion (λ (s : PlainSection). IsBytes s.name) sections →
        AllByRecursion IsBytes (map (λ (s : PlainSection). s.name) sections)
    map_all [] all = tt
    map_all (s ∷ sections) all = (all.0, map_all sections all.1)

IsBytes-symbol_names : (o : ObjectValue) (places : List ℕ) → IsWrittenAt o places → IsBytes (string_table (symbol_names o))
IsBytes-symbol_names o places written = (holds_names (symbol_names o)).bytes (map_all o.symbols written.widths.symbols)
  where
    map_all : (symbols : List SymbolValue) → AllByRecursion SymbolFits symbols →
        AllByRecursion IsBytes (map (λ (s : SymbolValue). s.name) symbols)
    map_all [] all = tt
    map_all (s ∷ symbols) all = (all.0.name, map_all symbols all.1)

-- ---- each number fits its field

abbrev pub taken : PlainSection → ℕ
taken s = if (s.type == SHT_NULL) || (s.type == SHT_NOBITS) then 0 else section_size s

pub record PlainFits (s : PlainSection) : Type 0 where
  pub type : s.type < 2 ^ 32
  pub flags : s.flags < 2 ^ 64
  pub addr : s.addr < 2 ^ 64
  pub link : s.link < 2 ^ 32
  pub info : s.info < 2 ^ 32
  pub align : s.align < 2 ^ 64
  pub entsize : s.entsize < 2 ^ 64
  pub space : s.space < 2 ^ 64
  pub bytes : IsBytes s.content
  -- what the file holds of it is its content
  pub taken : taken s ≡ length s.content

pub index_short : (n : ℕ) (r : Option ℕ) → (IsPast n r → ⊥) → index_of r ≤ n
index_short n None near = omega arith
index_short n (Some p) near = let below = above p n near in omega arith

info_short : (n : ℕ) (i : Info) → n < 2 ^ 32 → InfoFits i → (IsPast n (info_position i) → ⊥) → own_info i < 2 ^ 32
info_short n (Number number) lt fits near = fits
info_short n (Section p) lt fits near = let below = above p n near in omega arith

bits_taken : (type : ℕ) (n : ℕ) → type ≢ 0 → type ≢ 8 →
    (if (type == SHT_NULL) || (type == SHT_NOBITS) then 0 else (if type == SHT_NOBITS then 0 else n)) ≡ n
bits_taken type n some other = rw (ne_eqb type SHT_NULL some, ne_eqb type SHT_NOBITS other) refl

-- a body with the section's own fields
abbrev own_with : ObjectValue → SectionValue → BodyValue → PlainSection
own_with o s b = record {
  name = s.name;
  type = body_type b;
  flags = s.flags;
  addr = s.addr;
  link = body_link o s b;
  info = body_info s b;
  align = s.align;
  entsize = s.entsize;
  space = body_space b;
  content = body_bytes o.order b;
}

-- what the rules and widths say of the body
record IsFitBody (o : ObjectValue) (s : SectionValue) (b : BodyValue) : Type 0 where
  fits : BodyFits b
  bits : IsWrongBitsType b → ⊥
  link : IsPast (length o.sections) s.link → ⊥
  info : IsPast (length o.sections) (info_position s.info) → ⊥
  reference : HasWrongReference o b → ⊥

relocations_fit : (o : ObjectValue) (s : SectionValue) (rela : Bool) (target : ℕ) (entries : List Relocation) →
    body_type (relocs rela target entries) < 2 ^ 32
    → taken (own_with o s (relocs rela target entries)) ≡ length (body_bytes o.order (relocs rela target entries))
    → length o.sections + 3 < 2 ^ 24 → SectionFits s → IsFitBody o s (relocs rela target entries) →
    PlainFits (own_with o s (relocs rela target entries))
relocations_fit o s rela target entries type all few fits body =
    let within = above target (length o.sections) (λ past. body.reference (inl (inl past))) in
    record {
      type = type;
      flags = fits.flags;
      addr = fits.addr;
      link = omega arith;
      info = omega arith;
      align = fits.align;
      entsize = fits.entsize;
      space = omega arith;
      bytes = IsBytes-relocations o.order rela entries;
      taken = all;
    }

own_fits : (o : ObjectValue) (s : SectionValue) (b : BodyValue) → length o.sections + 3 < 2 ^ 24 → length o.symbols < 2 ^ 30 →
    SectionFits s → IsFitBody o s b → PlainFits (own_with o s b)
own_fits o s (bits type content) few some fits body =
    let link = index_short (length o.sections) s.link body.link in
    record {
      type = body.fits.0;
      flags = fits.flags;
      addr = fits.addr;
      link = omega arith;
      info = info_short (length o.sections) s.info (omega arith) fits.info body.info;
      align = fits.align;
      entsize = fits.entsize;
      space = omega arith;
      bytes = body.fits.1;
      taken = bits_taken type (length content) (λ same. body.bits (0, omega arith, sym same))
          (λ same. body.bits (5, omega arith, sym same));
    }
own_fits o s (no_bits size) few some fits body =
    let link = index_short (length o.sections) s.link body.link in
    record {
      type = omega arith;
      flags = fits.flags;
      addr = fits.addr;
      link = omega arith;
      info = info_short (length o.sections) s.info (omega arith) fits.info body.info;
      align = fits.align;
      entsize = fits.entsize;
      space = body.fits;
      bytes = IsBytes-nil;
      taken = refl;
    }
own_fits o s (relocs true target entries) few some fits body = relocations_fit o s true target entries (omega arith) refl few fits body
own_fits o s (relocs false target entries) few some fits body = relocations_fit o s false target entries (omega arith) refl few fits body
own_fits o s (group comdat signature members) few some fits body =
    let within = above signature (length o.symbols) (λ past. body.reference (inl past)) in
    record {
      type = omega arith;
      flags = fits.flags;
      addr = fits.addr;
      link = omega arith;
      info = omega arith;
      align = fits.align;
      entsize = fits.entsize;
      space = omega arith;
      bytes = IsBytes-words o.order (group_words comdat members);
      taken = refl;
    }

locals_short : (symbols : List SymbolValue) → length (filter is_local symbols) ≤ length symbols
locals_short [] = omega arith
locals_short (s ∷ symbols) = by_one (is_local s) (locals_short symbols)
  where
    by_one : (one : Bool) → length (filter is_local symbols) ≤ length symbols →
        length (if one then s ∷ filter is_local symbols else filter is_local symbols) ≤ suc (length symbols)
    by_one true le = omega arith
    by_one false le = omega arith

pub plain_fits : (o : ObjectValue) (places : List ℕ) → IsWrittenAt o places → EachKind o PlainFits
plain_fits o places written =
    let few = own_short o places written in
    let some = symbols_short o places written in
    let locals = locals_short o.symbols in
    let far_by = strings_at_short (has_index_table o) in
    record {
      own = λ p lt.
          let s = section_at o p in
          let fits = each_of_all SectionFits o.sections no_section written.widths.sections p lt in
          let position = no_wrong_position o written.object p lt in
          own_fits o s s.body few (omega arith) fits (record {
            fits = fits.body;
            bits = no_wrong_bits_type o written.object p lt;
            link = λ past. position (inl past);
            info = λ past. position (inr (inl past));
            reference = λ wrong. position (inr (inr wrong));
          });
      symbols = record {
        type = omega arith;
        flags = omega arith;
        addr = omega arith;
        link = far_by;
        info = omega arith;
        align = omega arith;
        entsize = omega arith;
        space = omega arith;
        bytes = IsBytes-flat (sym_bytes o.order) (λ e. IsBytes-spelled o.order [] (widths sym_layout) (sym_layout.values e) IsBytes-nil)
            (null_symbol ∷ map (symbol_entry o) o.symbols);
        taken = refl;
      };
      indexes = λ far. record {
        type = omega arith;
        flags = omega arith;
        addr = omega arith;
        link = omega arith;
        info = omega arith;
        align = omega arith;
        entsize = omega arith;
        space = omega arith;
        bytes = IsBytes-words o.order (0 ∷ map (λ s. index_word s.place) o.symbols);
        taken = refl;
      };
      symbol_strings = strings_fit (codes ".strtab") (symbol_names o) (IsBytes-symbol_names o places written);
      section_strings = strings_fit (codes ".shstrtab") (section_names o) (IsBytes-section_names o places written);
    }
  where
    strings_at_short : (far : Bool) → length o.sections + 1 + (if far then 2 else 1) < 2 ^ 32
    strings_at_short true = let few = own_short o places written in omega arith
    strings_at_short false = let few = own_short o places written in omega arith

    strings_fit : (name : List ℕ) (names : List (List ℕ)) → IsBytes (string_table names) → PlainFits (strings name names)
    strings_fit name names bytes = record {
      type = omega arith;
      flags = omega arith;
      addr = omega arith;
      link = omega arith;
      info = omega arith;
      align = omega arith;
      entsize = omega arith;
      space = omega arith;
      bytes = bytes;
      taken = refl;
    }

-- What the file that an object is written as holds: byte order, header fields, the content of each section, and the names of own sections.
-- Header fields are computed. Contents go by index, with cases on the index table. A name is read at its offset in the name table, because
-- it has no zero byte.

-- ---- the header

pub written_order : (o : ObjectValue) (places : List ℕ) → order (written_sections o places) ≡ o.order
unfolding written_sections
written_order o places = order_identified o.order o.osabi o.abi

pub written_osabi : (o : ObjectValue) (places : List ℕ) → slice_index (written_sections o places).header.e_ident EI_OSABI ≡ o.osabi
unfolding written_sections
written_osabi o places = refl

pub written_abi : (o : ObjectValue) (places : List ℕ) → slice_index (written_sections o places).header.e_ident EI_ABIVERSION ≡ o.abi
unfolding written_sections
written_abi o places = refl

pub written_machine : (o : ObjectValue) (places : List ℕ) → (written_sections o places).header.e_machine ≡ o.machine
unfolding written_sections
written_machine o places = refl

pub written_flags : (o : ObjectValue) (places : List ℕ) → (written_sections o places).header.e_flags ≡ o.flags
unfolding written_sections
written_flags o places = refl

-- ---- contents

pub own_content : (o : ObjectValue) (places : List ℕ) (p : ℕ) → p < length o.sections →
    content (written_sections o places) (suc p) ≡ body_bytes o.order (section_at o p).body
own_content o places p lt =
    let many = length-plain o (has_index_table o) refl in
    let more = last_some (has_index_table o) in
    written_content o places p (omega arith) ∙ ap (λ (s : PlainSection). s.content) (plain_own o p lt)

last_content : (o : ObjectValue) (places : List ℕ) (far : Bool) → has_index_table o ≡ far → (k : ℕ) → k < last_count far →
    content (written_sections o places) (symbol_table_at o + k) ≡ (get_or (last_sections o far) k no_plain).content
last_content o places far is k lt =
    let many = length-plain o far is in
    let next : symbol_table_at o + k ≡ suc (length o.sections + k) = omega arith in
    ap (content (written_sections o places)) next ∙ written_content o places (length o.sections + k) (omega arith)
    ∙ ap (λ (s : PlainSection). s.content) (plain_last o far is k)

pub symbols_content : (o : ObjectValue) (places : List ℕ) →
    content (written_sections o places) (symbol_table_at o) ≡ (symbol_table_section o).content
unfolding last_sections
symbols_content o places = ap (content (written_sections o places)) at ∙ by_far (has_index_table o) refl
  where
    at : symbol_table_at o ≡ symbol_table_at o + 0
    at = omega arith

    by_far : (far : Bool) → has_index_table o ≡ far →
        content (written_sections o places) (symbol_table_at o + 0) ≡ (symbol_table_section o).content
    by_far true is = last_content o places true is 0 (omega arith)
    by_far false is = last_content o places false is 0 (omega arith)

pub indexes_content : (o : ObjectValue) (places : List ℕ) → has_index_table o ≡ true →
    content (written_sections o places) (symbol_table_at o + 1) ≡ (index_table_section o).content
unfolding last_sections
indexes_content o places is = last_content o places true is 1 (omega arith)

strings_content_at : (o : ObjectValue) (places : List ℕ) (far : Bool) → has_index_table o ≡ far →
    content (written_sections o places) (symbol_table_at o + (if far then 2 else 1)) ≡ string_table (symbol_names o)
unfolding last_sections
strings_content_at o places true is = last_content o places true is 2 (omega arith)
strings_content_at o places false is = last_content o places false is 1 (omega arith)

pub strings_content : (o : ObjectValue) (places : List ℕ) →
    content (written_sections o places) (strings_at o) ≡ string_table (symbol_names o)
strings_content o places = strings_content_at o places (has_index_table o) refl

names_content_at : (o : ObjectValue) (places : List ℕ) (far : Bool) → has_index_table o ≡ far →
    content (written_sections o places) (symbol_table_at o + (if far then 2 else 1) + 1) ≡ string_table (section_names o)
unfolding last_sections
names_content_at o places true is =
    let next : symbol_table_at o + 2 + 1 ≡ symbol_table_at o + 3 = omega arith in
    ap (content (written_sections o places)) next ∙ last_content o places true is 3 (omega arith)
names_content_at o places false is =
    let next : symbol_table_at o + 1 + 1 ≡ symbol_table_at o + 2 = omega arith in
    ap (content (written_sections o places)) next ∙ last_content o places false is 2 (omega arith)

pub names_content : (o : ObjectValue) (places : List ℕ) →
    content (written_sections o places) (name_table_at o) ≡ string_table (section_names o)
names_content o places = names_content_at o places (has_index_table o) refl

-- ---- names

-- a name of a string table's list is read at its offset
pub name_read : (names : List (List ℕ)) (i : ℕ) (name : List ℕ) → i < length names → get_or names i [] ≡ name → HasNoZero name →
    string (string_table names) (name_offset names name) ≡ name
name_read names i name lt is named =
    subst (λ (n : List ℕ). HasNoZero n → string (string_table names) (name_offset names n) ≡ n) is ((holds_names names).read i lt) named

-- the section name string table holds the names of all sections
pub section_name_at : (o : ObjectValue) (p : ℕ) → p < length (plain_sections o) → get_or (section_names o) p [] ≡ (plain_at o p).name
section_name_at o p lt =
    ap (λ (names : List (List ℕ)). get_or names p []) (section_names_are o) ∙
    get_or-map (λ (s : PlainSection). s.name) (plain_sections o) p no_plain [] lt

pub written_names : (o : ObjectValue) (places : List ℕ) → IsWrittenAt o places →
    (let f = written_sections o places in value_names f.header f.headers f.contents ≡ string_table (section_names o))
written_names o places written =
    let f = written_sections o places in
    ap (λ (k : ℕ). if k == 0 then [] else content f k) (written_name_table o places written)
    ∙ rw (ne_eqb (name_table_at o) 0 (λ same. omega arith)) (names_content o places)

own_name : (o : ObjectValue) (p : ℕ) → p < length o.sections → HasNoZero (section_at o p).name →
    string (string_table (section_names o)) (name_offset (section_names o) (section_at o p).name) ≡ (section_at o p).name
own_name o p lt named =
    let many = length-plain o (has_index_table o) refl in
    let more = last_some (has_index_table o) in
    let all = ap length (section_names_are o) ∙ length-map (plain_sections o) (λ (s : PlainSection). s.name) in
    let same = section_name_at o p (omega arith) ∙ ap (λ (s : PlainSection). s.name) (plain_own o p lt) in
    name_read (section_names o) p (section_at o p).name (omega arith) same named

pub written_name : (o : ObjectValue) (places : List ℕ) → IsWrittenAt o places → (p : ℕ) → p < length o.sections →
    section_name_of (written_sections o places) (suc p) ≡ (section_at o p).name
written_name o places written p lt =
    let names = section_names o in
    rw (ne_eqb (section (written_sections o places) (suc p)).sh_type SHT_NULL (own_typed o places written p lt))
    (ap₂ (λ (table : List ℕ) (x : ℕ). string table x) (written_names o places written)
    (ap (λ (s : Shdr). s.sh_name) (written_own o places written p lt))
    ∙ own_name o p lt (no_zero_in_section_name o written.object p lt))

-- section i of the file is this one
pub record HasSectionAt (f : Sections) (i : ℕ) (s : PlainSection) : Type 0 where
  pub there : i < count f
  pub sh_type : (section f i).sh_type ≡ s.type
  pub sh_flags : (section f i).sh_flags ≡ s.flags
  pub sh_size : (section f i).sh_size ≡ section_size s
  pub sh_link : (section f i).sh_link ≡ s.link
  pub sh_info : (section f i).sh_info ≡ s.info
  pub sh_entsize : (section f i).sh_entsize ≡ s.entsize
  pub bytes : content f i ≡ s.content

at_header : (f : Sections) (i : ℕ) (s : PlainSection) (name_at : List ℕ → ℕ) (place : ℕ) → i < count f →
    section f i ≡ section_header name_at s place → content f i ≡ s.content →
    HasSectionAt f i s
at_header f i s name_at place there header bytes = record {
  there = there;
  sh_type = ap (λ (h : Shdr). h.sh_type) header;
  sh_flags = ap (λ (h : Shdr). h.sh_flags) header;
  sh_size = ap (λ (h : Shdr). h.sh_size) header;
  sh_link = ap (λ (h : Shdr). h.sh_link) header;
  sh_info = ap (λ (h : Shdr). h.sh_info) header;
  sh_entsize = ap (λ (h : Shdr). h.sh_entsize) header;
  bytes = bytes;
}

-- ---- the object's own sections

pub own_at : (o : ObjectValue) (places : List ℕ) → IsWrittenAt o places → (p : ℕ) → p < length o.sections →
    HasSectionAt (written_sections o places) (suc p) (own_section o (section_at o p))
own_at o places written p lt =
    let all = count_of_written o places written (has_index_table o) refl in
    let many = length-plain o (has_index_table o) refl in
    let more = last_some (has_index_table o) in
    at_header (written_sections o places) (suc p) (own_section o (section_at o p)) (name_offset (section_names o)) (get_or places p 0)
    (omega arith)
    (written_own o places written p lt) (own_content o places p lt)

-- ---- those after them

pub last_at : (o : ObjectValue) (places : List ℕ) → IsWrittenAt o places → (far : Bool) → has_index_table o ≡ far → (k : ℕ) →
    k < last_count far →
    HasSectionAt (written_sections o places) (symbol_table_at o + k) (get_or (last_sections o far) k no_plain)
last_at o places written far is k lt =
    let all = count_of_written o places written far is in
    let many = length-plain o far is in
    let next : symbol_table_at o + k ≡ suc (length o.sections + k) = omega arith in
    at_header (written_sections o places) (symbol_table_at o + k) (get_or (last_sections o far) k no_plain) (name_offset (section_names o))
    (get_or places (length o.sections + k) 0)
    (omega arith) (written_last o places written far is k lt)
    (ap (content (written_sections o places)) next ∙ written_content o places (length o.sections + k) (omega arith) ∙
    ap (λ (s : PlainSection). s.content) (plain_last o far is k))

-- section k of them is s, which has index i
last_here : (o : ObjectValue) (places : List ℕ) (s : PlainSection) (i : ℕ) → IsWrittenAt o places → (far : Bool) → has_index_table o ≡ far →
    (k : ℕ) → k < last_count far →
    get_or (last_sections o far) k no_plain ≡ s → symbol_table_at o + k ≡ i → HasSectionAt (written_sections o places) i s
last_here o places s i written far is k lt same at =
    subst (λ (j : ℕ). HasSectionAt (written_sections o places) j s) at
    (subst (HasSectionAt (written_sections o places) (symbol_table_at o + k)) same (last_at o places written far is k lt))

first_of_last : (o : ObjectValue) (far : Bool) → get_or (last_sections o far) 0 no_plain ≡ symbol_table_section o
unfolding last_sections
first_of_last o true = refl
first_of_last o false = refl

pub symbols_at : (o : ObjectValue) (places : List ℕ) → IsWrittenAt o places →
    HasSectionAt (written_sections o places) (symbol_table_at o) (symbol_table_section o)
symbols_at o places written =
    let more = last_some (has_index_table o) in
    last_here o places (symbol_table_section o) (symbol_table_at o) written (has_index_table o) refl 0 (omega arith)
    (first_of_last o (has_index_table o)) (omega arith)

abbrev strings_place : Bool → ℕ
strings_place far = if far then 2 else 1

strings_of_last : (o : ObjectValue) (far : Bool) →
    get_or (last_sections o far) (strings_place far) no_plain ≡ strings (codes ".strtab") (symbol_names o)
unfolding last_sections
strings_of_last o true = refl
strings_of_last o false = refl

strings_some : (far : Bool) → strings_place far < last_count far
strings_some true = omega arith
strings_some false = omega arith

pub symbol_strings_at : (o : ObjectValue) (places : List ℕ) → IsWrittenAt o places →
    HasSectionAt (written_sections o places) (strings_at o) (strings (codes ".strtab") (symbol_names o))
symbol_strings_at o places written =
    let far = has_index_table o in
    last_here o places (strings (codes ".strtab") (symbol_names o)) (strings_at o) written far refl (strings_place far) (strings_some far)
    (strings_of_last o far) refl

second_of_last : (o : ObjectValue) → get_or (last_sections o true) 1 no_plain ≡ index_table_section o
unfolding last_sections
second_of_last o = refl

pub indexes_at : (o : ObjectValue) (places : List ℕ) → IsWrittenAt o places → has_index_table o ≡ true →
    HasSectionAt (written_sections o places) (symbol_table_at o + 1) (index_table_section o)
indexes_at o places written is =
    last_here o places (index_table_section o) (symbol_table_at o + 1) written true is 1 (omega arith) (second_of_last o) refl

-- ---- all of them

-- what holds of section header 0, of each own section and of each one after them holds of all
pub by_section : (o : ObjectValue) (places : List ℕ) → IsWrittenAt o places → (P : ℕ → Type 0) → P 0 →
    ((p : ℕ) → p < length o.sections → P (suc p)) →
    ((k : ℕ) → k < last_count (has_index_table o) → P (symbol_table_at o + k)) → (i : ℕ) → i < count (written_sections o places) → P i
by_section o places written P first own last zero lt = first
by_section o places written P first own last (suc p) lt = elim (cases_lt p (length o.sections)) [
  | inl below ↦ own p below
  | inr above ↦ (
      let all = count_of_written o places written (has_index_table o) refl in
      let at : symbol_table_at o + (p - length o.sections) ≡ suc p = omega arith in
      subst P at (last (p - length o.sections) (omega arith)))
]

-- In a written file only the symbol table has type SYMTAB, and only its index table, if there is one, has type SYMTAB_SHNDX. No section has
-- type HASH, DYNAMIC, SHLIB or DYNSYM. By cases on the section: the type of an own section goes with its body by rule 2 of objects. (gABI
-- chapter 4, Sections: sh_type.)

-- what the type of a section says of its index: the symbols' tables are there once, and no type that objects don't have is
pub record SaysIndex (o : ObjectValue) (i type : ℕ) : Type 0 where
  pub symbols : type ≡ SHT_SYMTAB → i ≡ symbol_table_at o
  pub indexes : type ≡ SHT_SYMTAB_SHNDX → (has_index_table o ≡ true) × (i ≡ symbol_table_at o + 1)
  pub not_foreign : IsForeignType type → ⊥

-- no type that is another number is foreign
not_foreign_type : (type : ℕ) → type ≢ SHT_HASH → type ≢ SHT_DYNAMIC → type ≢ SHT_SHLIB → type ≢ SHT_DYNSYM → IsForeignType type → ⊥
not_foreign_type type hash dynamic shlib dynsym (inl is) = hash is
not_foreign_type type hash dynamic shlib dynsym (inr (inl is)) = dynamic is
not_foreign_type type hash dynamic shlib dynsym (inr (inr (inl is))) = shlib is
not_foreign_type type hash dynamic shlib dynsym (inr (inr (inr is))) = dynsym is

no_foreign_number : (type number : ℕ) → type ≡ number → (number < SHT_HASH) ⊎ (SHT_DYNSYM < number) → IsForeignType type → ⊥
no_foreign_number type number is (inl low) =
    not_foreign_type type (λ same. omega arith) (λ same. omega arith) (λ same. omega arith) (λ same. omega arith)
no_foreign_number type number is (inr high) =
    not_foreign_type type (λ same. omega arith) (λ same. omega arith) (λ same. omega arith) (λ same. omega arith)

-- no body is of such a type
body_not_foreign : (b : BodyValue) → (IsWrongBitsType b → ⊥) → IsForeignType (body_type b) → ⊥
body_not_foreign (bits type bytes) right =
    not_foreign_type type (λ same. right (3, omega arith, sym same)) (λ same. right (4, omega arith, sym same))
    (λ same. right (7, omega arith, sym same))
    (λ same. right (8, omega arith, sym same))
body_not_foreign (no_bits size) right =
    not_foreign_type SHT_NOBITS (λ same. omega arith) (λ same. omega arith) (λ same. omega arith) (λ same. omega arith)
body_not_foreign (relocs true target entries) right = no_foreign_number SHT_RELA SHT_RELA refl (inl (omega arith))
body_not_foreign (relocs false target entries) right =
    not_foreign_type SHT_REL (λ same. omega arith) (λ same. omega arith) (λ same. omega arith) (λ same. omega arith)
body_not_foreign (group comdat signature members) right = no_foreign_number SHT_GROUP SHT_GROUP refl (inr (omega arith))

strings_say : (o : ObjectValue) (i type : ℕ) → type ≡ SHT_STRTAB → SaysIndex o i type
strings_say o i type is =
    record {
      symbols = λ same. absurd (omega arith);
      indexes = λ same. absurd (omega arith);
      not_foreign =
          no_foreign_number type SHT_STRTAB is (inl (omega arith));
    }

symbols_say : (o : ObjectValue) (i : ℕ) → i ≡ symbol_table_at o → SaysIndex o i SHT_SYMTAB
symbols_say o i at =
    record {
      symbols = λ same. at;
      indexes = λ same. absurd (omega arith);
      not_foreign =
          no_foreign_number SHT_SYMTAB SHT_SYMTAB refl (inl (omega arith));
    }

last_says : (o : ObjectValue) (far : Bool) (k : ℕ) → has_index_table o ≡ far → k < last_count far →
    SaysIndex o (symbol_table_at o + k) (get_or (last_sections o far) k no_plain).type
unfolding last_sections
last_says o true zero is lt = symbols_say o (symbol_table_at o + 0) (omega arith)
last_says o true (suc zero) is lt =
    record {
      symbols = λ same. absurd (omega arith);
      indexes = λ same. (is, refl);
      not_foreign =
          no_foreign_number SHT_SYMTAB_SHNDX SHT_SYMTAB_SHNDX refl (inr (omega arith));
    }
last_says o true (suc (suc zero)) is lt = strings_say o _ _ refl
last_says o true (suc (suc (suc zero))) is lt = strings_say o _ _ refl
last_says o true (suc (suc (suc (suc k)))) is lt = absurd (omega arith)
last_says o false zero is lt = symbols_say o (symbol_table_at o + 0) (omega arith)
last_says o false (suc zero) is lt = strings_say o _ _ refl
last_says o false (suc (suc zero)) is lt = strings_say o _ _ refl
last_says o false (suc (suc (suc k))) is lt = absurd (omega arith)

pub type_says : (o : ObjectValue) (places : List ℕ) → IsWrittenAt o places → (i : ℕ) → i < count (written_sections o places) →
    SaysIndex o i (section (written_sections o places) i).sh_type
type_says o places written =
    let f = written_sections o places in
    let far = has_index_table o in
    by_section o places written (λ i. SaysIndex o i (section f i).sh_type) first own
    (λ k lt. subst (SaysIndex o (symbol_table_at o + k)) (sym (last_at o places written far refl k lt).sh_type)
    (last_says o far k refl lt)) where
      first : SaysIndex o 0 (section (written_sections o places) 0).sh_type
      first =
          let null = ap (λ (s : Shdr). s.sh_type) (written_first o places written) in
          record {
            symbols = λ same. absurd (omega arith);
            indexes = λ same. absurd (omega arith);
            not_foreign =
                no_foreign_number _ SHT_NULL null (inl (omega arith));
          }

      own : (p : ℕ) → p < length o.sections → SaysIndex o (suc p) (section (written_sections o places) (suc p)).sh_type
      own p lt = record {
        symbols = λ same. absurd (own_type o places SHT_SYMTAB written symbols_no_body p lt same);
        indexes = λ same. absurd (own_type o places SHT_SYMTAB_SHNDX written indexes_no_body p lt same);
        not_foreign =
            subst (λ (type : ℕ). IsForeignType type → ⊥) (sym (own_at o places written p lt).sh_type)
            (body_not_foreign (section_at o p).body (no_wrong_bits_type o written.object p lt));
      }
