-- The laws of the file header, of section headers and of program headers: what is written is read back, and what is read is written
-- back. They are lemmas that contracts name.
use Rattle.std.specs.Prelude.{◌≡◌, ◌+◌, ℕ, List, [], length, take, drop}
use Rattle.std.proofs.Common.{◌≤◌, ◌-◌, refl, sym, ap, ap₂, ◌∙◌, arith, rules, lit≤, length-drop}
use Rattle.std.proofs.lemmas.List.{take_all}
use Rattle.elf_field.specs.Abi.{EI_NIDENT}
use Rattle.elf_field.specs.Abi.{EHDR_SIZE}
use Rattle.elf_field.specs.Abi.{SHDR_SIZE}
use Rattle.elf_field.specs.Abi.{PHDR_SIZE}
use Rattle.elf_field.specs.Bytes.{IsBytes, first_bytes, bytes_of}
use Rattle.elf_field.specs.laws.Bytes.{IsBytes-drop, IsBytes-first_bytes, first_bytes-all}
use Rattle.elf_field.specs.laws.Bytes.{first_bytes-append, first_bytes-part, first_bytes-take, length-first_bytes}
use Rattle.elf_field.specs.Record.{spelled, FitWidths, fields_from, number_in, width_of}
use Rattle.elf_field.specs.laws.Record.{AreAt-fields_from, FitWidths-fields_from}
use Rattle.elf_field.specs.laws.Record.{IsBytes-spelled, fields_from-part, fields_from-spelled, length-spelled, spelled-fields_from}
use Rattle.elf_field.specs.Record.{IsRecord}
use Rattle.elf_field.specs.laws.Record.{spelled-front, IsLayout, layout_fields_at}
use Rattle.elf_field.specs.laws.Record.{layout_laws}
use Rattle.elf_field.specs.declared.ehdr.Ehdr.{Ehdr}
use Rattle.elf_field.specs.declared.number.Order.{Order}
use Rattle.elf_field.specs.Headers.{ehdr_of, ehdr_values, ehdr_widths, ehdr_at, ehdr_bytes, IsEhdrAt, IsEhdr, shdr_layout, shdr_at}
use Rattle.elf_field.specs.Headers.{shdr_bytes, IsShdrAt, IsShdr, phdr_layout, phdr_at, phdr_bytes, IsPhdrAt, IsPhdr}

-- The file header.

-- the header of this identification and of these numbers
abbrev ehdr_made : List ℕ → List ℕ → Ehdr
ehdr_made ident vs = ehdr_of ident (λ k w. number_in ehdr_widths vs (k - EI_NIDENT))

ehdr_fit : (v : Ehdr) → IsEhdr v → FitWidths ehdr_widths (ehdr_values v)
ehdr_fit v fits = search rules

ehdr_valid : (o : Order) (b : List ℕ) (x : ℕ) → IsBytes b → IsEhdr (ehdr_at o b x)
ehdr_valid o b x bytes =
    let numbers = FitWidths-fields_from o b x EI_NIDENT ehdr_widths bytes in
    let long = length-first_bytes EI_NIDENT (drop x b) in
    let are = IsBytes-first_bytes EI_NIDENT (drop x b) (IsBytes-drop x b bytes) in
    search rules

ehdr_gets_put : (o : Order) (v : Ehdr) → IsEhdr v → ehdr_at o (ehdr_bytes o v) 0 ≡ v
ehdr_gets_put o v fits =
    let ident = first_bytes EI_NIDENT v.e_ident in
    let numbers = spelled (bytes_of o) [] ehdr_widths (ehdr_values v) in
    let long : length ident ≡ EI_NIDENT = length-first_bytes EI_NIDENT v.e_ident in
    let read : first_bytes EI_NIDENT (ehdr_bytes o v) ≡ v.e_ident =
    ap (first_bytes EI_NIDENT) (spelled-front o ident ehdr_widths (ehdr_values v)) ∙ first_bytes-append EI_NIDENT ident numbers long ∙
    first_bytes-all EI_NIDENT v.e_ident fits.e_ident in
    ap₂ ehdr_made read (fields_from-spelled o ident EI_NIDENT ehdr_widths (ehdr_values v) (ehdr_fit v fits) long)

ehdr_puts_got : (o : Order) (b : List ℕ) → length b ≡ EHDR_SIZE → IsBytes b → ehdr_bytes o (ehdr_at o b 0) ≡ b
ehdr_puts_got o b long bytes =
    let ident : first_bytes EI_NIDENT (first_bytes EI_NIDENT b) ≡ take EI_NIDENT b =
    first_bytes-all EI_NIDENT (first_bytes EI_NIDENT b) (length-first_bytes EI_NIDENT b) ∙ first_bytes-take EI_NIDENT b (omega arith) in
    ap (λ (s : List ℕ). spelled (bytes_of o) s ehdr_widths (fields_from o b 0 EI_NIDENT ehdr_widths)) ident ∙
    spelled-fields_from o b EI_NIDENT ehdr_widths bytes (omega arith) ∙ take_all EHDR_SIZE b (omega arith)

pub ehdr_laws : IsRecord EHDR_SIZE ehdr_at ehdr_bytes IsEhdr
ehdr_laws = record {
  gets_put = ehdr_gets_put;
  puts_got = ehdr_puts_got;
  part = λ o b x. ap₂ ehdr_made (first_bytes-part EI_NIDENT EHDR_SIZE (drop x b) (lit≤ tt))
      (fields_from-part o b EHDR_SIZE x EI_NIDENT ehdr_widths (lit≤ tt));
  length_is = λ o v. length-spelled o (first_bytes EI_NIDENT v.e_ident) ehdr_widths (ehdr_values v) refl ∙
      ap (λ (k : ℕ). k + width_of ehdr_widths) (length-first_bytes EI_NIDENT v.e_ident);
  valid = ehdr_valid;
  are_bytes = λ o v fits. IsBytes-spelled o (first_bytes EI_NIDENT v.e_ident) ehdr_widths (ehdr_values v)
      (IsBytes-first_bytes EI_NIDENT v.e_ident fits.e_ident_bytes);
}

pub ehdr_fields_at : (o : Order) (b : List ℕ) (x : ℕ) → x + EHDR_SIZE ≤ length b → IsBytes b → IsEhdrAt o b x (ehdr_at o b x)
ehdr_fields_at o b x within bytes =
    let there : EI_NIDENT ≤ length (drop x b) = let e = length-drop x b in omega arith in
    (sym (first_bytes-take EI_NIDENT (drop x b) there), AreAt-fields_from o b x EI_NIDENT ehdr_widths (omega arith))

-- Section headers.

shdr_is : IsLayout shdr_layout SHDR_SIZE IsShdr
shdr_is = record {
  wide = refl;
  counted = λ v. refl;
  makes = λ v fits. refl;
  made = λ o b x fits. refl;
  fits = λ v fits. search rules;
  valid =
      λ o b x fits. search rules;
}

pub shdr_laws : IsRecord SHDR_SIZE shdr_at shdr_bytes IsShdr
shdr_laws = layout_laws shdr_layout SHDR_SIZE IsShdr shdr_is

pub shdr_fields_at : (o : Order) (b : List ℕ) (x : ℕ) → x + SHDR_SIZE ≤ length b → IsBytes b → IsShdrAt o b x (shdr_at o b x)
shdr_fields_at = layout_fields_at shdr_layout SHDR_SIZE IsShdr shdr_is

-- Program headers.

phdr_is : IsLayout phdr_layout PHDR_SIZE IsPhdr
phdr_is = record {
  wide = refl;
  counted = λ v. refl;
  makes = λ v fits. refl;
  made = λ o b x fits. refl;
  fits = λ v fits. search rules;
  valid =
      λ o b x fits. search rules;
}

pub phdr_laws : IsRecord PHDR_SIZE phdr_at phdr_bytes IsPhdr
phdr_laws = layout_laws phdr_layout PHDR_SIZE IsPhdr phdr_is

pub phdr_fields_at : (o : Order) (b : List ℕ) (x : ℕ) → x + PHDR_SIZE ≤ length b → IsBytes b → IsPhdrAt o b x (phdr_at o b x)
phdr_fields_at = layout_fields_at phdr_layout PHDR_SIZE IsPhdr phdr_is
