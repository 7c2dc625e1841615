-- The laws of each record of a table: what is written is read back, and what is read is written back. They are lemmas that contracts
-- name.
use Rattle.std.proofs.Common.{◌<◌, ◌^◌, ℕ, List, [], ◌∷◌, ◌≤◌, ◌+◌, length, refl, rules, ap, arith, drop, sym, ◌∙◌, lit≤, add-zero}
use Rattle.std.specs.Prelude.{ℤ}
use Rattle.std.specs.Int.{w64, cast_unsigned}
use Rattle.std.proofs.Math.Facts.{Fits-of_lt, sfits_to_z}
use Rattle.std.proofs.lemmas.Int.{ints, of_z-to_z, to_z-of_z}
use Rattle.std.proofs.lemmas.List.{append-nil, take_all}
use Rattle.elf_field.specs.Abi.{SYM_SIZE, R_INFO_AT, R_OFFSET_AT}
use Rattle.elf_field.specs.Abi.{REL_SIZE, R_ADDEND_AT, RELA_SIZE, D_TAG_AT, D_UN_AT, DYN_SIZE, WORD_SIZE}
use Rattle.elf_field.specs.Bytes.{IsBytes, field, bytes_of, num}
use Rattle.elf_field.specs.laws.Bytes.{IsBytes-bytes_of, IsBytes-drop, bytes_of-num, length-bytes_of}
use Rattle.elf_field.specs.laws.Bytes.{num-bytes_of, num-lt}
use Rattle.elf_field.specs.Record.{IsRecord}
use Rattle.elf_field.specs.laws.Record.{IsLayout, layout_fields_at, layout_laws, field-part}
use Rattle.elf_field.specs.declared.number.Order.{Order}
use Rattle.elf_field.specs.Entries.{sym_layout, sym_at, sym_bytes, IsSymAt, IsSym, rel_layout, rel_at, rel_bytes, IsRelAt, IsRel}
use Rattle.elf_field.specs.Entries.{rela_layout, rela_at, rela_bytes, IsRelaAt, IsRela, dyn_layout, dyn_at, dyn_bytes, IsDynAt, IsDyn}
use Rattle.elf_field.specs.Entries.{word_at, word_bytes, IsWordAt, IsWord}

-- Symbols.

sym_is : IsLayout sym_layout SYM_SIZE IsSym
sym_is = record {
  wide = refl;
  counted = λ v. refl;
  makes = λ v fits. refl;
  made = λ o b x fits. refl;
  fits = λ v fits. search rules;
  valid =
      λ o b x fits. search rules;
}

pub sym_laws : IsRecord SYM_SIZE sym_at sym_bytes IsSym
sym_laws = layout_laws sym_layout SYM_SIZE IsSym sym_is

pub sym_fields_at : (o : Order) (b : List ℕ) (x : ℕ) → x + SYM_SIZE ≤ length b → IsBytes b → IsSymAt o b x (sym_at o b x)
sym_fields_at = layout_fields_at sym_layout SYM_SIZE IsSym sym_is

-- Relocations without addends.

rel_is : IsLayout rel_layout REL_SIZE IsRel
rel_is = record {
  wide = refl;
  counted = λ v. refl;
  makes = λ v fits. refl;
  made = λ o b x fits. refl;
  fits = λ v fits. search rules;
  valid =
      λ o b x fits. search rules;
}

pub rel_laws : IsRecord REL_SIZE rel_at rel_bytes IsRel
rel_laws = layout_laws rel_layout REL_SIZE IsRel rel_is

pub rel_fields_at : (o : Order) (b : List ℕ) (x : ℕ) → x + REL_SIZE ≤ length b → IsBytes b → IsRelAt o b x (rel_at o b x)
rel_fields_at = layout_fields_at rel_layout REL_SIZE IsRel rel_is

-- Relocations with addends.

rela_is : IsLayout rela_layout RELA_SIZE IsRela
rela_is = record {
  wide = refl;
  counted = λ v. refl;
  makes = λ v fits. ap (λ (z : ℤ). record { r_offset = v.r_offset; r_info = v.r_info; r_addend = z })
      (to_z-of_z w64 v.r_addend fits.r_addend);
  made = λ o b x fits. ap (λ (v : ℕ). field o b (x + R_OFFSET_AT) 8 ∷ field o b (x + R_INFO_AT) 8 ∷ v ∷ [])
      (of_z-to_z w64 (field o b (x + R_ADDEND_AT) 8) fits.1.1.0);
  fits = λ v fits. (let small : cast_unsigned w64 v.r_addend < 256 ^ 8 = omega (arith, ints) in search rules);
  valid = λ o b x fits. (let tag = sfits_to_z (Fits-of_lt {w = w64} fits.1.1.0) in search rules);
}

pub rela_laws : IsRecord RELA_SIZE rela_at rela_bytes IsRela
rela_laws = layout_laws rela_layout RELA_SIZE IsRela rela_is

pub rela_fields_at : (o : Order) (b : List ℕ) (x : ℕ) → x + RELA_SIZE ≤ length b → IsBytes b → IsRelaAt o b x (rela_at o b x)
rela_fields_at = layout_fields_at rela_layout RELA_SIZE IsRela rela_is

-- Dynamic entries.

dyn_is : IsLayout dyn_layout DYN_SIZE IsDyn
dyn_is = record {
  wide = refl;
  counted = λ v. refl;
  makes = λ v fits. ap (λ (z : ℤ). record { d_tag = z; d_un = v.d_un }) (to_z-of_z w64 v.d_tag fits.d_tag);
  made = λ o b x fits. ap (λ (v : ℕ). v ∷ field o b (x + D_UN_AT) 8 ∷ []) (of_z-to_z w64 (field o b (x + D_TAG_AT) 8) fits.0);
  fits = λ v fits. (let small : cast_unsigned w64 v.d_tag < 256 ^ 8 = omega (arith, ints) in search rules);
  valid = λ o b x fits. (let tag = sfits_to_z (Fits-of_lt {w = w64} fits.0) in search rules);
}

pub dyn_laws : IsRecord DYN_SIZE dyn_at dyn_bytes IsDyn
dyn_laws = layout_laws dyn_layout DYN_SIZE IsDyn dyn_is

pub dyn_fields_at : (o : Order) (b : List ℕ) (x : ℕ) → x + DYN_SIZE ≤ length b → IsBytes b → IsDynAt o b x (dyn_at o b x)
dyn_fields_at = layout_fields_at dyn_layout DYN_SIZE IsDyn dyn_is

-- Words.

pub word_laws : IsRecord WORD_SIZE word_at word_bytes IsWord
word_laws = record {
  gets_put = λ o v fits. ap (num o WORD_SIZE) (sym (append-nil (bytes_of o WORD_SIZE v))) ∙ num-bytes_of o WORD_SIZE v [] fits;
  puts_got = λ o b long bytes. bytes_of-num o WORD_SIZE b bytes (omega arith) ∙ take_all WORD_SIZE b (omega arith);
  part = λ o b x. field-part o b WORD_SIZE x 0 WORD_SIZE (lit≤ tt) ∙ ap (λ (k : ℕ). field o b k WORD_SIZE) (add-zero x);
  length_is = λ o v. length-bytes_of o WORD_SIZE v;
  valid = λ o b x bytes. num-lt o WORD_SIZE (drop x b) (IsBytes-drop x b bytes);
  are_bytes = λ o v fits. IsBytes-bytes_of o WORD_SIZE v;
}

pub word_fields_at : (o : Order) (b : List ℕ) (x : ℕ) → x + WORD_SIZE ≤ length b → IsBytes b → IsWordAt o b x (word_at o b x)
word_fields_at o b x within bytes = (within, refl)
