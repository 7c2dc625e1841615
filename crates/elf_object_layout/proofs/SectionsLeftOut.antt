-- The sections of a file that an object does not keep, as code finds them.
use Rattle.std.proofs.Common.{◌≡◌, ℕ, ◌<◌, ◌≤◌, Bool, true, false, None, Some, inl, inr, refl}
use Rattle.std.specs.Prelude.{◌&&◌, position, ◌==◌}
use Rattle.std.proofs.lemmas.Bool.{cases_lt, eqb-true}
use Rattle.std.proofs.lemmas.List.{get_or_past}
use Rattle.std.proofs.lemmas.List.Quantifiers.{position-Some}
use Rattle.elf_field.specs.Abi.{SHT_SYMTAB}
use Rattle.elf_field.specs.declared.shdr.Shdr.{Shdr}
use Rattle.elf_image_outline.specs.Image.{no_section_header}
use Rattle.elf_object_layout.specs.SectionsLeftOut.{is_kept, symbol_table}
use Rattle.elf_object_layout.specs.declared.left_out.LeftOut.{LeftOut}
use Rattle.elf_table_symbols.proofs.Public.{lowest_position}
use Rattle.elf_table_symbols.specs.Sections.{Sections, count, section}

-- The first section that passes a test.

pub and_true : (s t : Bool) → (s && t) ≡ true → (s ≡ true) × (t ≡ true)
and_true true t both = (refl, both)
and_true false t both = cc

-- P says of an index what the test says of the section header there
pub first_found : (p : Shdr → Bool) (f : Sections) (P : ℕ → Type 0) (i : ℕ) → ((k : ℕ) → P k → p (section f k) ≡ true) →
    ((k : ℕ) → p (section f k) ≡ true → P k) → i < count f → ((k : ℕ) → k < i → P k → ⊥) → P i → Some i ≡ position p f.headers
first_found p f P i passes holds there before here =
    lowest_position p f.headers no_section_header P (Some i) passes holds (record {
      holds = (there, here);
      lowest = λ k other. elim (cases_lt k i) [ inl below ↦ absurd (before k below other.1) | inr above ↦ above ];
    })

pub first_missing : (p : Shdr → Bool) (f : Sections) (P : ℕ → Type 0) → ((k : ℕ) → P k → p (section f k) ≡ true) →
    ((k : ℕ) → p (section f k) ≡ true → P k) → ((k : ℕ) → k < count f → P k → ⊥) → None ≡ position p f.headers
first_missing p f P passes holds never =
    lowest_position p f.headers no_section_header P None passes holds (λ k other. never k other.0 other.1)

-- the symbol table is there, and of its type
pub symbol_table_there : (f : Sections) (t : ℕ) → symbol_table f ≡ Some t → (t < count f) × ((section f t).sh_type ≡ SHT_SYMTAB)
unfolding symbol_table
symbol_table_there f t is =
    let found = position-Some (λ (s : Shdr). s.sh_type == SHT_SYMTAB) f.headers t no_section_header is in
    (found.0, eqb-true _ _ found.1)

-- a section that isn't there is not kept
pub not_kept_past : (left : LeftOut) (f : Sections) (i : ℕ) → count f ≤ i → is_kept left f i ≡ false
unfolding is_kept
not_kept_past left f i past = rw (get_or_past f.headers i no_section_header past) refl
