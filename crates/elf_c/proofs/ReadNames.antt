-- By the numbers of a file that keeps rules 1 to 32, a section has a name exactly if the file lists it with this name. So the first section
-- that is found by them is the first one listed.
use Rattle.std.proofs.Common.{◌≡◌, ◌↔◌, ◌<◌, ◌∙◌, ℕ, Bool, List, None, Option, Some, inl, inr, length, refl, sym}
use Rattle.std.proofs.lemmas.Bool.{OnFalse_from, OnTrue_from, cases_eq, ne_eqb}
use Rattle.std.specs.Bool.{OnFalse, OnTrue}
use Rattle.std.specs.Prelude.{IfSome, IsSome, IsTrue}
use Rattle.elf_c.proofs.ReadFiles.{name_in_table, name_of_null, name_without_table, section_at, section_below, table_below}
use Rattle.elf_c.specs.Files.{HasName, IsFileOf, name_of_section}
use Rattle.elf_c.specs.Names.{HasSectionNamed, IsNamed, name_read, section_read}
use Rattle.elf_c.specs.declared.shapes.File.{File}
use Rattle.elf_extent.specs.Extent.{IsLeast, IsLowest, Never}
use Rattle.elf_image_rules.specs.Tables.{file_counts}

-- the name that is read is the one that the file lists
name_listed : (f : File) (b : List ℕ) (i : ℕ) → IsFileOf f b → i < (file_counts b).sections → name_read f b i ≡ name_of_section b i
name_listed f b i is below =
    let own = (section_at f b i is below).read in
    elim (cases_eq (section_read f b i).sh_type 0) [
      | inl null ↦ rw null (name_of_null b i (section_read f b i) own null)
      | inr typed ↦ elim (cases_eq f.name_table 0) [
        | inl none ↦ rw (ne_eqb (section_read f b i).sh_type 0 typed, none) (name_without_table f b i is none)
        | inr some ↦
            let names = (section_at f b f.name_table is (table_below f b is some)).read in
            rw (ne_eqb (section_read f b i).sh_type 0 typed, ne_eqb f.name_table 0 some)
            (name_in_table f b i (section_read f b i) (section_read f b f.name_table) is own names typed some)
      ]
    ]

-- a section that is listed is there, and so is that of its name
name_there : (f : File) (b : List ℕ) (i : ℕ) → IsFileOf f b → i < (file_counts b).sections → HasName f b i
name_there f b i is below =
    ((section_at f b i is below).there, λ typed some. (section_at f b f.name_table is (table_below f b is some)).there)

pub named_listed : (f : File) (b name : List ℕ) (i : ℕ) → IsFileOf f b → IsNamed f b name i ↔ HasSectionNamed b name i
named_listed f b name i is = (
  λ has. (let below = section_below f b i (length b) is has.0.0 in (below, sym (name_listed f b i is below) ∙ has.1)),
  λ has. (name_there f b i is has.0, name_listed f b i is has.0 ∙ has.1),
)

-- ---- the lowest number with a property

-- it is the lowest one with a property that is the same
pub lowest_same : (P Q : ℕ → Type 0) (r : Option ℕ) → ((x : ℕ) → P x ↔ Q x) → IsLowest P r → IsLowest Q r
lowest_same P Q None same never = λ x has. never x ((same x).1 has)
lowest_same P Q (Some x) same least = record {
  holds = (same x).0 least.holds;
  lowest = λ y has. least.lowest y ((same y).1 has);
}

-- and it is where it is put
pub put_least : (P : ℕ → Type 0) (r : Option ℕ) (b : Bool) (new : ℕ) → IsLowest P r → (IsTrue b ↔ IsSome r) → IfSome r (λ x. new ≡ x) →
    OnTrue b (IsLeast P new)
put_least P None b new never there put = OnTrue_from b _ (λ yes. (let some = there.0 yes in absurd cc))
put_least P (Some x) b new least there put = OnTrue_from b _ (λ yes. rw put least)

pub put_never : (P : ℕ → Type 0) (r : Option ℕ) (b : Bool) → IsLowest P r → (IsTrue b ↔ IsSome r) → OnFalse b (Never P)
put_never P None b never there = OnFalse_from b _ (λ no. never)
put_never P (Some x) b least there = OnFalse_from b _ (λ no. (let yes = there.1 refl in absurd cc))
