-- The result is the file's extent of this index: by cases on the index. 0 is the header, 1 and 2 are the tables, and from 3 on it is the
-- content of section header `index - 3`.
use Rattle.std.proofs.Common.{◌≡◌, ℕ, ◌+◌, ◌-◌, ◌*◌, Some, refl, sym, ap, ap₂, subst, arith}
use Rattle.std.specs.List.{slice_get}
use Rattle.elf_field.specs.Abi.{EHDR_SIZE, PHDR_SIZE, SHDR_SIZE}
use Rattle.elf_extent.specs.declared.extent.Extent.{Extent}
use Rattle.elf_field.specs.declared.ehdr.Ehdr.{Ehdr}
use Rattle.elf_image_rules.specs.ValidatedRecords.{file_extents, file_of}
use Rattle.elf_image_rules.specs.Rules.{extents}
use Rattle.elf_image_rules.specs.Tables.{file_counts, header}
use Rattle.elf_image_rules.proofs.file_extents.FileExtents.at.Goals as goal

pub returns-in-0 : goal.returns-in-0
unfolding file_extents extents
returns-in-0 c =
    let e : Extent = record { start = 0; len = EHDR_SIZE } in
    subst (λ (i : ℕ). slice_get (file_extents c.args.self.now) i ≡ Some e) (sym c.in-0.is) refl

pub returns-in-1 : goal.returns-in-1
unfolding file_extents extents
returns-in-1 c =
    let b = file_of c.args.self.now.records in
    let e : Extent = record { start = c.header.result.e_shoff; len = SHDR_SIZE * c.section_count.result } in
    let same : e ≡ record { start = (header b).e_shoff; len = SHDR_SIZE * (file_counts b).sections } =
    ap₂ (λ (h : Ehdr) (n : ℕ). record { start = h.e_shoff; len = SHDR_SIZE * n }) c.header.ensures c.section_count.ensures.count in
    subst (λ (i : ℕ). slice_get (file_extents c.args.self.now) i ≡ Some e) (sym c.in-1.is) (ap Some (sym same))

pub returns-in-2 : goal.returns-in-2
unfolding file_extents extents
returns-in-2 c =
    let b = file_of c.args.self.now.records in
    let e : Extent = record { start = c.header-in-2.result.e_phoff; len = PHDR_SIZE * c.segment_count.result } in
    let same : e ≡ record { start = (header b).e_phoff; len = PHDR_SIZE * (file_counts b).segments } =
    ap₂ (λ (h : Ehdr) (m : ℕ). record { start = h.e_phoff; len = PHDR_SIZE * m }) c.header-in-2.ensures c.segment_count.ensures.count in
    subst (λ (i : ℕ). slice_get (file_extents c.args.self.now) i ≡ Some e) (sym c.in-2.is) (ap Some (sym same))

pub returns-in_default : goal.returns-in_default
returns-in_default c =
    let place : c.args.index - 3 + 3 ≡ c.args.index = omega arith in
    subst (λ (i : ℕ). slice_get (file_extents c.args.self.now) i ≡ Some c.content.result) place c.content.ensures
