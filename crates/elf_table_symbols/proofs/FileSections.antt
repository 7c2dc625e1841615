-- What the rules of tables look at in an image is what they look at in its bytes: records and contents are those that the bytes have. So
-- what is said of the sections of an image holds of those of its bytes.
use Rattle.std.proofs.Common.{◌≡◌, ◌∙◌, ℕ, List, ap, map}
use Rattle.std.specs.List.{range_with_len}
use Rattle.elf_field.specs.declared.ehdr.Ehdr.{Ehdr}
use Rattle.elf_field.specs.declared.shdr.Shdr.{Shdr}
use Rattle.elf_image_outline.specs.Image.{ImageValue, IsImage, OfItsBytes}
use Rattle.elf_image_rules.specs.Tables.{bytes_in, content_extent, section_header_count, sections}
use Rattle.elf_image_type.proofs.Public.{of_its_bytes}
use Rattle.elf_table_symbols.specs.Sections.{Sections, sections_in, sections_of}

-- the section headers of bytes with this header, and what follows from them
abbrev headers_at : List ℕ → Ehdr → List Shdr
headers_at b h = map (sections b h) (range_with_len 0 (section_header_count h (sections b h 0)))

abbrev made : List ℕ → Ehdr → List Shdr → Sections
made b h headers = record { header = h; headers = headers; contents = map (λ s. bytes_in b (content_extent s)) headers }

pub sections_of_bytes : (v : ImageValue) (b : List ℕ) → IsImage v b → sections_of v ≡ sections_in b
unfolding sections_in
sections_of_bytes v b image =
    (let stands = image.stands in
    ap (λ (cs : List (List ℕ)). record { header = v.header; headers = v.sections; contents = cs }) stands.contents
    ∙ ap (made b v.header) stands.records.section_headers
    ∙ ap (λ (h : Ehdr). made b h (headers_at b h)) stands.records.header)

-- so they are those of its bytes
pub its_file : (v : ImageValue) → (b : List ℕ) × IsImage v b → OfItsBytes v (λ b. sections_of v ≡ sections_in b)
its_file v image = of_its_bytes v (λ b. sections_of v ≡ sections_in b) image (sections_of_bytes v)
