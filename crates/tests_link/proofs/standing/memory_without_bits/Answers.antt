use Rattle.std.proofs.Common.{◌≡◌, true, length, refl, ◌∙◌, arith}
use Rattle.elf_link_files.specs.Files.{section_in}
use Rattle.elf_link_map.specs.Standing.{member_at, output_at}
use Rattle.elf_link_outputs.specs.Outputs.{is_no_bits}
use Rattle.elf_link_relocate.specs.Fields.{content_of}
use Rattle.elf_object_type.specs.Object.{BodyValue, bits, no_bits, relocs, group}
use Rattle.tests_link.proofs.standing.memory_without_bits.Goals as goal

-- a body without bits has no content
no_content : (b : BodyValue) → is_no_bits b ≡ true → length (content_of b) ≡ 0
no_content (bits type content) is = absurd (cc)
no_content (no_bits size) is = refl
no_content (relocs rela target entries) is = refl
no_content (group comdat signature members) is = refl

pub returns : goal.returns
returns c fs m rules is clean x k k_in here no_bits_is =
    let (opt, map, sound) = is in
    let members = (c.outputs_stand.ensures opt fs m map).members k k_in in
    c.memory_zero.ensures fs m rules (m.base, m.page, m.entry, is) clean x k k_in here
    (λ i i_in (from, to). (
    let p = member_at (output_at m k) i in
    let empty = no_content (section_in fs p.file p.section).body (members.kind i i_in ∙ no_bits_is) in
    omega arith))
