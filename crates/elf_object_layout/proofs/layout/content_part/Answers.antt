use Rattle.std.proofs.Common.{◌≡◌, ◌*◌, ℕ, length, rules, refl, sym, ap, ◌∙◌, min}
use Rattle.std.specs.Prelude.{vec_len}
use Rattle.elf_object_layout.specs.Laid.{LARGEST}
use Rattle.elf_object_type.specs.ObjectView.{body_value, section_value}
use Rattle.elf_object_layout.proofs.PlainSections.{bits_part, group_part, relocs_part}
use Rattle.elf_object_layout.proofs.layout.content_part.Goals as goal

pub returns-in-Bits : goal.returns-in-Bits
returns-in-Bits c =
    λ o. bits_part o (section_value c.args.section.now) c.in-Bits.field-0 c.in-Bits.content.now _
    (ap body_value c.in-Bits.is) c.requires refl (search rules)

pub returns-in-Relocs : goal.returns-in-Relocs
returns-in-Relocs c = λ o.
    let size = c.entries_size.ensures in
    let entry = c.relocation_size.ensures in
    relocs_part o (section_value c.args.section.now) c.in-Relocs.rela c.in-Relocs.target c.in-Relocs.entries c.len.result _
    (ap body_value c.in-Relocs.is)
    c.len.ensures (size ∙ ap (λ (n : ℕ). min (n * c.len.result) LARGEST) entry)

pub returns-in-Group : goal.returns-in-Group
returns-in-Group c = λ o.
    let many : length c.in-Group.members.items ≡ vec_len c.in-Group.members = search rules in
    group_part o (section_value c.args.section.now) c.in-Group.comdat c.in-Group.signature c.in-Group.members.items c.len-in-Group.result _
    (ap body_value c.in-Group.is)
    (c.len-in-Group.ensures ∙ sym many) c.table_size.ensures
