-- What is found by the rules in front, or by those of tables, is what all rules find; and if they find nothing, the parts are read.
use Rattle.std.proofs.Common.{None}
use Rattle.elf_object_reader.specs.Denotes.{Denotes}
use Rattle.elf_object_type.specs.ObjectView.{HasNameEnds, value_of}
use Rattle.elf_object_type.specs.declared.object.NameEnds.{NameEnds}
use Rattle.elf_object_type.specs.declared.parts.ObjectParts.{ObjectParts}
use Rattle.elf_table_symbols.specs.Sections.{Sections, sections_of}
use Rattle.elf_object_reader.proofs.FileRules.{fault_after, found_after, front_fault, read_validated}
use Rattle.elf_object_reader.proofs.reading.parts_of.Goals as goal

abbrev IsRead : Sections → ObjectParts × NameEnds → Type 0
IsRead f (parts, ends) = Denotes f (value_of parts) × HasNameEnds (value_of parts) ends

pub returns-in_err-validate_front : goal.returns-in_err-validate_front
returns-in_err-validate_front c =
    let f = sections_of c.args.image.now in
    front_fault f (IsRead f) _ _ c.from_residual.result c.in_err-validate_front.ensures c.from_residual.ensures.1

pub returns-in_err-validate : goal.returns-in_err-validate
returns-in_err-validate c =
    let f = sections_of c.args.image.now in
    fault_after f c.of-left.result (IsRead f) _ c.from_residual-in_err-validate.result c.of-left.ensures
    c.in_ok-validate_front.ensures c.in_err-validate.ensures c.from_residual-in_err-validate.ensures.1

pub read_parts-requires : goal.read_parts-requires
read_parts-requires c =
    found_after
    (sections_of c.args.image.now) c.of-left.result None c.of-left.ensures c.in_ok-validate_front.ensures c.in_ok-validate.ensures.0

pub returns : goal.returns
returns c =
    let f = sections_of c.args.image.now in
    let clean = found_after f c.of-left.result None c.of-left.ensures c.in_ok-validate_front.ensures c.in_ok-validate.ensures.0 in
    read_validated f (IsRead f) c.read_parts.result clean c.read_parts.ensures.ok c.read_parts.ensures.err
