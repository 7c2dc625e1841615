use Rattle.elf_image_type.proofs.Public.{header_fields, section_fields, segment_fields}
use Rattle.elf_image_type.proofs.laws.fields.Goals as goal

pub returns : goal.returns
returns c = record { header = header_fields; sections = section_fields; segments = segment_fields }
