-- A file that breaks no rule denotes no other object (`one_object`). The sections of the image are those of its bytes (`its_file`), so all
-- of this holds of the one list of bytes that represents the image.
use Rattle.std.proofs.Common.{Err, Ok, Result}
use Rattle.elf_image_stream.specs.declared.fault.Fault.{Fault}
use Rattle.elf_image_stream.specs.declared.fault.Fault.TheVariants.{Io, OutOfMemory, Rule}
use Rattle.elf_object_reader.specs.Denotes.{Denotes, DenotesOnly}
use Rattle.elf_object_reader.specs.FileRules.{file_rules, front_rules}
use Rattle.elf_object_type.specs.Object.{ObjectValue}
use Rattle.elf_image_rules.proofs.Public.{one_fault}
use Rattle.elf_table_symbols.proofs.Public.{its_file, tested_told}
use Rattle.elf_table_symbols.specs.Sections.{Sections, sections_of}
use Rattle.elf_table_symbols.specs.Verdicts.{IsValidatedAfter}
use Rattle.elf_object_reader.proofs.ObjectKept.{one_object}
use Rattle.elf_object_reader.proofs.reading.object_of.Goals as goal

denoted_only : (f : Sections) (result : Result ObjectValue Fault) → IsValidatedAfter (front_rules f) (file_rules f) (Denotes f) result →
    IsValidatedAfter (front_rules f) (file_rules f) (DenotesOnly f) result
denoted_only f (Ok o) (kept, denotes) = (kept, (denotes, λ other denoted. one_object f other o denoted denotes))
denoted_only f (Err (Rule number at)) validated = validated
denoted_only f (Err OutOfMemory) validated = validated
denoted_only f (Err (Io at)) validated = validated

pub returns-in_err-read_object-clause-validated : goal.returns-in_err-read_object-clause-validated
returns-in_err-read_object-clause-validated c =
    tested_told {S = ObjectValue} _ _ (Denotes (sections_of c.args.image.now)) _ _ _ c.in_err-read_object.ensures c.from_residual.ensures.1

pub returns-in_err-read_object-clause-file : goal.returns-in_err-read_object-clause-file
returns-in_err-read_object-clause-file c =
    let f = sections_of c.args.image.now in (
      f,
      its_file c.args.image.now c.prove_stands.ensures,
      (
        one_fault (file_rules f),
        denoted_only f c.from_residual.result (returns-in_err-read_object-clause-validated c),
      ),
    )

pub returns-clause-file : goal.returns-clause-file
returns-clause-file c =
    let f = sections_of c.args.image.now in
    let (kept, denotes) = c.in_ok-read_object.ensures in (
      f,
      its_file c.args.image.now c.prove_stands.ensures,
      (
        one_fault (file_rules f),
        (kept, (denotes, λ other denoted. one_object f other _ denoted denotes)),
      ),
    )
