-- What stops a scan of the bytes of a slice is why they are no image. No call of such a source fails, so none is reported.
use Rattle.std.proofs.Common.{◌≡◌, ℕ, List, Err, arith}
use Rattle.elf_image_rules.specs.Rules.{KeepsRecordRules}
use Rattle.elf_image_outline.specs.Scanning.{Stops, scan_failure}
use Rattle.elf_image_stream.specs.Source.{Remembers, no_failures}
use Rattle.elf_image_stream.specs.declared.fault.Fault.{Fault}
use Rattle.elf_image_stream.specs.declared.fault.Fault.TheVariants.{Io, OutOfMemory, Rule}
use Rattle.elf_image_type.specs.Parsing.{IsParseFault}

pub stops_parse : (T : Type 0) (b : List ℕ) (fault : Fault) → KeepsRecordRules b →
    Remembers (scan_failure {T = T} (Err fault)) no_failures no_failures →
    Stops b fault → IsParseFault b fault
stops_parse T b OutOfMemory kept remembers stops = kept
stops_parse T b (Io at) kept remembers stops = absurd (let same : 0 ≡ 1 = remembers.0 in omega arith)
stops_parse T b (Rule number at) kept remembers stops = stops
