-- The call that finds what a broken rule of the link is about. (gABI chapter 4: Sections, Symbol Table, Relocation.)
use Rattle.std.specs.Prelude.{◌≡◌, ◌≢◌, ◌⊎◌, ℕ, List, None, Option, Some}
use Rattle.elf_c_engines.specs.Calls.{fault_status, verdict_status}
use Rattle.elf_c_engines.specs.declared.calls.CallFault.TheVariants.{OutOfMemory}
use Rattle.elf_c_engines.specs.declared.places.LinkPlace.{LinkPlace}
use Rattle.elf_c_parts.specs.declared.room.Slot.{Slot}
use Rattle.elf_extent.specs.declared.extent.Extent.{Extent}
use Rattle.elf_link_files.specs.KnownBefore.{id_in}
use Rattle.elf_link_files.specs.declared.inputs.SymbolId.{SymbolId}
use Rattle.elf_link_files.specs.declared.site.Site.{Site}
use Rattle.elf_tool_check.specs.declared.calls.Verdict.TheVariants.{Done}
use Rattle.elf_tool_link.specs.Definitions.{IsFirstDefinition}
use Rattle.elf_tool_link.specs.Places.{IsRecordAt, no_extent, subject_of}
use Rattle.elf_tool_link.specs.declared.places.RecordPlace.{RecordPlace}

abbrev pub extent_slot : Extent → Slot
extent_slot e = record { start = e.start; len = e.len }

-- a record and a symbol as numbers; 0 of one that is not there
abbrev pub with_first : LinkPlace → Option SymbolId → LinkPlace
with_first place None = place
with_first place (Some first) = record {
  section = place.section;
  entry = place.entry;
  «record» = place.«record»;
  name = place.name;
  first_file = first.file;
  first_index = first.index;
}

abbrev pub of_record : Option RecordPlace → LinkPlace
of_record None = record {
  section = 0;
  entry = 0;
  «record» = extent_slot no_extent;
  name = extent_slot no_extent;
  first_file = 0;
  first_index = 0;
}
of_record (Some found) = record {
  section = found.section;
  entry = found.entry;
  «record» = extent_slot found.bytes;
  name = extent_slot found.name;
  first_file = 0;
  first_index = 0;
}

abbrev pub place_numbers : Option RecordPlace → Option SymbolId → LinkPlace
place_numbers found first = with_first (of_record found) first

-- of rule 8 the first GLOBAL definition of the name that the symbol at a site has; of another rule none
abbrev pub IsFirstOfRule : List (List ℕ) → ℕ → Site → Option SymbolId → Type 0
IsFirstOfRule files rule site first =
    ((rule ≡ 8) × IsFirstDefinition files (id_in site.file site.index) first) ⊎ ((rule ≢ 8) × (first ≡ None))

-- what a rule is about that is broken at a site: the record, and of rule 8 the first definition
abbrev pub IsLinkPlace : List (List ℕ) → ℕ → Site → LinkPlace → Type 0
IsLinkPlace files rule site place =
    (found : Option RecordPlace) × (first : Option SymbolId)
    × IsRecordAt files (subject_of rule) site found × IsFirstOfRule files rule site first × (place ≡ place_numbers found first)

-- the call returns it; or it is out of memory, and the struct is unchanged
abbrev pub IsLinkPlaceCall : List (List ℕ) → ℕ → Site → LinkPlace → LinkPlace → ℕ → Type 0
IsLinkPlaceCall files rule site old new status =
    (IsLinkPlace files rule site new × (status ≡ verdict_status Done))
    ⊎ ((new ≡ old) × (status ≡ fault_status OutOfMemory))
