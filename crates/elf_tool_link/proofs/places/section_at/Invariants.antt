use Rattle.std.proofs.Common.{◌≡◌, ◌<◌, ◌≤◌, ℕ}
use Rattle.elf_object_layout.specs.SectionsLeftOut.{left_out}
use Rattle.elf_object_reader.specs.Denotes.{position_of}
use Rattle.elf_table_symbols.specs.Sections.{sections_of}
use Rattle.elf_tool_link.specs.Places.{IsKeptAt}
use Rattle.elf_tool_link.proofs.places.section_at.Given as goal

abbrev pub invariant-loop-i : goal.invariant-loop-i
invariant-loop-i l =
    let f = sections_of l.image in
    record {
      few : l.kept ≤ l.i;
      kept : l.kept ≡ position_of (left_out f) f l.i;
      none : (j : ℕ) → j < l.i → IsKeptAt f l.position j → ⊥;
    }
