use Rattle.elf_tool_laws.proofs.Alike.{alike_objects, alike_refused, definition_kept, other_way, same_link, same_map, verdict_kept}
use Rattle.elf_tool_laws.proofs.laws.alike_files.Goals as goal

pub returns : goal.returns
returns c = record {
  objects = λ files others fs alike.
      (alike_objects files others fs alike, alike_objects others files fs (other_way files others alike));
  refused = λ files others f rule at alike.
      (alike_refused files others f rule at alike, alike_refused others files f rule at (other_way files others alike));
  map = same_map;
  link = same_link;
  verdict = λ opt rules files others said alike.
      (verdict_kept opt rules files others said alike, verdict_kept opt rules others files said (other_way files others alike));
  definition = λ files others symbol found alike.
      (definition_kept files others symbol found alike, definition_kept others files symbol found (other_way files others alike));
}
