use Rattle.elf_image_rules.proofs.Public.{clean_records, extents_disjoint, extents_within, name_table_below, sound_tables}
use Rattle.elf_image_rules.proofs.laws.extents_of_image.Goals as goal

pub returns : goal.returns
returns c = record {
  within = λ len h s g names clean. extents_within len h s (sound_tables len h s g names (clean_records len h s g names clean));
  disjoint = extents_disjoint;
  named = λ len h s g names clean. name_table_below len h s (sound_tables len h s g names (clean_records len h s g names clean));
}
