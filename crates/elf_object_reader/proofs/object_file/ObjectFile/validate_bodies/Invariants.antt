use Rattle.std.proofs.Common.{ℕ, ◌-◌, Option, length}
use Rattle.std.specs.Prelude.{filter}
use Rattle.std.specs.List.{range_with_len}
use Rattle.elf_image_rules.specs.Rows.{FirstIn}
use Rattle.elf_object_reader.specs.FileRules.{rules_of_bodies, sections_of_file}
use Rattle.elf_object_layout.specs.SectionsLeftOut.{is_kept}
use Rattle.elf_object_reader.specs.Denotes.{kept}
use Rattle.elf_object_reader.proofs.object_file.ObjectFile.validate_bodies.Given as goal

-- what the tables of the sections that are left break is what all break
abbrev pub invariant-loop-i : goal.invariant-loop-i
invariant-loop-i l =
    let f = sections_of_file l.self in
    (found : Option (ℕ × ℕ)) →
    FirstIn (rules_of_bodies f (filter (is_kept l.self.left f) (range_with_len l.i (length l.self.image.now.sections - l.i)))) found →
    FirstIn (rules_of_bodies f (kept l.self.left f)) found
