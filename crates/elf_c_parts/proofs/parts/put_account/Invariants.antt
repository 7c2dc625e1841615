use Rattle.std.proofs.Common.{◌≤◌, ◌*◌, length, map, take}
use Rattle.elf_extent.proofs.Public.{AccountsBelow}
use Rattle.elf_image_rules.specs.Rules.{extents_of_file}
use Rattle.elf_image_rules.specs.ValidatedRecords.{file_of}
use Rattle.elf_c_parts.specs.Slots.{member_of_part, piece_of_part}
use Rattle.elf_c_parts.proofs.parts.put_account.Given as goal

-- the parts so far account for what lies below at, two at most for each member
abbrev pub invariant-loop-member : goal.invariant-loop-member
invariant-loop-member l =
    let b = file_of l.records in record {
      few : l.count ≤ 2 * l.member-index;
      walk : AccountsBelow (extents_of_file b) (length b) (map member_of_part l.members) l.member-index l.at
          (map piece_of_part (take l.count l.parts));
    }
