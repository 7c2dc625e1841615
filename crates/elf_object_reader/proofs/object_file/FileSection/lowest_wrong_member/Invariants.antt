use Rattle.std.proofs.Common.{ℕ, ◌<◌}
use Rattle.elf_object_reader.specs.FileRules.{IsWrongGroupMember, sections_of_file}
use Rattle.elf_table_symbols.specs.Sections.{content, order}
use Rattle.elf_table_lists.specs.Groups.{member}
use Rattle.elf_object_reader.proofs.object_file.FileSection.lowest_wrong_member.Given as goal

abbrev pub invariant-loop-j : goal.invariant-loop-j
invariant-loop-j l =
    let f = sections_of_file l.self.file.now in (k : ℕ) → k < l.j →
    IsWrongGroupMember l.self.file.now.left f l.self.index (member (order f) (content f l.self.index) k) → ⊥
