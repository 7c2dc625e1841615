use Rattle.std.proofs.Common.{ℕ, ◌⊎◌, length}
use Rattle.elf_object_reader.specs.FileRules.{IsMemberBefore, NamesFirst, AreMarks, sections_of_file}
use Rattle.elf_object_reader.proofs.object_file.FileSection.mark_members.Given as goal

-- the members so far are marked too
abbrev pub invariant-loop-j : goal.invariant-loop-j
invariant-loop-j l =
    let f = sections_of_file l.self.file.now in
    AreMarks (length l.self.file.now.image.now.sections)
    (λ (m : ℕ). IsMemberBefore f l.self.index m ⊎ NamesFirst f l.self.index l.j m) l.marks.items
