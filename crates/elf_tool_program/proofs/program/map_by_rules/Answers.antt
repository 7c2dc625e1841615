use Rattle.std.proofs.Common.{◌∷◌, [], Some, inl}
use Rattle.elf_tool_check.specs.Ending.{EndsWith, printed_of}
use Rattle.elf_tool_link.specs.Map.{IsMappedExactly}
use Rattle.elf_tool_program.proofs.Sources.{ends_after}
use Rattle.elf_tool_program.proofs.program.map_by_rules.Goals as goal

pub returns-in-Ok : goal.returns-in-Ok
returns-in-Ok g c =
    let r = c.in-Ok in
    rw c.in-Some.is (
    inl (
      r.rules.items,
      r.ensures.ok,
      ends_after printed_of (IsMappedExactly c.args.options.now (Some r.rules.items)) _ _
          (g.O.Opener.asked c.args.files.now) (g.O.Opener.asked c.rules_of.new.files)
          (g.O.Opener.asked c.map_named_files-in-Ok.new.files) (c.in-Some.file.now ∷ []) _ _ _
          (EndsWith (g.E.Write.contents c.args.err.now) (g.E.Write.contents c.map_named_files-in-Ok.new.err) c.map_named_files-in-Ok.result)
          r.ensures.asked (rw (c.deref.ensures.value, r.ensures.kept, r.ensures.still) at c.map_named_files-in-Ok.ensures),
    ))
