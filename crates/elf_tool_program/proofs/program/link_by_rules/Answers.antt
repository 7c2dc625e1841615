use Rattle.std.proofs.Common.{◌∷◌, [], inl}
use Rattle.elf_tool_check.specs.Ending.{EndsWith, printed_refusal_in}
use Rattle.elf_tool_link.specs.Link.{IsLinkCall}
use Rattle.elf_tool_program.proofs.Sources.{ends_after}
use Rattle.elf_tool_program.proofs.program.link_by_rules.Goals as goal

pub returns-in-Ok : goal.returns-in-Ok
returns-in-Ok g c =
    let r = c.in-Ok in
    inl (
      r.rules.items,
      r.ensures.ok,
      ends_after printed_refusal_in (IsLinkCall c.args.options.now r.rules.items) _ _
          (g.O.Opener.asked c.args.files.now) (g.O.Opener.asked c.rules_of.new.files)
          (g.O.Opener.asked c.link_named_files.new.files) (c.args.file.now ∷ []) _ _ _
          (EndsWith (g.E.Write.contents c.args.err.now) (g.E.Write.contents c.link_named_files.new.err) c.link_named_files.result)
          r.ensures.asked (rw (c.deref.ensures.value, r.ensures.kept, r.ensures.still) at c.link_named_files.ensures),
    )
