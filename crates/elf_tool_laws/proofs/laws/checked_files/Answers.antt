use Rattle.elf_tool_laws.proofs.Checked.{link_refuses, linked_accepted, rewrite_refuses, show_agrees, written_accepted}
use Rattle.elf_tool_laws.proofs.laws.checked_files.Goals as goal

pub returns : goal.returns
returns c = record {
  show = show_agrees;
  rewrite = rewrite_refuses;
  link = λ opt rules. link_refuses;
  rewritten = written_accepted;
  linked = linked_accepted;
}
