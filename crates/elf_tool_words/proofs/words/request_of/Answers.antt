use Rattle.std.proofs.Common.{inl, inr}
use Rattle.elf_tool_words.specs.Command.{check, elfmap, link_command, map_command, rewrite, show}
use Rattle.elf_tool_words.proofs.words.request_of.Goals as goal

pub unreachable-requires : goal.unreachable-requires
unfolding check show rewrite map_command link_command elfmap
unreachable-requires c = elim c.requires [
  | inl is_check ↦ c.in_default.not-check is_check
  | inr (inl is_show) ↦ c.in_default.not-show is_show
  | inr (inr (inl is_rewrite)) ↦ c.in_default.not-rewrite is_rewrite
  | inr (inr (inr (inl is_map))) ↦ c.in_default.not-map is_map
  | inr (inr (inr (inr (inl is_link)))) ↦ c.in_default.not-link is_link
  | inr (inr (inr (inr (inr none)))) ↦ absurd none
]
