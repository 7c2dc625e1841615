-- The structs and enums of `elf_tool`, as clauses name them.
pub use Rattle.elf_tool_check.specs.declared.ending.Ended
pub use Rattle.elf_tool_link.specs.declared.mapped.FileFault
pub use Rattle.elf_tool_check.specs.declared.opener.OpenFault
pub use Rattle.elf_tool_link.specs.declared.places.RecordPlace
pub use Rattle.elf_tool_check.specs.declared.calls.Refusal
pub use Rattle.elf_tool_words.specs.declared.words.Request
pub use Rattle.elf_tool_rule_file.specs.declared.file.RulesFault
pub use Rattle.elf_tool_check.specs.declared.ending.Status
pub use Rattle.elf_tool_check.specs.declared.calls.ToolFault
pub use Rattle.elf_tool_link.specs.declared.mapped.Unlinked
pub use Rattle.elf_tool_check.specs.declared.calls.Verdict
pub use Rattle.elf_tool_words.specs.declared.words.WordsFault
