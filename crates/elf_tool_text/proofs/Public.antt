-- What the proofs of the engines may cite: of lines that are made word by word; and of texts that go out in pieces, through memory or
-- without; and how long a text is at most.
pub use Rattle.elf_tool_text.proofs.TextLines.{all_counted, all_cut, all_lines_buffered, buffers_both, buffers_line, buffers_none}
pub use Rattle.elf_tool_text.proofs.TextLines.{cut_flushed, cut_later, cut_longer, line_appended, line_buffered, line_cut, line_ended}
pub use Rattle.elf_tool_text.proofs.TextLines.{line_ended_after, line_ended_by, line_refused, lines_buffered, lines_cut}
pub use Rattle.elf_tool_text.proofs.PassedText.{line_at_once, line_of_last, passed_after, stopped_between}
pub use Rattle.elf_tool_text.proofs.ShortText.{bytes_short, decimal_short, hexadecimal_short, indexed_short, line_length, lines_short}
pub use Rattle.elf_tool_text.proofs.ShortText.{name_short, words_length}
pub use Rattle.elf_image_stream.proofs.Public.{is_index, line_at, no_index}
