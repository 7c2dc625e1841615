-- What the proofs of the crates above may cite: how chunks that go out one after the other make the whole, with the count of what was
-- written; numbers below an end; and what reads of a source fail, and what a source remembers of them.
pub use Rattle.elf_image_stream.proofs.Written.{both_out, is_index, line_at, no_index, nothing_out, sends_after, stopped_exactly}
pub use Rattle.elf_image_stream.proofs.Written.{stopped_later, stopped_longer, stopped_whole}
pub use Rattle.elf_image_stream.proofs.Sources.{failed_within, one_failure}
