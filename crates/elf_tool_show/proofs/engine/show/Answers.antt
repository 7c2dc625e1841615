use Rattle.std.proofs.Common.{◌≡◌, ◌+◌, ◌^◌, ◌≤◌, ◌⊎◌, ℕ, List, Option, Result, arith, inl, inr, length, vec_len}
use Rattle.std.specs.Io.KnownBytes.{Consumes, IsAtEnd}
use Rattle.elf_tool_show.specs.Show.{IsShown, IsShownOf}
use Rattle.elf_tool_check.specs.declared.calls.ToolFault.{ToolFault}
use Rattle.elf_tool_check.specs.declared.calls.Verdict.{Verdict}
use Rattle.elf_tool_show.proofs.engine.show.Goals as goal

-- what is shown of the bytes of a file is shown of the file
shown : (input rest old new : Option (List ℕ)) (bytes items : List ℕ) (count : ℕ) (result : Result Verdict ToolFault) → bytes ≡ items →
    length bytes ≡ count
    → Consumes input rest items → count ≤ 2 ^ 30 + 1 → IsAtEnd rest ⊎ (count ≡ 2 ^ 30 + 1) → IsShownOf bytes old new result →
    IsShown input rest old new result
shown input rest old new bytes items count result same long taken limit whole (inl (none, kept)) =
    record { bytes = bytes; taken = rw same taken; limit = rw long limit; answered = inl (rw none kept) }
shown input rest old new bytes items count result same long taken limit whole (inr known) =
    record { bytes = bytes; taken = rw same taken; limit = rw long limit; answered = inr (rw long whole, known) }

pub returns-clause-said : goal.returns-clause-said
returns-clause-said g c =
    shown (g.R.Read.remaining c.args.reader.now) (g.R.Read.remaining c.read_input.new.reader) (g.W.Write.contents c.args.writer.now)
    (g.W.Write.contents c.show_bytes.new.writer) c.as_slice.result.now c.read_input.new.buf.items
    (vec_len c.read_input.new.buf) c.show_bytes.result
    c.as_slice.ensures.value (omega (arith, c.as_slice.ensures.len)) c.in_ok-read_input.ensures.taken c.in_ok-read_input.ensures.limit
    c.in_ok-read_input.ensures.ok c.show_bytes.ensures
