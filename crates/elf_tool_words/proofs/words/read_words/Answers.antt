use Rattle.std.proofs.Common.{map}
use Rattle.clap.specs.Matches.{found_of}
use Rattle.clap.specs.Walk.{rows_of}
use Rattle.elf_tool_words.proofs.WordLists.{entered_is, is_command, never_none}
use Rattle.elf_tool_words.proofs.words.read_words.Goals as goal

pub unreachable-requires : goal.unreachable-requires
unreachable-requires g c =
    never_none (map g.S.AsStr.text c.args.words.now) c.in_ok-matches.matches c.in_ok-matches.ensures.entered c.in_default.ensures.rows
    c.in_ok-matches.ensures.taken

pub request_of-requires : goal.request_of-requires
request_of-requires g c =
    let words = map g.S.AsStr.text c.args.words.now in
    let rows = rows_of (found_of c.in-Some.inner.now) in
    let entered =
    entered_is words c.in_ok-matches.matches c.in-Some.name.now rows c.in_ok-matches.ensures.entered c.in-Some.ensures.name
    c.in-Some.ensures.rows in
    is_command words (c.in-Some.name.now, rows) entered
