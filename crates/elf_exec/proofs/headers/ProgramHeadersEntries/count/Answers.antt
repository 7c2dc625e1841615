use Rattle.std.proofs.Common.{sym, ◌∙◌}
use Rattle.elf_link_relocate.specs.Loads.{loads}
use Rattle.elf_exec.proofs.ExecText.{length-program_headers, many_places}
use Rattle.elf_exec.proofs.headers.ProgramHeadersEntries.count.Goals as goal

pub returns : goal.returns
returns c =
    let p = c.args.self.now.placed.now in
    let m = p.linked.map in
    c.count.ensures.value ∙ sym (length-program_headers m.page (loads m) p.places (many_places m p.places c.count.ensures.placed.least))
