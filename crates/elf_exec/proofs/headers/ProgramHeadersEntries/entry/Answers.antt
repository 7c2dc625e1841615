-- There are as many places as loads, and one program header for each: so the header at an index is made of the load and the place there.
use Rattle.std.proofs.Common.{ℕ, ap, ap₂, sym, ◌∙◌, arith}
use Rattle.elf_link_map.specs.LinkMap.{LinkMapValue}
use Rattle.elf_link_relocate.specs.Linked.{LinkedValue}
use Rattle.elf_link_relocate.specs.declared.load.Load.{Load}
use Rattle.elf_link_relocate.specs.Loads.{load_in, loads}
use Rattle.elf_exec.specs.Executable.{program_header}
use Rattle.elf_exec.proofs.ExecText.{header_found, length-program_headers, many_places}
use Rattle.elf_exec.proofs.headers.ProgramHeadersEntries.entry.Goals as goal

pub load-requires : goal.load-requires
load-requires c =
    let p = c.args.self.now.placed.now in
    let m = p.linked.map in
    let within = c.requires.within in
    let all = length-program_headers m.page (loads m) p.places (many_places m p.places c.linked.ensures.placed.least) in
    omega arith

pub place-requires : goal.place-requires
place-requires c =
    let p = c.args.self.now.placed.now in
    let m = p.linked.map in
    let within = c.requires.within in
    let all = length-program_headers m.page (loads m) p.places (many_places m p.places c.linked.ensures.placed.least) in
    omega arith

pub returns : goal.returns
returns c =
    let p = c.args.self.now.placed.now in
    let m = p.linked.map in
    let within = c.requires.within in
    let many = many_places m p.places c.linked.ensures.placed.least in
    let all = length-program_headers m.page (loads m) p.places many in
    let page = c.page-page.ensures ∙ ap (λ (n : LinkMapValue). n.page) c.map.ensures ∙
    ap (λ (l : LinkedValue). l.map.page) c.linked.ensures.value in
    c.program_header.ensures
    ∙ ap₂ (λ (n : ℕ) (load : Load). program_header n load c.place.result) page c.load.ensures
    ∙ ap (λ (x : ℕ). program_header m.page (load_in m c.args.index) x) c.place.ensures
    ∙ sym (header_found m.page (loads m) p.places c.args.index c.program_header.result many (omega arith))
