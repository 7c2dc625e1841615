use Rattle.std.proofs.Common.{ℕ, Vec, Global, inr, map as map_list}
use Rattle.elf_tool_link.proofs.OneLink.{one_link}
use Rattle.elf_tool_link.proofs.linking.link.Goals as goal

pub returns-clause-said : goal.returns-clause-said
returns-clause-said g c =
    let files = map_list (λ (f : Vec ℕ Global). f.items) c.in_ok-files.files.items in
    let says = rw (c.deref-2.ensures.value, c.in_ok-contents.ensures, c.deref.ensures.value) at c.link_files.ensures in
    inr (files, c.in_ok-files.ensures.ok, says)

pub returns-in_err-files-clause-only : goal.returns-in_err-files-clause-only
returns-in_err-files-clause-only g c = one_link _ _

pub returns-in_err-contents-clause-only : goal.returns-in_err-contents-clause-only
returns-in_err-contents-clause-only g c = one_link _ _

pub returns-clause-only : goal.returns-clause-only
returns-clause-only g c = one_link _ _
