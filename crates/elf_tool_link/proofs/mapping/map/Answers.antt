-- The files that were read are those of the report. If reading fails, nothing is reported.
use Rattle.std.proofs.Common.{ℕ, Vec, Global, arith, inr, map as map_list}
use Rattle.std.proofs.lemmas.List.{length-map}
use Rattle.elf_tool_link.proofs.FewFiles.{few_files_short}
use Rattle.elf_tool_link.proofs.InputFiles.{as_many_read}
use Rattle.elf_tool_link.proofs.MapPrints.{exactly}
use Rattle.elf_tool_link.proofs.OneMap.{one_map}
use Rattle.elf_tool_link.proofs.mapping.map.Goals as goal

pub returns-clause-any : goal.returns-clause-any
returns-clause-any g c =
    let files = map_list (λ (f : Vec ℕ Global). f.items) c.in_ok-files.files.items in
    let says = rw (c.deref-2.ensures.value, c.in_ok-contents.ensures, c.deref.ensures.value) at c.map_files.ensures.any in
    inr (files, c.in_ok-files.ensures.ok, says)

pub returns-clause-few : goal.returns-clause-few
returns-clause-few g c few =
    let files = map_list (λ (f : Vec ℕ Global). f.items) c.in_ok-files.files.items in
    let read = as_many_read _ _ files c.in_ok-files.ensures.ok in
    let readers = length-map c.args.readers.now g.R.Read.remaining in
    let says = rw (c.deref-2.ensures.value, c.in_ok-contents.ensures, c.deref.ensures.value) at c.map_files.ensures.any in
    inr (
      files,
      c.in_ok-files.ensures.ok,
      exactly _ _ _ c.map_files.result (λ text is. few_files_short _ _ files text (omega arith) is) says,
    )

pub returns-in_err-files-clause-only : goal.returns-in_err-files-clause-only
returns-in_err-files-clause-only g c = one_map _ _

pub returns-in_err-contents-clause-only : goal.returns-in_err-contents-clause-only
returns-in_err-contents-clause-only g c = one_map _ _

pub returns-clause-only : goal.returns-clause-only
returns-clause-only g c = one_map _ _
