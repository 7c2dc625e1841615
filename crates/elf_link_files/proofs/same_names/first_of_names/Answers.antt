use Rattle.std.proofs.Common.{◌≡◌, ◌∙◌, ◌++◌, ◌-◌, ◌+◌, ap, arith, drop, take, sym}
use Rattle.std.proofs.Math.Seq.{take-add}
use Rattle.std.proofs.lemmas.List.{map-append}
use Rattle.elf_link_files.specs.SameNames.{site_name, site_names}
use Rattle.elf_link_files.proofs.same_names.first_of_names.Goals as goal

pub loop-start-preserved : goal.loop-start-preserved
loop-start-preserved c =
    let fs = c.args.objects.now in
    let named = c.args.named in
    let sites = c.args.sites.now in
    let start = c.loop-start.start in
    let end = c.end_of_file-end.result in
    let more = c.end_of_file-end.ensures.more in
    let is : start + (end - start) ≡ end = omega arith in
    record {
      within = c.end_of_file-end.ensures.within;
      names = c.in_ok-names.ensures ∙
          ap (λ xs. xs ++ site_names fs named (take (end - start) (drop start sites))) c.loop-start.invariant.names
          ∙ sym (map-append (site_name fs named) (take start sites) (take (end - start) (drop start sites)))
          ∙ ap (site_names fs named) (sym (take-add start (end - start) sites) ∙ ap (λ n. take n sites) is);
    }
