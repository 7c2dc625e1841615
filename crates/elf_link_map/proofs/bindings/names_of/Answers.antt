use Rattle.std.proofs.Common.{map}
use Rattle.std.proofs.lemmas.List.{map-append}
use Rattle.elf_link_files.specs.Rows.{site_at}
use Rattle.elf_link_files.proofs.Public.{each_more}
use Rattle.elf_link_outputs.specs.Placed.{common_value}
use Rattle.elf_link_map.specs.LinkMap.{no_name}
use Rattle.elf_link_map.specs.Naming.{IsNamedAt}
use Rattle.elf_link_map.proofs.bindings.names_of.Goals as goal

pub loop-k-preserved : goal.loop-k-preserved
loop-k-preserved c =
    let r = c.args.resolution.now in
    let cs = map common_value c.args.commons.now in
    rw (c.in_ok-push.ensures.items, map-append)
    (each_more no_name (λ j. IsNamedAt r.objects cs (site_at r.firsts j)) c.loop-k.k _ _
    (c.name.ensures, c.binding_at.ensures) c.loop-k.invariant)
