use Rattle.std.proofs.Common.{◌≡◌, ap}
use Rattle.elf_link_outputs.specs.Outputs.{SectionsValue}
use Rattle.elf_link_outputs.proofs.Numbers.{keyed_more}
use Rattle.elf_link_outputs.proofs.outputs.Sections.keys.Goals as goal

pub loop-position-preserved : goal.loop-position-preserved
loop-position-preserved c =
    let sites : c.self.inside.sites.now ≡ c.args.self.now.sites = ap (λ (v : SectionsValue). v.sites) c.self.view_is in
    let objects : c.self.inside.objects.now ≡ c.args.self.now.objects = ap (λ (v : SectionsValue). v.objects) c.self.view_is in
    rw c.in_ok-push.ensures.items
    (keyed_more c.args.self.now.objects c.args.self.now.sites c.args.firsts.now c.loop-position.position c.loop-position.keyed.items
    c.key_of-key.result
    (rw (sites, objects) at c.key_of-key.ensures) c.loop-position.invariant)
