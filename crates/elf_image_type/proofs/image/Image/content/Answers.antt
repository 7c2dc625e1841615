use Rattle.std.proofs.Common.{arith, refl}
use Rattle.elf_image_outline.proofs.Edited.{content_held, content_inside, content_size, held_at, len_short}
use Rattle.elf_image_type.proofs.image.Image.content.Goals as goal

pub returns-clause-size : goal.returns-clause-size
returns-clause-size c =
    let within = rw (← c.self.view_is) at c.requires in
    rw (← c.self.view_is)
    (content_size _ c.self.inside.contents.items c.args.i c.index.result.now c.self.invariant refl within c.index.ensures)

pub returns-clause-inside : goal.returns-clause-inside
returns-clause-inside c =
    let within = rw (← c.self.view_is) at c.requires in
    let size = content_size _ c.self.inside.contents.items c.args.i c.index.result.now c.self.invariant refl within c.index.ensures in
    rw (← c.self.view_is) (rw size (content_inside _ c.args.i c.self.invariant within))

pub returns-clause-short : goal.returns-clause-short
returns-clause-short c = rw (← c.self.view_is) (len_short _ c.self.invariant)

pub index-requires : goal.index-requires
index-requires c =
    let within = rw (← c.self.view_is) at c.requires in
    let there = content_held _ c.self.inside.contents.items c.args.i c.self.invariant refl within in
    omega arith

pub returns-clause-bytes : goal.returns-clause-bytes
returns-clause-bytes c =
    let within = rw (← c.self.view_is) at c.requires in
    rw (← c.self.view_is) (held_at c.self.inside.contents.items c.args.i c.index.result.now
    (content_held _ c.self.inside.contents.items c.args.i c.self.invariant refl within) c.index.ensures)
