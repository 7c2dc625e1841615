use Rattle.elf_image_outline.proofs.Edited.{header_inside, len_short}
use Rattle.elf_image_type.proofs.image.Image.section.Goals as goal

pub returns-clause-inside : goal.returns-clause-inside
returns-clause-inside c =
    let within = rw (← c.self.view_is) at c.requires in
    rw (← c.self.view_is) (header_inside _ c.args.i c.self.invariant within)

pub returns-clause-short : goal.returns-clause-short
returns-clause-short c = rw (← c.self.view_is) (len_short _ c.self.invariant)
