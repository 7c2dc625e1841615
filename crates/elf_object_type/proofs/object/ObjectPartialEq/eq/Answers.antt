use Rattle.std.proofs.Common.{◌∙◌}
use Rattle.elf_object_type.specs.laws.Equality.{object_decides}
use Rattle.elf_object_type.proofs.PartsOfObjects.{parts_same}
use Rattle.elf_object_type.proofs.object.ObjectPartialEq.eq.Goals as goal

pub returns-clause-parts : goal.returns-clause-parts
returns-clause-parts c = rw (← c.self.view_is) (rw (← c.other.view_is) (c.eq.ensures ∙ parts_same c.self.inside.parts c.other.inside.parts))

pub returns-clause-same : goal.returns-clause-same
returns-clause-same c = rw (returns-clause-parts c) (object_decides _ _)
