use Rattle.std.proofs.Common.{◌∙◌, ap, length, subst, sym, ℕ, List}
use Rattle.elf_image_sources.proofs.Lists.{last_end}
use Rattle.elf_image_sources.specs.Joined.{AreListEnds}
use Rattle.elf_image_sources.proofs.joined.JoinedSource.length.Goals as goal

pub returns-clause-length : goal.returns-clause-length
returns-clause-length c =
    let are = subst (λ (ends : List ℕ). AreListEnds c.self.inside.lists.now ends) (sym c.deref.ensures.value) c.self.invariant in
    c.last_of.ensures ∙ last_end c.self.inside.lists.now _ are ∙ ap length c.self.view_is
