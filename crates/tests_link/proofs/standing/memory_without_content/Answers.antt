use Rattle.std.proofs.Common.{inr, refl}
use Rattle.tests_link.proofs.standing.memory_without_content.Goals as goal

pub returns : goal.returns
returns c fs m rules is clean x area none =
    inr ((λ field. none (c.field_in_content.ensures fs m rules is clean x field)), inr (none, area, refl))
