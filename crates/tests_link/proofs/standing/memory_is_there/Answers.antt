use Rattle.tests_link.proofs.standing.memory_is_there.Goals as goal

pub returns : goal.returns
returns c fs m rules is clean x = (c.some_byte.ensures fs m rules is clean x, (λ (v, at). c.memory_in.ensures fs m rules is clean x v at))
