use Rattle.tests_link.proofs.standing.memory_is_one.Goals as goal

pub returns : goal.returns
returns c fs m rules l is linked have x area =
    let (v, at) = c.memory_there.ensures fs m rules l is linked x area in
    (v, c.memory_bytes.ensures fs m rules have x v at, (λ w other. c.one_byte.ensures fs m rules is linked.sound x w v other at))
