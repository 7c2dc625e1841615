use Rattle.std.proofs.Common.{take}
use Rattle.std.specs.List.{flat_map, range_with_len}
use Rattle.elf_image_stream.specs.Output.{WentOut}
use Rattle.elf_image_stream.proofs.chunks.send_all.Given as goal

-- the first texts are out
abbrev pub invariant-loop-j : goal.invariant-loop-j
invariant-loop-j g l =
    WentOut (g.W.Write.contents l.initial.writer) (g.W.Write.contents l.writer) l.initial.all
    (flat_map (g.P.Chunks.chunk l.chunks) (take l.j (range_with_len 0 (g.P.Chunks.count l.chunks)))) l.all
