use Rattle.std.proofs.Common.{◌≡◌, ◌<◌, ℕ, [], None, Some, IfSome, get_or, length, map, take}
use Rattle.elf_tool_check.specs.Ending.{AsksInOrder}
use Rattle.elf_tool_program.proofs.opening.open_all.Given as goal

-- the first files are open, and what is known of all is as it was
abbrev pub invariant-loop-k : goal.invariant-loop-k
invariant-loop-k g l = (let names = map (λ name. name.now) l.names in record {
  count : length l.inputs.items ≡ l.k;
  held : g.O.Opener.holds l.files ≡ g.O.Opener.holds l.initial.files;
  known : g.O.Opener.opens l.files ≡ g.O.Opener.opens l.initial.files;
  asked : AsksInOrder (g.O.Opener.asked l.initial.files) (g.O.Opener.asked l.files) (take l.k names);
  bytes : (j : ℕ) → j < l.k → IfSome (g.O.Opener.holds l.initial.files (get_or names j []))
      (λ bytes. get_or (map g.O.Input.Read.remaining l.inputs.items) j None ≡ Some bytes);
})
