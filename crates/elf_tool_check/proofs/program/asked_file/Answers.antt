-- A command line that asks for a file: the arguments at the places that the code looks at are the whole line, by its length.
use Rattle.std.proofs.Common.{rules, ◌≡◌, ℕ, ◌<◌, ◌≤◌, false, List, [], ◌∷◌, length, get_or, map, inl, inr, arith, nat_eq}
use Rattle.std.specs.Prelude.{codes}
use Rattle.std.specs.List.{starts_with}
use Rattle.elf_tool_check.specs.Ending.{AsksFor}
use Rattle.elf_tool_check.proofs.program.asked_file.Goals as goal

module _ {X : Type 0} (text : X → List ℕ) where
  of_three : (words : List X) (command file : X) → 3 ≤ length words → length words < 4
      → command ≡ get_or words 1 command → file ≡ get_or words 2 file
      → text command ≡ codes "check" → starts_with nat_eq (text file) (codes "-") ≡ false → AsksFor (map text words) (text file)
  of_three (a ∷ b ∷ c ∷ []) command file least most second third checks plain = inl (text a, cc, plain)
  of_three [] command file least most second third checks plain = absurd (omega (arith, least))
  of_three (a ∷ []) command file least most second third checks plain = absurd (omega (arith, least))
  of_three (a ∷ b ∷ []) command file least most second third checks plain = absurd (omega (arith, least))
  of_three (a ∷ b ∷ c ∷ d ∷ ds) command file least most second third checks plain = absurd (omega (arith, most))

  of_four : (words : List X) (command dashes file : X) → 4 ≤ length words → length words < 5
      → command ≡ get_or words 1 command → dashes ≡ get_or words 2 dashes → file ≡ get_or words 3 file
      → text command ≡ codes "check" → text dashes ≡ codes "--" → AsksFor (map text words) (text file)
  of_four (a ∷ b ∷ c ∷ d ∷ []) command dashes file least most second third fourth checks ends = inr (text a, cc)
  of_four [] command dashes file least most second third fourth checks ends = absurd (omega (arith, least))
  of_four (a ∷ []) command dashes file least most second third fourth checks ends = absurd (omega (arith, least))
  of_four (a ∷ b ∷ []) command dashes file least most second third fourth checks ends = absurd (omega (arith, least))
  of_four (a ∷ b ∷ c ∷ []) command dashes file least most second third fourth checks ends = absurd (omega (arith, least))
  of_four (a ∷ b ∷ c ∷ d ∷ e ∷ es) command dashes file least most second third fourth checks ends = absurd (omega (arith, most))

pub returns-then-not-starts_with : goal.returns-then-not-starts_with
returns-then-not-starts_with g c = search (rules, of_three)

pub returns-then-eq-3 : goal.returns-then-eq-3
returns-then-eq-3 g c =
    let command : g.S.AsStr.text c.command-item-then-words-lt5.result ≡ codes "check" = search rules in
    let dashes : g.S.AsStr.text c.dashes-item.result ≡ codes "--" = search rules in
    rw c.as_str-then-eq-3.ensures (of_four g.S.AsStr.text c.args.words.now _ _ _ c.in-len4.len_at_least c.in-len4.len_below
    c.command-item-then-words-lt5.is c.dashes-item.is c.file-item-then-words-lt5.is command dashes)
