-- The arguments with which the program that has `check` alone opens a file ask the program with all commands to check this file. clap's
-- definition computes on them: of FILE it looks at the first byte alone, and after `--` at none.
use Rattle.std.proofs.Common.{◌≡◌, ℕ, inl, inr, false, List, [], ◌∷◌, Option, Some, None, sym, refl, subst, nat_eq, arith}
use Rattle.std.specs.Prelude.{codes}
use Rattle.std.specs.Borrow.{Bor}
use Rattle.std.specs.List.{starts_with}
use Rattle.clap.specs.Faults.{defaults_fault, flags_fault, walk_fault}
use Rattle.clap.specs.Simple.{subcommand_of}
use Rattle.clap.specs.Walk.{Row, Text, bundle_met, walked}
use Rattle.elf_tool_check.specs.Ending.{AsksFor}
use Rattle.elf_tool_words.specs.Command.{check, elfmap, link_command, map_command, rewrite, show}
use Rattle.elf_tool_words.specs.Words.{Gives, IsAskedBy, is_set, text_of}
use Rattle.elf_tool_words.specs.declared.words.Request.TheVariants.{Check}

-- the matches beside a name
abbrev rows_of : Option (Text × List Row) → List Row
rows_of None = []
rows_of (Some p) = p.1

-- the command of this name, with these matches, is the check of this file
abbrev ChecksFile : Text → Text → List Row → Type 0
ChecksFile file name rows = (name ≡ codes "check") × (file ≡ text_of (codes "FILE") rows) × (is_set (codes "seek") rows ≡ false)

after_dashes : (name file : Text) → Gives (name ∷ codes "check" ∷ codes "--" ∷ file ∷ []) (ChecksFile file)
unfolding check show rewrite map_command link_command elfmap walked bundle_met walk_fault flags_fault defaults_fault
after_dashes name file = record {
  taken = refl;
  name = codes "check";
  rows = rows_of (subcommand_of elfmap (name ∷ codes "check" ∷ codes "--" ∷ file ∷ []));
  entered = refl;
  holds = (refl, refl, refl);
}

no_dash : (b : ℕ) (bs : Text) → starts_with nat_eq (b ∷ bs) (codes "-") ≡ false → nat_eq b 45 ≡ false
no_dash b bs plain = grind arith

alone : (name file : Text) → starts_with nat_eq file (codes "-") ≡ false → Gives (name ∷ codes "check" ∷ file ∷ []) (ChecksFile file)
unfolding check show rewrite map_command link_command elfmap walked bundle_met walk_fault flags_fault defaults_fault
alone name [] plain = record {
  taken = refl;
  name = codes "check";
  rows = rows_of (subcommand_of elfmap (name ∷ codes "check" ∷ [] ∷ []));
  entered = refl;
  holds = (refl, refl, refl);
}
alone name (b ∷ bs) plain = record {
  taken = simp (no_dash b bs plain) refl;
  name = codes "check";
  rows = rows_of (subcommand_of elfmap (name ∷ codes "check" ∷ (b ∷ bs) ∷ []));
  entered = simp (no_dash b bs plain) refl;
  holds = (refl, simp (no_dash b bs plain) refl, simp (no_dash b bs plain) refl);
}

pub same_file : (words : List Text) (file : Bor Text) → AsksFor words file.now → IsAskedBy words (Check file)
same_file words file (inl (name, are, plain)) = subst (λ (ws : List Text). IsAskedBy ws (Check file)) (sym are) (alone name file.now plain)
same_file words file (inr (name, are)) = subst (λ (ws : List Text). IsAskedBy ws (Check file)) (sym are) (after_dashes name file.now)
