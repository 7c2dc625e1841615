-- Files that are the same to a link, though their bytes differ: those that denote the same objects. So are a file and what `rewrite` writes
-- for it.
use Rattle.std.specs.Prelude.{◌≡◌, ◌↔◌, ◌⊎◌, ℕ, List, [], ◌∷◌}
use Rattle.elf_object_type.specs.Object.{ObjectValue}
use Rattle.elf_tool_check.specs.declared.calls.Verdict.{Verdict}
use Rattle.elf_tool_check.specs.declared.calls.Verdict.TheVariants.{Done}
use Rattle.elf_tool_link.specs.ObjectFiles.{IsObjectFile}
use Rattle.elf_tool_rewrite.specs.Rewrite.{RewriteSays}

-- two lists of files are equally long, and this holds of the two files at each position
abbrev pub AtEachFile : (List ℕ → List ℕ → Type 0) → List (List ℕ) → List (List ℕ) → Type 0
AtEachFile Are [] [] = Unit {0}
AtEachFile Are (b ∷ files) (c ∷ others) = Are b c × AtEachFile Are files others
AtEachFile Are files others = ⊥

-- a file is alike another one: it has the same bytes, or both denote one object
abbrev pub IsAlike : List ℕ → List ℕ → Type 0
IsAlike b c = (c ≡ b) ⊎ ((o : ObjectValue) × IsObjectFile b o × IsObjectFile c o)

abbrev pub AreAlikeFiles : List (List ℕ) → List (List ℕ) → Type 0
AreAlikeFiles = AtEachFile IsAlike

-- each of the other files is the file at its position, or what `rewrite` writes for it
abbrev pub AreRewritten : List (List ℕ) → List (List ℕ) → Type 0
AreRewritten = AtEachFile (λ b c. (c ≡ b) ⊎ RewriteSays b Done c)

-- what two reports say is the same: each verdict with its text is said by both or by neither, and whatever they say is equal
pub record SayTheSame (Says Also : Verdict → List ℕ → Type 0) : Type 0 where
  pub both : (verdict : Verdict) (text : List ℕ) → Says verdict text ↔ Also verdict text
  pub equal : (v w : Verdict) (s t : List ℕ) → Says v s → Also w t → (v ≡ w) × (s ≡ t)
