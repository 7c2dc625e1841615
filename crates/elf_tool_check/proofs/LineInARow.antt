-- A line as one text.
use Rattle.std.proofs.Common.{◌≡◌, ◌∙◌, ℕ, List, [], ◌∷◌, ◌++◌, codes, ap, refl, sym, append_assoc}
use Rattle.std.specs.List.{join_with_byte}
use Rattle.std.proofs.lemmas.List.{append-nil}
use Rattle.elf_tool_check.specs.FileLines.{blank, line, further_words}

-- the words of a line are the first one and those after it
pub joined_words : (w : List ℕ) (ws : List (List ℕ)) → join_with_byte blank (w ∷ ws) ≡ w ++ further_words ws
joined_words w [] = sym (append-nil w)
joined_words w (v ∷ vs) = ap (λ (s : List ℕ). w ++ blank ∷ s) (joined_words v vs)

-- words after others, and the line feed
abbrev pub to_the_end : List (List ℕ) → List ℕ
to_the_end [] = codes "\n"
to_the_end (w ∷ ws) = blank ∷ (w ++ to_the_end ws)

further_to_the_end : (ws : List (List ℕ)) → to_the_end ws ≡ further_words ws ++ codes "\n"
further_to_the_end [] = refl
further_to_the_end (w ∷ ws) =
    ap (λ (s : List ℕ). blank ∷ (w ++ s)) (further_to_the_end ws) ∙ sym (append_assoc (blank ∷ w) (further_words ws) (codes "\n"))

pub line_in_a_row : (w : List ℕ) (ws : List (List ℕ)) → w ++ to_the_end ws ≡ line (w ∷ ws)
unfolding line
line_in_a_row w ws =
    ap (λ (s : List ℕ). w ++ s) (further_to_the_end ws)
    ∙ sym (append_assoc w (further_words ws) (codes "\n"))
    ∙ ap (λ (s : List ℕ). s ++ codes "\n") (sym (joined_words w ws))
