-- A line whose words before the last one are passed on in one piece, with a blank after them.
use Rattle.std.proofs.Common.{◌≡◌, ◌∙◌, ℕ, Bool, false, true, List, [], ◌∷◌, ◌++◌, Option, Result, ap, append_assoc, codes, refl, sym}
use Rattle.elf_image_stream.specs.declared.fault.WriteFault.{WriteFault}
use Rattle.elf_tool_check.proofs.LineInARow.{to_the_end}
use Rattle.elf_tool_check.specs.FileLines.{blank, further_words, line}
use Rattle.elf_tool_text.specs.Buffered.{IsPassed}
use Rattle.elf_tool_text.specs.declared.output.Output.{Output}
use Rattle.elf_tool_text.proofs.Public.{line_at_once, line_of_last}
use Rattle.elf_tool_text.specs.Line.{name_tail, name_text, ended_by_name}

-- words after others, and a blank
abbrev pub to_a_blank : List (List ℕ) → List ℕ
to_a_blank [] = blank ∷ []
to_a_blank (w ∷ ws) = blank ∷ (w ++ to_a_blank ws)

further_to_a_blank : (ws : List (List ℕ)) → to_a_blank ws ≡ further_words ws ++ blank ∷ []
further_to_a_blank [] = refl
further_to_a_blank (w ∷ ws) =
    ap (λ (s : List ℕ). blank ∷ (w ++ s)) (further_to_a_blank ws) ∙ sym (append_assoc (blank ∷ w) (further_words ws) (blank ∷ []))

pub line_after : {T : Type 0} (a c : Option (List ℕ)) (o q : Output) (front w : List ℕ) (ws : List (List ℕ)) (v : List ℕ)
    (result : Result T WriteFault)
    → front ≡ w ++ to_a_blank ws → IsPassed a c o q (front ++ (v ++ codes "\n")) result →
    IsPassed a c o q (line (w ∷ (ws ++ v ∷ []))) result
line_after a c o q front w ws v result is passed =
    line_of_last a c o q front w ws v result (is ∙ ap (λ (s : List ℕ). w ++ s) (further_to_a_blank ws)) passed

-- ---- a line that ends with a name, which may be put together with what comes before it

-- words after others, a blank, and what comes then
abbrev pub to_a_name : List (List ℕ) → List ℕ → List ℕ
to_a_name [] tail = blank ∷ tail
to_a_name (w ∷ ws) tail = blank ∷ (w ++ to_a_name ws tail)

whole : (ws : List (List ℕ)) (v : List ℕ) → to_a_name ws (v ++ codes "\n") ≡ to_the_end (ws ++ v ∷ [])
whole [] v = refl
whole (w ∷ ws) v = ap (λ (s : List ℕ). blank ∷ (w ++ s)) (whole ws v)

without : (ws : List (List ℕ)) → to_a_name ws [] ≡ to_a_blank ws
without [] = refl
without (w ∷ ws) = ap (λ (s : List ℕ). blank ∷ (w ++ s)) (without ws)

pub line_named : {T : Type 0} (a c : Option (List ℕ)) (o q : Output) (put w : List ℕ) (ws : List (List ℕ)) (is_whole : Bool) (name : List ℕ)
    (result : Result T WriteFault)
    → put ≡ w ++ to_a_name ws (name_tail is_whole name) → IsPassed a c o q (ended_by_name put is_whole name) result
    → IsPassed a c o q (line (w ∷ (ws ++ name_text name ∷ []))) result
line_named a c o q put w ws true name result is passed =
    line_at_once a c o q put w (ws ++ name_text name ∷ []) result (is ∙ ap (λ (s : List ℕ). w ++ s) (whole ws (name_text name))) passed
line_named a c o q put w ws false name result is passed =
    line_after a c o q put w ws (name_text name) result (is ∙ ap (λ (s : List ℕ). w ++ s) (without ws)) passed
