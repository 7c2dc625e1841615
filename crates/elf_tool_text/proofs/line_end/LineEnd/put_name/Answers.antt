use Rattle.std.proofs.Common.{◌≡◌, ◌∙◌, ℕ, List, [], ◌∷◌, ◌++◌, Bool, true, ap, codes, if◌then◌else◌, sym}
use Rattle.hex.specs.Hex.{encode_lower}
use Rattle.elf_tool_text.specs.Line.{is_plain, name_text}
use Rattle.elf_tool_text.proofs.line_end.LineEnd.put_name.Goals as goal

plain_text : (name : List ℕ) → is_plain name ≡ true → name_text name ≡ name
unfolding name_text
plain_text [] plain = absurd (cc)
plain_text (b ∷ bs) plain = ap (λ (p : Bool). if p then b ∷ bs else codes "#" ++ encode_lower (b ∷ bs)) plain

pub returns-clause-bytes : goal.returns-clause-bytes
returns-clause-bytes c =
    let name = c.args.name.now in
    let text = plain_text name (sym c.is_plain.ensures ∙ c.if-not-is_plain.false) in
    c.put-2.ensures.bytes ∙ ap (λ (s : List ℕ). name ++ s) (c.put.ensures.bytes ∙ ap (λ (s : List ℕ). 10 ∷ s) c.requires.empty)
    ∙ ap (λ (s : List ℕ). s ++ 10 ∷ []) (sym text)
