use Rattle.std.proofs.Common.{◌≡◌, ◌∙◌, ◌==◌, ℕ, List, [], ◌∷◌, ◌++◌, Bool, false, ap, codes, if◌then◌else◌, length, sym}
use Rattle.hex.specs.Hex.{encode_lower}
use Rattle.elf_tool_text.specs.Line.{is_plain, name_text}
use Rattle.elf_tool_text.proofs.PassedText.{passed_after}
use Rattle.elf_tool_text.proofs.passed.pass_name.Goals as goal

-- a name that is neither empty nor plain
digits_of : (name : List ℕ) → (length name == 0 ≡ false) → is_plain name ≡ false → name_text name ≡ codes "#" ++ encode_lower name
unfolding name_text
digits_of [] some other = absurd (cc)
digits_of (b ∷ bs) some other = ap (λ (plain : Bool). if plain then b ∷ bs else codes "#" ++ encode_lower (b ∷ bs)) other

pub returns : goal.returns
returns g c =
    let is = digits_of c.args.name.now (sym c.is_empty.ensures ∙ c.if-is_empty.false) (sym c.is_plain.ensures ∙ c.if-is_plain.false) in
    rw is (passed_after _ _ _ c.args.output.now c.pass-2.new.self c.pass_hexadecimal.new.output (codes "#")
    (encode_lower c.args.name.now) c.pass_hexadecimal.result
    c.in_ok-pass.ensures c.pass_hexadecimal.ensures)
