-- How long a text is at most: word by word, and line by line. A number below 2^64 has at most 20 digits, and at most 16 in hexadecimal.
use Rattle.std.proofs.Common.{◌≡◌, ◌∙◌, ℕ, ◌+◌, ◌*◌, ◌^◌, ◌<◌, ◌≤◌, Bool, true, false, List, [], ◌∷◌, ◌++◌, ap, arith, codes, get_or}
use Rattle.std.proofs.Common.{if◌then◌else◌, length, length-append, refl, subst, sym, zero-add}
use Rattle.std.specs.List.{flat_map, range_with_len}
use Rattle.std.specs.Fmt.{decimal, digits}
use Rattle.std.proofs.lemmas.Fmt.{length-decimal-le}
use Rattle.std.proofs.lemmas.List.Concat.{length-flat_map}
use Rattle.std.proofs.lemmas.List.Elements.{All-from_get_or}
use Rattle.std.proofs.lemmas.List.FromFn.{get_or-range_with_len, length-range_with_len}
use Rattle.std.proofs.lemmas.List.Sums.{sum_by-le}
use Rattle.hex.specs.Hex.{encode_lower, encode_with}
use Rattle.elf_tool_check.specs.FileLines.{line}
use Rattle.elf_tool_check.proofs.LineInARow.{line_in_a_row, to_the_end}
use Rattle.elf_tool_text.specs.Line.{bytes_text, hexadecimal, is_plain, name_text}
use Rattle.elf_tool_text.proofs.TextLines.{few_digits}

-- ---- words

pub decimal_short : (n : ℕ) → n < 2 ^ 64 → length (decimal n) ≤ 20
decimal_short n fits = length-decimal-le 20 n (omega arith) (omega arith) fits

pub hexadecimal_short : (n : ℕ) → n < 2 ^ 64 → length (hexadecimal n) ≤ 18
hexadecimal_short n fits =
    let few = few_digits 16 (omega arith) 16 n (omega arith) (omega arith) in
    let both = length-append (codes "0x") (digits 16 false n) in
    omega arith

pub length-encode_lower : (bs : List ℕ) → length (encode_lower bs) ≡ 2 * length bs
unfolding encode_with
length-encode_lower [] = refl
length-encode_lower (b ∷ bs) = let rest = length-encode_lower bs in omega arith

pub name_short : (name : List ℕ) → length (name_text name) ≤ 2 * length name + 1
unfolding name_text
name_short [] = omega arith
name_short (b ∷ bs) = by_form (is_plain (b ∷ bs))
  where
    by_form : (plain : Bool) → length (if plain then b ∷ bs else codes "#" ++ encode_lower (b ∷ bs)) ≤ 2 * length (b ∷ bs) + 1
    by_form true = omega arith
    by_form false =
        let digits = length-encode_lower (b ∷ bs) in
        let both = length-append (codes "#") (encode_lower (b ∷ bs)) in
        omega arith

pub bytes_short : (bytes : List ℕ) → length (bytes_text bytes) ≤ 2 * length bytes + 1
bytes_short [] = omega arith
bytes_short (b ∷ bs) = let digits = length-encode_lower (b ∷ bs) in omega arith

-- ---- lines

-- the words of a line with a blank or a line feed after each
abbrev pub words_length : List (List ℕ) → ℕ
words_length [] = 0
words_length (w ∷ ws) = length w + 1 + words_length ws

end_length : (ws : List (List ℕ)) → length (to_the_end ws) ≡ words_length ws + 1
end_length [] = cc
end_length (w ∷ ws) = let rest = end_length ws in let both = length-append w (to_the_end ws) in omega arith

pub line_length : (w : List ℕ) (ws : List (List ℕ)) → length (line (w ∷ ws)) ≡ words_length (w ∷ ws)
line_length w ws =
    let whole : length (line (w ∷ ws)) ≡ length (w ++ to_the_end ws) = ap (λ (s : List ℕ). length s) (sym (line_in_a_row w ws)) in
    let both = length-append w (to_the_end ws) in
    let rest = end_length ws in
    omega arith

-- ---- lines one after the other, each with no more than so many bytes

pub lines_short : {X : Type 0} (f : X → List ℕ) (most : ℕ) (d : X) (xs : List X) →
    ((k : ℕ) → k < length xs → length (f (get_or xs k d)) ≤ most)
    → length (flat_map f xs) ≤ length xs * most
lines_short f most d xs each =
    subst (λ (n : ℕ). n ≤ length xs * most) (sym (length-flat_map f xs))
    (sum_by-le (λ x. length (f x)) most xs (All-from_get_or (λ x. length (f x) ≤ most) xs d each))

pub indexed_short : (f : ℕ → List ℕ) (most n : ℕ) → ((k : ℕ) → k < n → length (f k) ≤ most) →
    length (flat_map f (range_with_len 0 n)) ≤ n * most
indexed_short f most n each =
    let long = length-range_with_len 0 n in
    subst (λ (m : ℕ). length (flat_map f (range_with_len 0 n)) ≤ m * most) long
    (lines_short f most 0 (range_with_len 0 n) (λ k below. (
    let within : k < n = omega arith in
    subst (λ (i : ℕ). length (f i) ≤ most) (sym (get_or-range_with_len 0 n k 0 within ∙ zero-add k)) (each k within))))
