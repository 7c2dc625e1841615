-- A string ends at a zero, or with its table. So if the byte after as many bytes is not zero, the string is another one.
use Rattle.std.proofs.Common.{◌≡◌, ◌<◌, ◌+◌, ◌∙◌, ℕ, List, true, ap, arith, drop, get_or, length, sym}
use Rattle.std.specs.List.{position_or_len}
use Rattle.std.specs.Prelude.{◌==◌}
use Rattle.std.proofs.lemmas.Bool.{eqb-true}
use Rattle.std.proofs.lemmas.List.{get_or-drop, length-drop, length-take}
use Rattle.std.proofs.lemmas.List.Sums.{passes_at_first}
use Rattle.elf_field.specs.Strings.{string}
use Rattle.elf_c.proofs.names.is_string_at.Goals as goal

string_ends : (t : List ℕ) (x : ℕ) (text : List ℕ) → string t x ≡ text → x + length text < length t → get_or t (x + length text) 0 ≡ 0
string_ends t x text same within =
    let rest : List ℕ = drop x t in
    let n = position_or_len (λ (byte : ℕ). byte == 0) rest in
    let left = length-drop x t in
    let cut = length-take n rest in
    let long : length (string t x) ≡ length text = ap length same in
    let ends : n ≡ length text = omega arith in
    let test : (get_or rest n 0 == 0) ≡ true = passes_at_first (λ (byte : ℕ). byte == 0) rest 0 (omega arith) in
    sym (ap (λ (k : ℕ). get_or t (x + k) 0) ends) ∙ sym (get_or-drop x t n 0) ∙ eqb-true _ _ test

pub returns-then-table-end-ne0 : goal.returns-then-table-end-ne0
returns-then-table-end-ne0 c = (
  λ wrong. cc,
  λ same. absurd (c.if-table-end-ne0.true (string_ends c.args.table.now c.args.offset c.args.text.now same c.if-end-table.true)),
)
