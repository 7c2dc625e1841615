-- Strings in a table of strings. (gABI chapter 4, String Table.)
use Rattle.std.specs.Prelude.{◌==◌, ℕ, List, drop}
use Rattle.std.specs.List.{before_first}

-- the bytes of a table from offset x to the first zero, or to its end where there is none
abbrev pub string : List ℕ → ℕ → List ℕ
string table x = before_first (λ byte. byte == 0) (drop x table)
