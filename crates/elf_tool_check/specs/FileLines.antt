-- A line, and the lines on a file that all engines share.
use Rattle.std.specs.Prelude.{ℕ, List, [], ◌∷◌, ◌++◌, codes}
use Rattle.std.specs.List.{flat_map, join_with_byte}
use Rattle.std.specs.Fmt.{decimal}

-- the byte between two words
abbrev pub blank : ℕ
blank = 32

-- a line: its words with single blanks between, and a line feed
unfoldable pub line : List (List ℕ) → List ℕ
line words = join_with_byte blank words ++ codes "\n"

-- words after others: a blank and the word, one after the other
abbrev pub further_words : List (List ℕ) → List ℕ
further_words = flat_map (λ word. blank ∷ word)

-- `ok L N M`: the length in bytes, and the counts of sections and segments
unfoldable pub ok_line : ℕ → ℕ → ℕ → List ℕ
ok_line bytes sections segments = line (codes "ok" ∷ decimal bytes ∷ decimal sections ∷ decimal segments ∷ [])

-- `refused R A`: the rule's number, and the offset in the file
unfoldable pub refused_line : ℕ → ℕ → List ℕ
refused_line rule at = line (codes "refused" ∷ decimal rule ∷ decimal at ∷ [])
