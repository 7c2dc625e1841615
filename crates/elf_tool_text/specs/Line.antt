-- Lines: their words.
use Rattle.std.specs.Prelude.{ℕ, Bool, false, true, not, nat_le, ◌==◌, ◌&&◌, List, [], ◌∷◌, ◌++◌, codes, if◌then◌else◌}
use Rattle.std.specs.List.{list_all}
use Rattle.std.specs.Str.{bytes_eq}
use Rattle.std.specs.Fmt.{digits}
use Rattle.hex.specs.Hex.{encode_lower}

-- a number in hexadecimal, in lower case
abbrev pub hexadecimal : ℕ → List ℕ
hexadecimal n = codes "0x" ++ digits 16 false n

-- a byte that is printed as it is: from ! to ~
abbrev pub is_graphic : ℕ → Bool
is_graphic b = nat_le 33 b && nat_le b 126

-- a name that is printed as it is: not empty, not beginning with #, not just -, and of such bytes alone
abbrev pub is_plain : List ℕ → Bool
is_plain [] = false
is_plain (b ∷ bs) = not (b == 35) && (not (bytes_eq (b ∷ bs) (codes "-")) && list_all is_graphic (b ∷ bs))

-- a name: its bytes where they are plain, - for the empty one, and any other in hexadecimal after #
unfoldable pub name_text : List ℕ → List ℕ
name_text [] = codes "-"
name_text (b ∷ bs) = if is_plain (b ∷ bs) then b ∷ bs else codes "#" ++ encode_lower (b ∷ bs)

-- a name that ends a line, as far as it is put together with what comes before it: with a line feed, or not at all
abbrev pub name_tail : Bool → List ℕ → List ℕ
name_tail true name = name_text name ++ codes "\n"
name_tail false name = []

-- the line then: what is put together, and the name after it where it is no part of that
abbrev pub ended_by_name : List ℕ → Bool → List ℕ → List ℕ
ended_by_name put true name = put
ended_by_name put false name = put ++ (name_text name ++ codes "\n")

-- bytes, each as two digits; - where there are none
abbrev pub bytes_text : List ℕ → List ℕ
bytes_text [] = codes "-"
bytes_text (b ∷ bs) = encode_lower (b ∷ bs)
