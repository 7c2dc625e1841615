-- The widths of fields, one after the other.
use Rattle.std.proofs.Common.{◌≡◌, ℕ, ◌+◌, ◌-◌, ◌<◌, ◌≤◌, List, [], ◌∷◌, ◌++◌, ap, arith, drop, get_or, length, suc, take}
use Rattle.std.proofs.Common.{take-append-drop, zero}
use Rattle.std.proofs.lemmas.List.{take_more}
use Rattle.elf_c.specs.Fields.{IsFieldAt}
use Rattle.elf_c_parts.specs.declared.room.Slot.{Slot}
use Rattle.elf_field.specs.Record.{width_of}

width-append : (xs ys : List ℕ) → width_of (xs ++ ys) ≡ width_of xs + width_of ys
width-append [] ys = omega arith
width-append (x ∷ xs) ys = let tail = width-append xs ys in omega (arith, tail)

-- with one field more
pub width_more : (ws : List ℕ) (k : ℕ) → k < length ws → width_of (take (k + 1) ws) ≡ width_of (take k ws) + get_or ws k 0
width_more ws k below =
    let split = ap width_of (take_more ws k 0 below) in
    let joined = width-append (take k ws) (get_or ws k 0 ∷ []) in
    omega (arith, split, joined)

-- some of the fields are no longer than all
pub width_part : (ws : List ℕ) (k : ℕ) → width_of (take k ws) ≤ width_of ws
width_part ws k =
    let whole = ap width_of (take-append-drop k ws) in
    let joined = width-append (take k ws) (drop k ws) in
    omega (arith, whole, joined)

-- a field ends in its record
pub field_inside : (ws : List ℕ) (x : ℕ) (field : Slot) → IsFieldAt ws x field → x < width_of ws
field_inside ws x field is =
    let more = width_more ws is.index is.there in
    let part = width_part ws (is.index + 1) in
    omega (arith, more, part, is.start, is.width, is.before)

-- if a byte is not in the first fields, there are more
pub some_left : (ws : List ℕ) (k : ℕ) (x : ℕ) → width_of (take k ws) ≤ x → x < width_of ws → k < length ws
some_left [] k x passed inside = absurd (omega (arith, inside))
some_left (w ∷ ws) zero x passed inside = omega arith
some_left (w ∷ ws) (suc k) x passed inside =
    let tail = some_left ws k (x - w) (omega (arith, passed)) (omega (arith, passed, inside)) in
    omega (arith, tail)
