-- Files that are read one after the other. The readers so far gave their whole files, and those after them are as they were; a reader that
-- stops gives some bytes, and the fault has their count.
use Rattle.std.proofs.Common.{◌≡◌, ℕ, ◌≤◌, List, Option, inl, inr, length, sym, ◌<◌, [], ◌∷◌, ◌++◌, ap, arith, get_or, map, set, subst}
use Rattle.std.proofs.lemmas.List.{get_or-map, length-map, map-set}
use Rattle.elf_tool_check.specs.Engine.{IsReadFaultAfter}
use Rattle.elf_tool_link.specs.Inputs.{AreRead, AreReadSoFar, GivesBytes, GivesFile, IsReadingFault, StopsAfter}
use Rattle.elf_tool_check.specs.declared.calls.ToolFault.TheVariants.{Read, Write, OutOfMemory}
use Rattle.elf_tool_check.specs.declared.calls.ToolFault.{ToolFault}

-- lists that begin alike
∷-parts : {X : Type 0} {x y : X} {xs ys : List X} → x ∷ xs ≡ y ∷ ys → (x ≡ y) × (xs ≡ ys)
∷-parts e = (cc, cc)

-- the next reader is as it was
pub not_begun : (inputs rests : List (Option (List ℕ))) (files : List (List ℕ)) (d : Option (List ℕ)) → AreReadSoFar inputs rests files
    → get_or rests (length files) d ≡ get_or inputs (length files) d
not_begun inputs rests [] d so_far = ap (λ (xs : List (Option (List ℕ))). get_or xs 0 d) so_far
not_begun [] [] (file ∷ files) d so_far = absurd so_far
not_begun [] (rest ∷ rests) (file ∷ files) d so_far = absurd so_far
not_begun (input ∷ inputs) [] (file ∷ files) d so_far = absurd so_far
not_begun (input ∷ inputs) (rest ∷ rests) (file ∷ files) d so_far = not_begun inputs rests files d so_far.1

-- it gives its file
pub one_more : (inputs rests : List (Option (List ℕ))) (files : List (List ℕ)) (d r : Option (List ℕ)) (file : List ℕ) →
    length files < length rests
    → AreReadSoFar inputs rests files → GivesFile (get_or rests (length files) d) r file
    → AreReadSoFar inputs (set rests (length files) r) (files ++ file ∷ [])
one_more inputs [] files d r file within so_far gives = absurd (omega arith)
one_more [] (rest ∷ rests) [] d r file within so_far gives = cc
one_more (input ∷ inputs) (rest ∷ rests) [] d r file within so_far gives =
    let same : (rest ≡ input) × (rests ≡ inputs) = ∷-parts so_far in
    (rw (sym same.0) gives, same.1)
one_more [] (rest ∷ rests) (f ∷ files) d r file within so_far gives = absurd so_far
one_more (input ∷ inputs) (rest ∷ rests) (f ∷ files) d r file within so_far gives =
    (so_far.0, one_more inputs rests files d r file (omega arith) so_far.1 gives)

-- or stops with just some bytes
pub stops : (inputs rests : List (Option (List ℕ))) (files : List (List ℕ)) (d r : Option (List ℕ)) (bytes : List ℕ) →
    length files < length rests
    → AreReadSoFar inputs rests files → GivesBytes (get_or rests (length files) d) r bytes →
    StopsAfter inputs (set rests (length files) r) bytes
stops inputs [] files d r bytes within so_far gives = absurd (omega arith)
stops [] (rest ∷ rests) [] d r bytes within so_far gives = cc
stops (input ∷ inputs) (rest ∷ rests) [] d r bytes within so_far gives = let same : (rest ≡ input) × (rests ≡ inputs) = ∷-parts so_far in
    inl (rw (sym same.0) gives, same.1)
stops [] (rest ∷ rests) (f ∷ files) d r bytes within so_far gives = absurd so_far
stops (input ∷ inputs) (rest ∷ rests) (f ∷ files) d r bytes within so_far gives =
    inr (f, so_far.0, stops inputs rests files d r bytes (omega arith) so_far.1 gives)

-- all of them gave their files
pub all_read : (inputs rests : List (Option (List ℕ))) (files : List (List ℕ)) → length rests ≤ length files →
    AreReadSoFar inputs rests files
    → AreRead inputs rests files
all_read [] [] [] past so_far = tt
all_read [] (rest ∷ rests) [] past so_far = absurd (omega arith)
all_read (input ∷ inputs) [] [] past so_far = cc
all_read (input ∷ inputs) (rest ∷ rests) [] past so_far = absurd (omega arith)
all_read [] [] (file ∷ files) past so_far = absurd so_far
all_read [] (rest ∷ rests) (file ∷ files) past so_far = absurd so_far
all_read (input ∷ inputs) [] (file ∷ files) past so_far = absurd so_far
all_read (input ∷ inputs) (rest ∷ rests) (file ∷ files) past so_far = (so_far.0, all_read inputs rests files (omega arith) so_far.1)

-- the same of readers that give what is left of them
module _ {X : Type 0} (given : X → Option (List ℕ)) (old now : List X) (files : List (List ℕ)) (d x : X)
    (so_far : AreReadSoFar (map given old) (map given now) files) where
  pub next_read : (i : ℕ) (file : List ℕ) → length files ≡ i → i < length now → GivesFile (given (get_or now i d)) (given x) file
      → AreReadSoFar (map given old) (map given (set now i x)) (files ++ file ∷ [])
  next_read i file same = subst (λ (n : ℕ). n < length now → GivesFile (given (get_or now n d)) (given x) file
      → AreReadSoFar (map given old) (map given (set now n x)) (files ++ file ∷ [])) same here
    where
      here : length files < length now → GivesFile (given (get_or now (length files) d)) (given x) file
          → AreReadSoFar (map given old) (map given (set now (length files) x)) (files ++ file ∷ [])
      here within gives =
          let long = length-map now given in
          let at = get_or-map given now (length files) d (given d) within in
          subst (λ (rests : List (Option (List ℕ))). AreReadSoFar (map given old) rests (files ++ file ∷ []))
          (sym (map-set given now (length files) x))
          (one_more (map given old) (map given now) files (given d) (given x) file (omega arith) so_far
          (subst (λ (r : Option (List ℕ)). GivesFile r (given x) file) (sym at) gives))

  pub next_stops : (i : ℕ) (bytes : List ℕ) → length files ≡ i → i < length now → GivesBytes (given (get_or now i d)) (given x) bytes
      → StopsAfter (map given old) (map given (set now i x)) bytes
  next_stops i bytes same = subst (λ (n : ℕ). n < length now → GivesBytes (given (get_or now n d)) (given x) bytes
      → StopsAfter (map given old) (map given (set now n x)) bytes) same here
    where
      here : length files < length now → GivesBytes (given (get_or now (length files) d)) (given x) bytes
          → StopsAfter (map given old) (map given (set now (length files) x)) bytes
      here within gives =
          let long = length-map now given in
          let at = get_or-map given now (length files) d (given d) within in
          subst (λ (rests : List (Option (List ℕ))). StopsAfter (map given old) rests bytes) (sym (map-set given now (length files) x))
          (stops (map given old) (map given now) files (given d) (given x) bytes (omega arith) so_far
          (subst (λ (r : Option (List ℕ)). GivesBytes r (given x) bytes) (sym at) gives))

-- the fault of a reader that stops is reported with what it gave
pub reading_stopped : (inputs rests : List (Option (List ℕ))) (bytes : List ℕ) (fault : ToolFault) → StopsAfter inputs rests bytes →
    IsReadFaultAfter fault (length bytes)
    → IsReadingFault inputs rests fault
reading_stopped inputs rests bytes (Read at) stop is = (bytes, stop, is)
reading_stopped inputs rests bytes (Write written) stop is = absurd is
reading_stopped inputs rests bytes OutOfMemory stop is = (bytes, stop)

-- each reader gave one file
pub as_many_read : (inputs rests : List (Option (List ℕ))) (files : List (List ℕ)) → AreRead inputs rests files →
    length files ≡ length inputs
as_many_read [] [] [] are = omega arith
as_many_read [] [] (file ∷ files) are = absurd are
as_many_read [] (rest ∷ rests) files are = absurd are
as_many_read (input ∷ inputs) [] files are = absurd are
as_many_read (input ∷ inputs) (rest ∷ rests) [] are = absurd are
as_many_read (input ∷ inputs) (rest ∷ rests) (file ∷ files) are = let more = as_many_read inputs rests files are.1 in omega arith
