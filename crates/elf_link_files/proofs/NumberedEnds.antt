-- Two ends in files of a link have the same number only if they are the same end of the same file (`same_end`). So of all names that have
-- one
-- number the longer one ends with the other, if that is so of those of each file (`tails_of_both`).
use Rattle.std.proofs.Common.{◌≡◌, ◌<◌, ◌≤◌, ◌+◌, ◌*◌, ◌-◌, ◌++◌, ◌∙◌, ◌&&◌, ℕ, List, [], Bool, true, false, arith, ap, get_or, inl, inr}
use Rattle.std.proofs.Common.{length, map, nat_lt, sym, subst, refl, if◌then◌else◌}
use Rattle.std.proofs.Math.Nat.{mul-le-mul_right}
use Rattle.std.proofs.lemmas.Bool.{cases_lt, ltb-true}
use Rattle.std.proofs.lemmas.List.{get_or_append_left, get_or-append_right}
use Rattle.std.proofs.Math.ListN.{get_or-map}
use Rattle.elf_link_files.specs.FileNames.{AreOfFiles, numbered_end}
use Rattle.elf_object_strings.specs.StringTable.{AreTails, IsSuffix, IsTailOf}

less_times : (count a b : ℕ) → a < b → a * count + count ≤ b * count
less_times count a b lt = let le = mul-le-mul_right count lt in omega arith

same_end : (count a f b g : ℕ) → f < count → g < count → a * count + f ≡ b * count + g → (a ≡ b) × (f ≡ g)
same_end count a f b g lt_f lt_g same = elim (cases_lt a b) [
  | inl lt ↦ absurd (let less = less_times count a b lt in omega arith)
  | inr le ↦ elim (cases_lt b a) [
    | inl lt ↦ absurd (let less = less_times count b a lt in omega arith)
    | inr ge ↦ (let is : a ≡ b = omega arith in let times : a * count ≡ b * count = ap (λ n. n * count) is in (is, omega arith))
  ]
]

-- a number that is not 0 is that of an end that is known
pub record IsNumbered (file count end number : ℕ) : Type 0 where
  pub some : 0 < end
  pub within : file < count
  pub is : number ≡ end * count + file

pub numbered : (file count end : ℕ) → 0 < numbered_end file count end → IsNumbered file count end (numbered_end file count end)
numbered file count end some =
    by (nat_lt 0 end) (nat_lt file count) (nat_lt (end * count + file) 4294967296) (end * count + file) refl refl some refl
  where
    by : (a b c : Bool) (n : ℕ) → nat_lt 0 end ≡ a → nat_lt file count ≡ b →
        0 < (if a && (b && c) then n else 0) → n ≡ end * count + file → IsNumbered file count end (if a && (b && c) then n else 0)
    by true true true n a_is b_is some is = record { some = ltb-true 0 end a_is; within = ltb-true file count b_is; is = is }
    by true true false n a_is b_is some is = absurd (omega arith)
    by true false c n a_is b_is some is = absurd (omega arith)
    by false b c n a_is b_is some is = absurd (omega arith)

-- an end that is past the last one has no number
number_at : (file count : ℕ) (ends : List ℕ) (i : ℕ) →
    get_or (map (numbered_end file count) ends) i 0 ≡ numbered_end file count (get_or ends i 0)
number_at file count ends i = get_or-map (numbered_end file count) ends i 0

-- what is at an index of two lists, one after the other
left_at : {X : Type 0} → (xs ys : List X) (i : ℕ) (d : X) → i < length xs → get_or (xs ++ ys) i d ≡ get_or xs i d
left_at xs ys i d lt = get_or_append_left xs ys d i lt

right_at : {X : Type 0} → (xs ys : List X) (i : ℕ) (d : X) → length xs ≤ i → get_or (xs ++ ys) i d ≡ get_or ys (i - length xs) d
right_at xs ys i d le = get_or-append_right xs ys (length xs) i d refl le

tail_moved : (names : List (List ℕ)) (i j : ℕ) (others : List (List ℕ)) (k l : ℕ) →
    get_or names i [] ≡ get_or others k [] → get_or names j [] ≡ get_or others l [] → IsTailOf others k l → IsTailOf names i j
tail_moved names i j others k l is_i is_j tail shorter =
    subst (λ n. IsSuffix n (get_or names j [])) (sym is_i)
    (subst (λ n. IsSuffix (get_or others k []) n) (sym is_j)
    (tail (subst (λ n. length n ≤ length (get_or others l [])) is_i (subst (λ n. length (get_or names i []) ≤ length n) is_j shorter))))

-- names of the first files, and those of the next file
pub tails_of_both : (names others : List (List ℕ)) (numbers ends : List ℕ) (files count : ℕ) → length numbers ≡ length names →
    AreTails names numbers → AreTails others ends → AreOfFiles files count numbers →
    AreTails (names ++ others) (numbers ++ map (numbered_end files count) ends)
tails_of_both names others numbers ends files count all tails other_tails earlier i j some same =
    elim (cases_lt i (length names)) [
      | inl lt_i ↦ elim (cases_lt j (length names)) [
        | inl lt_j ↦ (let at_i = left i lt_i in let at_j = left j lt_j in
            tail_moved (names ++ others) i j names i j (left_at names others i [] lt_i) (left_at names others j [] lt_j)
            (tails i j (subst (λ n. 0 < n) at_i some) (sym at_i ∙ same ∙ at_j)))
        | inr ge_j ↦ absurd (apart i j lt_i ge_j some same)
      ]
      | inr ge_i ↦ elim (cases_lt j (length names)) [
        | inl lt_j ↦ absurd (apart j i lt_j ge_i (subst (λ n. 0 < n) same some) (sym same))
        | inr ge_j ↦ (let at_i = right i ge_i in let at_j = right j ge_j in
            let some_i = numbered files count (get_or ends (i - length names) 0) (subst (λ n. 0 < n) at_i some) in
            let some_j = numbered files count (get_or ends (j - length names) 0) (subst (λ n. 0 < n) (same ∙ at_j) some) in
            let (is, _) =
            same_end count (get_or ends (i - length names) 0) files (get_or ends (j - length names) 0) files some_i.within some_i.within
            (sym some_i.is ∙ sym at_i ∙ same ∙ at_j ∙ some_j.is) in
            tail_moved (names ++ others) i j others (i - length names) (j - length names)
            (right_at names others i [] ge_i) (right_at names others j [] ge_j)
            (other_tails (i - length names) (j - length names) some_i.some is))
      ]
    ]
  where
    left : (k : ℕ) → k < length names → get_or (numbers ++ map (numbered_end files count) ends) k 0 ≡ get_or numbers k 0
    left k lt = left_at numbers (map (numbered_end files count) ends) k 0 (omega arith)

    right : (k : ℕ) → length names ≤ k →
        get_or (numbers ++ map (numbered_end files count) ends) k 0 ≡ numbered_end files count (get_or ends (k - length names) 0)
    right k ge =
        get_or-append_right numbers (map (numbered_end files count) ends) (length names) k 0 all ge ∙
        number_at files count ends (k - length names)

    apart : (k l : ℕ) → k < length names → length names ≤ l → 0 < get_or (numbers ++ map (numbered_end files count) ends) k 0 →
        get_or (numbers ++ map (numbered_end files count) ends) k 0 ≡ get_or (numbers ++ map (numbered_end files count) ends) l 0 → ⊥
    apart k l lt ge some same =
        let at_k = left k lt in
        let at_l = right l ge in
        let one = earlier k (subst (λ n. 0 < n) at_k some) in
        let other = numbered files count (get_or ends (l - length names) 0) (subst (λ n. 0 < n) (same ∙ at_l) some) in
        let (_, is) = same_end count one.end one.file (get_or ends (l - length names) 0) files one.within other.within
        (sym one.is ∙ sym at_k ∙ same ∙ at_l ∙ other.is) in
        let before = one.earlier in
        omega arith

-- each number of both is that of an end in one of the first files, the next one among them
pub files_of_both : (numbers ends : List ℕ) (files next count : ℕ) → files ≤ next → (files < count → files < next) →
    AreOfFiles files count numbers → AreOfFiles next count (numbers ++ map (numbered_end files count) ends)
files_of_both numbers ends files next count le less earlier n some = elim (cases_lt n (length numbers)) [
  | inl lt ↦ (let at = left_at numbers (map (numbered_end files count) ends) n 0 lt in
      let one = earlier n (subst (λ m. 0 < m) at some) in
      let before = one.earlier in
      record { file = one.file; end = one.end; earlier = omega arith; within = one.within; is = at ∙ one.is })
  | inr ge ↦ (let at = right_at numbers (map (numbered_end files count) ends) n 0 ge ∙ number_at files count ends (n - length numbers) in
      let one = numbered files count (get_or ends (n - length numbers) 0) (subst (λ m. 0 < m) at some) in
      record { file = files; end = get_or ends (n - length numbers) 0; earlier = less one.within; within = one.within; is = at ∙ one.is })
]
