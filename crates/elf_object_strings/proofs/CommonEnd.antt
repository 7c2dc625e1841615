-- The longest name that two names end with, found byte by byte from their ends: bytes that both end with are one more where the bytes
-- before them are equal (`end_more`), and all of them where these differ (`end_there`). An end of both is left out first (`end_before`).
use Rattle.std.proofs.Common.{◌≡◌, ◌≢◌, ◌<◌, ◌≤◌, ◌+◌, ◌-◌, ℕ, List, [], ◌∷◌, ◌++◌, get_or, length, drop, take, min, refl, sym, ap, ap₂}
use Rattle.std.proofs.Common.{subst, ◌∙◌, inl, inr, arith, append_assoc, length-append, drop_of_length-le}
use Rattle.std.proofs.lemmas.Bool.{cases_lt}
use Rattle.std.proofs.lemmas.List.{append_cancel_right, drop_more, get_or-append_right, length-drop, take-append-drop}
use Rattle.elf_object_strings.proofs.Ends.{suffix_fits, suffix_trans}
use Rattle.elf_object_strings.proofs.LeaderOrder.{suffix_of_both}
use Rattle.elf_object_strings.specs.Leaders.{IsCommonEnd}
use Rattle.elf_object_strings.specs.Sorting.{AreWithoutEqualEnds}
use Rattle.elf_object_strings.specs.StringTable.{IsSuffix}

-- the last n bytes of both are equal
pub record HaveEqualEnds (a b : List ℕ) (n : ℕ) : Type 0 where
  pub fits : n ≤ length a
  pub others : n ≤ length b
  pub equal : drop (length a - n) a ≡ drop (length b - n) b

pub end_none : (a b : List ℕ) → HaveEqualEnds a b 0
end_none a b = record {
  fits = omega arith;
  others = omega arith;
  equal = all a ∙ sym (all b);
} where
  all : (c : List ℕ) → drop (length c - 0) c ≡ []
  all c = drop_of_length-le c (omega arith)

pub end_more : (a b : List ℕ) (n : ℕ) → HaveEqualEnds a b n → n < length a → n < length b →
    get_or a (length a - 1 - n) 0 ≡ get_or b (length b - 1 - n) 0 → HaveEqualEnds a b (n + 1)
end_more a b n ends fits others same = record {
  fits = omega arith;
  others = omega arith;
  equal = one a fits ∙ ap₂ (λ (x : ℕ) (s : List ℕ). x ∷ s) same ends.equal ∙ sym (one b others);
} where
  one : (c : List ℕ) → n < length c → drop (length c - (n + 1)) c ≡ get_or c (length c - 1 - n) 0 ∷ drop (length c - n) c
  one c lt =
      let at : length c - (n + 1) ≡ length c - 1 - n = omega arith in
      let next : length c - 1 - n + 1 ≡ length c - n = omega arith in
      ap (λ (k : ℕ). drop k c) at ∙ drop_more c (length c - 1 - n) 0 (omega arith) ∙
      ap (λ (k : ℕ). get_or c (length c - 1 - n) 0 ∷ drop k c) next

end_suffix : (c : List ℕ) (n : ℕ) → IsSuffix (drop (length c - n) c) c
end_suffix c n = (take (length c - n) c, sym (take-append-drop (length c - n) c))

-- no longer name is an end of both
common : (a b : List ℕ) (n : ℕ) → HaveEqualEnds a b n → ((tail : List ℕ) → IsSuffix tail a → IsSuffix tail b → length tail ≤ n) →
    IsCommonEnd a b n
common a b n ends most =
    let fits = ends.fits in
    let long = length-drop (length a - n) a in
    record {
      end = drop (length a - n) a;
      own = end_suffix a n;
      others = subst (λ (s : List ℕ). IsSuffix s b) (sym ends.equal) (end_suffix b n);
      long = omega arith;
      most = most;
    }

-- the bytes before the ends differ
pub end_there : (a b : List ℕ) (n : ℕ) → HaveEqualEnds a b n → n < length a → n < length b →
    get_or a (length a - 1 - n) 0 ≢ get_or b (length b - 1 - n) 0 → IsCommonEnd a b n
end_there a b n ends fits others differ = common a b n ends most where
  byte : (c tail : List ℕ) → IsSuffix tail c → n < length tail → get_or c (length c - 1 - n) 0 ≡ get_or tail (length tail - 1 - n) 0
  byte c tail (front, is) lt =
      let long : length c ≡ length front + length tail = ap length is ∙ length-append front tail in
      let at : length c - 1 - n - length front ≡ length tail - 1 - n = omega arith in
      ap (λ (s : List ℕ). get_or s (length c - 1 - n) 0) is ∙
      get_or-append_right front tail (length front) (length c - 1 - n) 0 refl (omega arith)
      ∙ ap (λ (k : ℕ). get_or tail k 0) at

  most : (tail : List ℕ) → IsSuffix tail a → IsSuffix tail b → length tail ≤ n
  most tail own other = elim (cases_lt n (length tail)) [
    | inl more ↦ absurd (differ (byte a tail own more ∙ sym (byte b tail other more)))
    | inr fewer ↦ fewer
  ]

-- one of the names is an end of the other
pub end_all : (a b : List ℕ) (n : ℕ) → HaveEqualEnds a b n → min (length a) (length b) ≤ n → IsCommonEnd a b n
end_all a b n ends all = common a b n ends (λ tail own other.
    (let fits = suffix_fits tail a own in
    let others = suffix_fits tail b other in
    omega arith))

-- without an end of both
pub end_before : (a b left right : List ℕ) (n : ℕ) → AreWithoutEqualEnds a b left right → IsCommonEnd left right n →
    IsCommonEnd a b (length a - length left + n)
end_before a b left right n without both =
    let ending = without.ending in
    let long : length a ≡ length left + length ending = ap length without.name_is ∙ length-append left ending in
    let sum : length (both.end ++ ending) ≡ length both.end + length ending = length-append both.end ending in
    let most_long = both.long in
    record {
      end = both.end ++ ending;
      own = joined a left without.name_is both.own;
      others = joined b right without.other_is both.others;
      long = omega arith;
      most = λ tail own other. elim (cases_lt (length ending) (length tail)) [
        | inl more ↦ (let (front, is) = suffix_of_both ending tail a (left, without.name_is) own (omega arith) in
            let front_long : length tail ≡ length front + length ending = ap length is ∙ length-append front ending in
            let within =
            both.most front (cut a left without.name_is tail front is own) (cut b right without.other_is tail front is other) in
            omega arith)
        | inr fewer ↦ omega arith
      ];
    }
  where
    joined : (c rest : List ℕ) → c ≡ rest ++ without.ending → IsSuffix both.end rest → IsSuffix (both.end ++ without.ending) c
    joined c rest is (front, has) =
        (front, is ∙ ap (λ (s : List ℕ). s ++ without.ending) has ∙ append_assoc front both.end without.ending)

    cut : (c rest : List ℕ) → c ≡ rest ++ without.ending → (tail front : List ℕ) → tail ≡ front ++ without.ending → IsSuffix tail c →
        IsSuffix front rest
    cut c rest is tail front has (more, all) = (
      more,
      append_cancel_right rest (more ++ front) without.ending
          (sym is ∙ all ∙ ap (λ (s : List ℕ). more ++ s) has ∙ sym (append_assoc more front without.ending)),
    )

-- a name that the first one ends with, if it is no longer, is an end of the other
pub ends_other : (a b : List ℕ) (n : ℕ) → IsCommonEnd a b n → (tail : List ℕ) → IsSuffix tail a → length tail ≤ n → IsSuffix tail b
ends_other a b n both tail own le =
    let long = both.long in
    suffix_trans tail both.end b (suffix_of_both tail both.end a own both.own (omega arith)) both.others

pub without_none : (a b : List ℕ) → AreWithoutEqualEnds a b a b
without_none a b = record { ending = []; name_is = nothing a; other_is = nothing b } where
  nothing : (c : List ℕ) → c ≡ c ++ []
  nothing [] = refl
  nothing (x ∷ c) = ap (λ (s : List ℕ). x ∷ s) (nothing c)

pub without_more : (a b left right rest other_rest : List ℕ) → AreWithoutEqualEnds a b left right →
    AreWithoutEqualEnds left right rest other_rest → AreWithoutEqualEnds a b rest other_rest
without_more a b left right rest other_rest first next = record {
  ending = next.ending ++ first.ending;
  name_is = first.name_is ∙ ap (λ (s : List ℕ). s ++ first.ending) next.name_is ∙ append_assoc rest next.ending first.ending;
  other_is = first.other_is ∙ ap (λ (s : List ℕ). s ++ first.ending) next.other_is ∙ append_assoc other_rest next.ending first.ending;
}
