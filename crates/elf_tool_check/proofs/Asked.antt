-- The names that an opener was asked for: of several calls, those of the first and then those of the others.
use Rattle.std.proofs.Common.{◌≡◌, ◌∙◌, ◌<◌, ◌++◌, ℕ, List, None, Option, Some, [], ◌∷◌, ap, append-nil, append_assoc, get_or, length}
use Rattle.std.proofs.Common.{subst, suc, sym, take}
use Rattle.std.proofs.Math.Seq.{take-suc}
use Rattle.elf_tool_check.specs.Ending.{AsksInOrder}

pub asks_none : (asked : Option (List (List ℕ))) → AsksInOrder asked asked []
asks_none None = tt
asks_none (Some names) = ap (λ (all : List (List ℕ)). Some all) (sym (append-nil names))

pub asks_more : (a b c : Option (List (List ℕ))) (xs ys : List (List ℕ)) → AsksInOrder a b xs → AsksInOrder b c ys →
    AsksInOrder a c (xs ++ ys)
asks_more None b c xs ys first next = tt
asks_more (Some before) b c xs ys first next =
    subst (λ (o : Option (List (List ℕ))). AsksInOrder o c ys) first next ∙
    ap (λ (all : List (List ℕ)). Some all) (append_assoc before xs ys)

-- one name more of a list of names
pub asks_next : (a b c : Option (List (List ℕ))) (names : List (List ℕ)) (k : ℕ) (name : List ℕ) → k < length names →
    get_or names k [] ≡ name → AsksInOrder a b (take k names) → AsksInOrder b c (name ∷ []) → AsksInOrder a c (take (suc k) names)
asks_next a b c names k name below is first next =
    subst (AsksInOrder a c) (sym (take-suc names k [] below ∙ ap (λ (n : List ℕ). take k names ++ (n ∷ [])) is))
    (asks_more a b c (take k names) (name ∷ []) first next)
