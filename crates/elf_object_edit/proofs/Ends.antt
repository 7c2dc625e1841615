-- Where the names that stay end. Two of them that have one end had it before, so the longer one ends with the other.
use Rattle.std.proofs.Common.{◌≡◌, ℕ, ◌<◌, ◌≤◌, Bool, inl, inr, List, [], get_or, length, map, sym, ap, subst, ◌∙◌, arith}
use Rattle.std.proofs.lemmas.Bool.{cases_lt}
use Rattle.std.proofs.lemmas.List.{get_or-map, get_or_past, length-map}
use Rattle.std.proofs.lemmas.Simd.{map-map}
use Rattle.elf_object_strings.specs.StringTable.{AreTails}
use Rattle.elf_object_edit.specs.Without.{AreMovedEnds, moved_section, moved_symbol, staying, with_staying}
use Rattle.elf_object_type.specs.Object.{ObjectValue, SectionValue, SymbolValue, section_at, symbol_at, no_section, no_symbol}

-- an element of a mapped list, also past its end
mapped_get : {X Y : Type 0} (f : X → Y) (xs : List X) (d : X) (k : ℕ) → get_or (map f xs) k (f d) ≡ f (get_or xs k d)
mapped_get f xs d k = elim (cases_lt k (length xs)) [
  | inl lt ↦ get_or-map f xs k d (f d) lt
  | inr past ↦
      get_or_past (map f xs) k (f d) (omega (arith, length-map xs f)) ∙ ap f (sym (get_or_past xs k d past))
]

no_ends : (names : List (List ℕ)) → AreTails names []
no_ends names i j some same = absurd (omega arith)

-- the names at these positions, with their ends
tails_at : (names : List (List ℕ)) (ends ps : List ℕ) (N : ℕ → List ℕ) → AreTails names ends → ((k : ℕ) → N k ≡ get_or names k []) →
    AreTails (map N ps) (map (λ k. get_or ends k 0) ps)
tails_at names ends ps N tails named i j some same =
    let E : ℕ → ℕ = λ k. get_or ends k 0 in
    let there : (h : ℕ) → 0 < get_or (map E ps) h 0 → h < length ps = λ h positive. elim (cases_lt h (length ps)) [
      | inl lt ↦ lt
      | inr past ↦ absurd (let none = get_or_past (map E ps) h 0 (omega (arith, length-map ps E)) in omega arith)
    ] in
    let here = there i some in
    let other = there j (subst (λ (n : ℕ). 0 < n) same some) in
    let k = get_or ps i 0 in
    let l = get_or ps j 0 in
    let end_i : get_or (map E ps) i 0 ≡ E k = get_or-map E ps i 0 0 here in
    let end_j : get_or (map E ps) j 0 ≡ E l = get_or-map E ps j 0 0 other in
    let name_i : get_or (map N ps) i [] ≡ get_or names k [] = get_or-map N ps i 0 [] here ∙ named k in
    let name_j : get_or (map N ps) j [] ≡ get_or names l [] = get_or-map N ps j 0 [] other ∙ named l in
    rw (name_i, name_j) (tails k l (subst (λ (n : ℕ). 0 < n) end_i some) (sym end_i ∙ same ∙ end_j))

moved_tails : (names : List (List ℕ)) (ends moved : List ℕ) (marks : List Bool) (N : ℕ → List ℕ) → AreTails names ends →
    ((k : ℕ) → N k ≡ get_or names k []) → AreMovedEnds marks ends moved → AreTails (map N (staying marks)) moved
moved_tails names ends moved marks N tails named (inl none) = subst (AreTails (map N (staying marks))) (sym none) (no_ends _)
moved_tails names ends moved marks N tails named (inr are) =
    subst (AreTails (map N (staying marks))) (sym are) (tails_at names ends (staying marks) N tails named)

moved_fits : (ends moved : List ℕ) (marks : List Bool) → AreMovedEnds marks ends moved → length moved ≤ length (staying marks)
moved_fits ends moved marks (inl none) = subst (λ (es : List ℕ). length es ≤ length (staying marks)) (sym none) (omega arith)
moved_fits ends moved marks (inr are) = subst (λ (es : List ℕ). length es ≤ length (staying marks)) (sym are)
    (omega (arith, length-map (staying marks) (λ (k : ℕ). get_or ends k 0)))

-- the names of the sections and of the symbols that stay, with their ends
pub record HaveEnds (o : ObjectValue) (symbols sections : List ℕ) : Type 0 where
  pub symbols_are : AreTails (map (λ s. s.name) o.symbols) symbols
  pub sections_are : AreTails (map (λ s. s.name) o.sections) sections
  pub fits : length sections ≤ length o.sections

pub moved_name_ends : (o : ObjectValue) (S Y : List Bool) (symbol_ends section_ends symbols sections : List ℕ) →
    AreTails (map (λ s. s.name) o.symbols) symbol_ends → AreTails (map (λ s. s.name) o.sections) section_ends →
    AreMovedEnds Y symbol_ends symbols → AreMovedEnds S section_ends sections → HaveEnds (with_staying o S Y) symbols sections
moved_name_ends o S Y symbol_ends section_ends symbols sections symbol_tails section_tails symbols_are sections_are =
    let symbol_name : SymbolValue → List ℕ = λ s. s.name in
    let section_name : SectionValue → List ℕ = λ s. s.name in
    let e = with_staying o S Y in
    let symbol_names : map symbol_name e.symbols ≡ map (λ k. symbol_name (symbol_at o k)) (staying Y) =
    map-map symbol_name (λ k. moved_symbol S (symbol_at o k)) (staying Y) in
    let section_names : map section_name e.sections ≡ map (λ p. section_name (section_at o p)) (staying S) =
    map-map section_name (λ p. moved_section S Y (section_at o p)) (staying S) in
    let long : length e.sections ≡ length (staying S) = length-map (staying S) (λ p. moved_section S Y (section_at o p)) in
    let few = moved_fits section_ends sections S sections_are in
    record {
      symbols_are = subst (λ (names : List (List ℕ)). AreTails names symbols) (sym symbol_names)
          (moved_tails (map symbol_name o.symbols) symbol_ends symbols Y (λ k. symbol_name (symbol_at o k)) symbol_tails
          (λ k. sym (mapped_get symbol_name o.symbols no_symbol k)) symbols_are);
      sections_are = subst (λ (names : List (List ℕ)). AreTails names sections) (sym section_names)
          (moved_tails (map section_name o.sections) section_ends sections S (λ p. section_name (section_at o p)) section_tails
          (λ p. sym (mapped_get section_name o.sections no_section p)) sections_are);
      fits = omega arith;
    }
