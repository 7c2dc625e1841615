-- An object of which no section is left out is itself. Each mark says that what it is for stays, so a new position is the old one, by
-- induction. Each reference of an object is to a section or a symbol that is there, so it keeps its position.
use Rattle.std.proofs.Common.{◌≡◌, ℕ, ◌<◌, ◌+◌, ◌++◌, Bool, true, false, refl, zero, suc, List, [], ◌∷◌, get_or, length, Option, None, Some}
use Rattle.std.proofs.Common.{map, sym, ap, subst, ◌∙◌, arith, zero-add}
use Rattle.std.specs.Prelude.{IfSome, not}
use Rattle.std.specs.List.{range_with_len}
use Rattle.std.specs.Option.{option_map}
use Rattle.std.proofs.lemmas.List.{ext_get_or, get_or-map, length-map}
use Rattle.std.proofs.lemmas.List.FromFn.{get_or-map-range_with_len, length-map-range_with_len}
use Rattle.elf_object_type.proofs.Public.{passing, passing_one, range_more}
use Rattle.elf_object_edit.specs.Without.{has_staying_place, moved_body, moved_info, moved_place, moved_relocation, moved_section}
use Rattle.elf_object_edit.specs.Without.{moved_symbol}
use Rattle.elf_object_edit.specs.Without.{new_position, object_without, staying, staying_sections, staying_symbols, stays, with_staying}
use Rattle.elf_object_type.specs.Object.{BodyValue, bits, no_bits, relocs, group, ObjectValue, SectionValue, SymbolValue, section_at}
use Rattle.elf_object_type.specs.Object.{symbol_at}
use Rattle.elf_object_type.specs.Object.{info_position, no_relocation, no_section, no_symbol}
use Rattle.elf_object_type.specs.ObjectRules.{HasReferences, HasRightPositions, KeepsObjectRules, place_position}
use Rattle.elf_object_type.specs.declared.parts.Info.TheVariants.{Number, Section}
use Rattle.elf_object_type.specs.declared.parts.Info.{Info}
use Rattle.elf_object_type.specs.declared.parts.Place.TheVariants.{Undef, Abs, Common, In}
use Rattle.elf_object_type.specs.declared.parts.Place.{Place}
use Rattle.elf_object_type.specs.declared.relocations.Relocation.{Relocation}

-- ---- marks of which each says that what it is for stays

abbrev AllStay : List Bool → Type 0
AllStay marks = (p : ℕ) → p < length marks → stays marks p ≡ true

passing_all : (p : ℕ → Bool) (n : ℕ) → ((k : ℕ) → k < n → p k ≡ true) → passing p n ≡ range_with_len 0 n
passing_all p zero all = refl
passing_all p (suc n) all =
    let next : n + 1 ≡ suc n = omega arith in
    let before = passing_all p n (λ k lt. all k (omega arith)) in
    subst (λ (m : ℕ). passing p m ≡ range_with_len 0 m) next
    (passing_one p n (all n (omega arith)) ∙ ap (λ (xs : List ℕ). xs ++ n ∷ []) before ∙ sym (range_more n))

range_long : (n : ℕ) → length (range_with_len 0 n) ≡ n
range_long n = sym (length-map (range_with_len 0 n) (λ (x : ℕ). x)) ∙ length-map-range_with_len (λ (x : ℕ). x) 0 n

same_position : (marks : List Bool) (p : ℕ) → AllStay marks → p < length marks → new_position marks p ≡ p
same_position marks p all lt =
    ap (λ (xs : List ℕ). length xs) (passing_all (stays marks) p (λ k below. all k (omega arith))) ∙ range_long p

same_reference : (marks : List Bool) (n : ℕ) (named : Option ℕ) → AllStay marks → length marks ≡ n → IfSome named (λ p. p < n) →
    option_map (new_position marks) named ≡ named
same_reference marks n None all long there = refl
same_reference marks n (Some p) all long there = ap Some (same_position marks p all (omega arith))

same_elements : {X : Type 0} (f : X → X) (xs : List X) (d : X) → ((k : ℕ) → k < length xs → f (get_or xs k d) ≡ get_or xs k d) →
    map f xs ≡ xs
same_elements {X} f xs d same =
    ext_get_or d (map f xs) xs (length-map xs f) (λ k lt. (
    let within : k < length xs = omega (arith, length-map xs f) in
    get_or-map f xs k d d within ∙ same k within))

-- all that stays, made anew
same_list : {X : Type 0} (f : X → X) (xs : List X) (d : X) (marks : List Bool) → AllStay marks → length marks ≡ length xs →
    ((k : ℕ) → k < length xs → f (get_or xs k d) ≡ get_or xs k d) →
    map (λ p. f (get_or xs p d)) (staying marks) ≡ xs
same_list {X} f xs d marks all long same =
    let F : ℕ → X = λ p. f (get_or xs p d) in
    let n = length xs in
    let are : staying marks ≡ range_with_len 0 n =
    passing_all (stays marks) (length marks) all ∙ ap (λ (m : ℕ). range_with_len 0 m) long in
    ap (λ (ps : List ℕ). map F ps) are ∙
    ext_get_or d (map F (range_with_len 0 n)) xs (length-map-range_with_len F 0 n) (λ k lt. (
    let within : k < n = omega (arith, length-map-range_with_len F 0 n) in
    get_or-map-range_with_len F 0 n k k d within (zero-add k) ∙ same k within))

-- ---- references of an object

same_info : (S : List Bool) (n : ℕ) (info : Info) → AllStay S → length S ≡ n → IfSome (info_position info) (λ p. p < n) →
    moved_info S info ≡ info
same_info S n (Number number) all long there = refl
same_info S n (Section p) all long there = ap Section (same_position S p all (omega arith))

same_place : (S : List Bool) (n : ℕ) (place : Place) → AllStay S → length S ≡ n → IfSome (place_position place) (λ p. p < n) →
    moved_place S place ≡ place
same_place S n Undef all long there = refl
same_place S n Abs all long there = refl
same_place S n Common all long there = refl
same_place S n (In p) all long there = ap In (same_position S p all (omega arith))

same_relocation : (Y : List Bool) (n : ℕ) (r : Relocation) → AllStay Y → length Y ≡ n → IfSome r.symbol (λ k. k < n) →
    moved_relocation Y r ≡ r
same_relocation Y n r all long there =
    ap (λ (symbol : Option ℕ). record { offset = r.offset; symbol = symbol; kind = r.kind; addend = r.addend })
    (same_reference Y n r.symbol all long there)

same_body : (o : ObjectValue) (S Y : List Bool) (b : BodyValue) → AllStay S → AllStay Y → length S ≡ length o.sections →
    length Y ≡ length o.symbols → HasReferences o b → moved_body S Y b ≡ b
same_body o S Y (bits type content) all each long many are = refl
same_body o S Y (no_bits size) all each long many are = refl
same_body o S Y (relocs rela target entries) all each long many are =
    let there = are.target_there in
    ap (λ (t : ℕ). relocs rela t (map (moved_relocation Y) entries)) (same_position S target all (omega arith)) ∙
    ap (λ (es : List Relocation). relocs rela target es) (same_elements (moved_relocation Y) entries no_relocation
    (λ j lt. same_relocation Y (length o.symbols) (get_or entries j no_relocation) each many (are.symbols_there j lt)))
same_body o S Y (group comdat signature members) all each long many are =
    let there = are.signature_there in
    ap (λ (k : ℕ). group comdat k (map (new_position S) members)) (same_position Y signature each (omega arith)) ∙
    ap (λ (ms : List ℕ). group comdat signature ms) (same_elements (new_position S) members 0
    (λ j lt. (let below = are.members_there j lt in same_position S (get_or members j 0) all (omega arith))))

same_section : (o : ObjectValue) (S Y : List Bool) (s : SectionValue) → AllStay S → AllStay Y → length S ≡ length o.sections →
    length Y ≡ length o.symbols → HasRightPositions o s → moved_section S Y s ≡ s
same_section o S Y s all each long many right =
    ap (λ (link : Option ℕ). record {
      name = s.name;
      flags = s.flags;
      addr = s.addr;
      align = s.align;
      entsize = s.entsize;
      link = link;
      info = moved_info S s.info;
      body = moved_body S Y s.body;
    }) (same_reference S (length o.sections) s.link all long right.link_there) ∙
    ap (λ (info : Info). record {
      name = s.name;
      flags = s.flags;
      addr = s.addr;
      align = s.align;
      entsize = s.entsize;
      link = s.link;
      info = info;
      body = moved_body S Y s.body;
    }) (same_info S (length o.sections) s.info all long right.info_there) ∙
    ap (λ (b : BodyValue). record {
      name = s.name;
      flags = s.flags;
      addr = s.addr;
      align = s.align;
      entsize = s.entsize;
      link = s.link;
      info = s.info;
      body = b;
    }) (same_body o S Y s.body all each long many right.references)

same_symbol : (S : List Bool) (n : ℕ) (s : SymbolValue) → AllStay S → length S ≡ n → IfSome (place_position s.place) (λ p. p < n) →
    moved_symbol S s ≡ s
same_symbol S n s all long there =
    ap (λ (place : Place). record { name = s.name; info = s.info; other = s.other; place = place; value = s.value; size = s.size })
    (same_place S n s.place all long there)

-- ---- the object

place_stays : (S : List Bool) (n : ℕ) (place : Place) → AllStay S → length S ≡ n → IfSome (place_position place) (λ p. p < n) →
    has_staying_place S place ≡ true
place_stays S n Undef all long there = refl
place_stays S n Abs all long there = refl
place_stays S n Common all long there = refl
place_stays S n (In p) all long there = all p (omega arith)

same_object : (o : ObjectValue) (S Y : List Bool) → AllStay S → AllStay Y → length S ≡ length o.sections → length Y ≡ length o.symbols →
    KeepsObjectRules o → with_staying o S Y ≡ o
same_object o S Y all each long many rules =
    ap (λ (sections : List SectionValue). record {
      order = o.order;
      osabi = o.osabi;
      abi = o.abi;
      machine = o.machine;
      flags = o.flags;
      sections = sections;
      symbols = map (λ k. moved_symbol S (symbol_at o k)) (staying Y);
    }) (same_list (moved_section S Y) o.sections no_section S all long
    (λ p lt. same_section o S Y (section_at o p) all each long many (rules.positions p lt))) ∙
    ap (λ (symbols : List SymbolValue). record {
      order = o.order;
      osabi = o.osabi;
      abi = o.abi;
      machine = o.machine;
      flags = o.flags;
      sections = o.sections;
      symbols = symbols;
    }) (same_list (moved_symbol S) o.symbols no_symbol Y each many
    (λ k lt. same_symbol S (length o.sections) (symbol_at o k) all long (rules.places_there k lt)))

pub whole_object : (o : ObjectValue) → KeepsObjectRules o → object_without o [] ≡ o
unfolding object_without
whole_object o rules =
    let f : ℕ → Bool = λ p. not (get_or [] p false) in
    let S = staying_sections o [] in
    let Y = staying_symbols o S in
    let g : SymbolValue → Bool = λ s. has_staying_place S s.place in
    let long : length S ≡ length o.sections = length-map-range_with_len f 0 (length o.sections) in
    let many : length Y ≡ length o.symbols = length-map o.symbols g in
    let all : AllStay S = λ p lt. get_or-map-range_with_len f 0 (length o.sections) p p false (omega arith) (zero-add p) in
    let each : AllStay Y = λ k lt. (
    let within : k < length o.symbols = omega arith in
    get_or-map g o.symbols k no_symbol false within ∙
    place_stays S (length o.sections) (symbol_at o k).place all long (rules.places_there k within)) in
    same_object o S Y all each long many rules
