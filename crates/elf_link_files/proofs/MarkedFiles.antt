-- The files of a link, and what the rules of objects say of them.
use Rattle.std.proofs.Common.{◌≡◌, ℕ, ◌+◌, ◌<◌, ◌⊎◌, Bool, true, false, List, length, get_or, set, inl, inr, refl, sym, ◌∙◌, subst, arith}
use Rattle.std.proofs.Common.{get_or-set_other, get_or-set_same}
use Rattle.std.proofs.lemmas.Bool.{cases_eq, cases_lt}
use Rattle.std.proofs.lemmas.List.{length-set, get_or_default}
use Rattle.std.specs.Prelude.{IfSome, Option, None, Some, MatchOption}
use Rattle.std.proofs.lemmas.Slice.Eq.{bytes_eq-Decides}
use Rattle.std.specs.Str.{bytes_eq}
use Rattle.elf_link_files.specs.Files.{object_at, AreMembersMarked, is_comdat, signature_position, IsPlaceIn, no_object}
use Rattle.elf_object_type.proofs.Public.{place_there, references_there}
use Rattle.elf_object_type.specs.Object.{ObjectValue, BodyValue, bits, no_bits, relocs, group, section_at, symbol_at}
use Rattle.elf_object_type.specs.ObjectRules.{NamesMember, HasReferences, IsObject, place_position}
use Rattle.elf_object_type.specs.declared.parts.Place.TheVariants.{Undef, Abs, Common, In}
use Rattle.elf_object_type.specs.declared.parts.Place.{Place}

-- Marks over the sections of the files. Marking member n adds it to those marked for the first n, and keeps the marks from before: any
-- other position is unchanged. A row of marks for one file more extends the rows of the files.

-- ---- the members of one group

pub marked_none : (row : List Bool) (members : List ℕ) → AreMembersMarked row members 0 row
marked_none row members = record {
  long = refl;
  right = λ s within. ((λ is. inl is), (λ either. elim either [ inl is ↦ is | inr (k, lt, here) ↦ absurd (omega arith) ]));
}

named_next : (members : List ℕ) (n s : ℕ) → NamesMember members (n + 1) s → NamesMember members n s ⊎ (get_or members n 0 ≡ s)
named_next members n s (k, lt, here) = elim (cases_lt k n) [
  | inl below ↦ inl (k, below, here)
  | inr above ↦ (let same : k ≡ n = omega arith in inr (subst (λ i. get_or members i 0 ≡ s) same here))
]

pub marked_next : (before : List Bool) (members : List ℕ) (n : ℕ) (row : List Bool) → AreMembersMarked before members n row →
    get_or members n 0 < length row → AreMembersMarked before members (n + 1) (set row (get_or members n 0) true)
marked_next before members n row are there = record {
  long = length-set row (get_or members n 0) true ∙ are.long;
  right = λ s within. elim (cases_eq s (get_or members n 0)) [
    | inl same ↦ ((λ is. inr (n, omega arith, sym same)), (λ named. rw same (get_or-set_same row (get_or members n 0) true false there)))
    | inr other ↦ (
      (λ is. elim ((are.right s within).0 (sym (get_or-set_other row (get_or members n 0) s true false other) ∙ is)) [
        | inl had ↦ inl had
        | inr (k, lt, here) ↦ inr (k, omega arith, here)
      ]),
      (λ either. get_or-set_other row (get_or members n 0) s true false other ∙ (are.right s within).1 (elim either [
        | inl had ↦ inl had
        | inr named ↦ elim (named_next members n s named) [ inl earlier ↦ inr earlier | inr last ↦ absurd (other (sym last)) ]
      ])),
    )
  ];
}

-- What the rules of objects say of the references in one: the signature of a COMDAT group is a symbol, and the section that a symbol lies
-- in is a section, of the object.

signature_of_body : (o : ObjectValue) (b : BodyValue) → is_comdat b ≡ true → HasReferences o b → signature_position b < length o.symbols
signature_of_body o (bits type content) is has = absurd (cc)
signature_of_body o (no_bits size) is has = absurd (cc)
signature_of_body o (relocs rela target entries) is has = absurd (cc)
signature_of_body o (group comdat signature members) is has = has.signature_there

pub signature_there : (o : ObjectValue) (s : ℕ) → IsObject o → s < length o.sections → is_comdat (section_at o s).body ≡ true →
    signature_position (section_at o s).body < length o.symbols
signature_there o s is there comdat = signature_of_body o (section_at o s).body comdat (references_there o s is there)

placed : (o : ObjectValue) (p : Place) → IfSome (place_position p) (λ s. s < length o.sections) → IsPlaceIn o p
placed o Undef there = tt
placed o Abs there = tt
placed o Common there = tt
placed o (In s) there = there

pub symbol_placed : (o : ObjectValue) (i : ℕ) → IsObject o → i < length o.symbols → IsPlaceIn o (symbol_at o i).place
symbol_placed o i is there = placed o (symbol_at o i).place (place_there o i is there)

-- ---- by what is known

pub object_is : (fs : List ObjectValue) (f : ℕ) (o : ObjectValue) → f < length fs → o ≡ get_or fs f o → object_at fs f ≡ o
object_is fs f o lt is = get_or_default fs f no_object o lt ∙ sym is

-- Two values are one or not, and what follows of what was found.

pub same_bool : (a b : Bool) → (a ≡ b) ⊎ (a ≡ b → ⊥)
same_bool true true = inl refl
same_bool false false = inl refl
same_bool true false = inr (λ (e : true ≡ false). cc)
same_bool false true = inr (λ (e : false ≡ true). cc)

pub same_name : (a b : List ℕ) → (a ≡ b) ⊎ (a ≡ b → ⊥)
same_name a b = elim (same_bool (bytes_eq a b) true) [
  | inl equal ↦ inl ((bytes_eq-Decides a b).0 equal)
  | inr other ↦ inr (λ equal. other ((bytes_eq-Decides a b).1 equal))
]

pub match_map : {A : Type 0} (o : Option A) (N M : Type 0) (P Q : A → Type 0) → (N → M) → ((a : A) → P a → Q a) → MatchOption o N P →
    MatchOption o M Q
match_map None N M P Q none some is = none is
match_map (Some a) N M P Q none some is = some a is

pub not_true : (b : Bool) → (b ≡ true → ⊥) → b ≡ false
not_true true never = absurd (never refl)
not_true false never = refl
