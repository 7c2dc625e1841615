-- A local symbol changes nothing; one whose name has a position changes what is known of that name alone; any other opens one name at
-- the end, of which nothing was known before.
use Rattle.std.proofs.Common.{◌≡◌, ℕ, List, true, false, length, refl, sym, ◌∙◌, ap, subst}
use Rattle.std.specs.Prelude.{cond, None, Some}
use Rattle.std.specs.Str.{bytes_eq}
use Rattle.elf_field.specs.Abi.{STB_LOCAL}
use Rattle.elf_object_type.specs.Object.{SymbolValue, binding}
use Rattle.elf_link_files.specs.Files.{symbol_in}
use Rattle.elf_link_files.specs.declared.known.Known.{Known}
use Rattle.elf_link_files.specs.KnownBefore.{IsKnownBefore}
use Rattle.elf_link_names.specs.Tables.{IsLookup, name_position}
use Rattle.elf_link_files.proofs.Public.{known_none}
use Rattle.elf_link_names.proofs.KnownNames.{keeps_new, none_placed, placed_at, names_again, names_local, names_new}
use Rattle.elf_link_names.proofs.known_names.pass_symbol.Goals as goal

pub returns-then-is_local-clause-names : goal.returns-then-is_local-clause-names
returns-then-is_local-clause-names c =
    let s = c.args.symbol.now in
    names_local s.inputs.now s.id.file s.id.index (name_position c.args.names.now.positions) c.args.names.now.known
    (subst (λ (s : SymbolValue). binding s ≡ STB_LOCAL) c.symbol-own.ensures (c.if-is_local.ensures.0 refl)) c.requires.before

pub returns-then-is_local-clause-index : goal.returns-then-is_local-clause-index
returns-then-is_local-clause-index c = λ not_local.
    absurd (not_local (subst (λ (s : SymbolValue). binding s ≡ STB_LOCAL) c.symbol-own.ensures (c.if-is_local.ensures.0 refl)))

pub place_looked_up-requires : goal.place_looked_up-requires
place_looked_up-requires c =
    subst (λ (n : List ℕ). IsLookup (name_position c.args.names.now.positions) n c.args.lookup)
    (sym (ap (λ (s : SymbolValue). s.name) c.symbol-own.ensures))
    (c.requires.lookup (λ local. (
    let never : false ≡ true =
    c.if-is_local.ensures.1 (subst (λ (s : SymbolValue). binding s ≡ STB_LOCAL) (sym c.symbol-own.ensures) local) in
    absurd (cc))))

pub note_again-requires-clause-within : goal.note_again-requires-clause-within
note_again-requires-clause-within c =
    let s = c.args.symbol.now in
    let old = name_position c.args.names.now.positions in
    let at = subst (λ (n : List ℕ). old n ≡ Some c.in-Some.k) (ap (λ (s : SymbolValue). s.name) c.symbol-own.ensures)
    (sym c.in_ok-place.ensures.old ∙ c.in-Some.is) in
    (placed_at s.inputs.now s.id.file s.id.index old c.args.names.now.known _ c.in-Some.k at c.requires.before).0

pub returns-in_ok-note_again-in-Some-clause-index : goal.returns-in_ok-note_again-in-Some-clause-index
returns-in_ok-note_again-in-Some-clause-index c = λ not_local.
    let s = c.args.symbol.now in
    let old = name_position c.args.names.now.positions in
    let name = (symbol_in s.inputs.now s.id.file s.id.index).name in
    rw c.in-Some.is at (c.in_ok-place.ensures.placed name) ∙
    subst (λ (n : List ℕ). old n ≡ Some c.in-Some.k) (ap (λ (s : SymbolValue). s.name) c.symbol-own.ensures)
    (sym c.in_ok-place.ensures.old ∙ c.in-Some.is)

pub returns-in_ok-note_again-in-Some-clause-kept : goal.returns-in_ok-note_again-in-Some-clause-kept
returns-in_ok-note_again-in-Some-clause-kept c = λ q j at. rw c.in-Some.is at (c.in_ok-place.ensures.placed q) ∙ at

pub returns-in_ok-note_again-in-Some-clause-names : goal.returns-in_ok-note_again-in-Some-clause-names
returns-in_ok-note_again-in-Some-clause-names c =
    let s = c.args.symbol.now in
    let fs = s.inputs.now in
    let ks = c.args.names.now.known in
    let k = c.in-Some.k in
    let same = ap (λ (s : SymbolValue). s.name) c.symbol-own.ensures in
    let old = name_position c.args.names.now.positions in
    let at = subst (λ (n : List ℕ). old n ≡ Some k) same (sym c.in_ok-place.ensures.old ∙ c.in-Some.is) in
    let noted = c.in_ok-note_again-in-Some.ensures in
    rw noted.set
    (names_again fs s.id.file s.id.index old (name_position c.place_looked_up.new.self) ks k noted.known
    (λ q. rw c.in-Some.is at (c.in_ok-place.ensures.placed q)) at noted.first noted.noted c.requires.before)

pub note-requires : goal.note-requires
note-requires c =
    let s = c.args.symbol.now in
    let fs = s.inputs.now in
    let ks = c.args.names.now.known in
    let same = ap (λ (s : SymbolValue). s.name) c.symbol-own.ensures in
    let name = (symbol_in fs s.id.file s.id.index).name in
    let old = name_position c.args.names.now.positions in
    subst (IsKnownBefore fs name s.id.file s.id.index) (sym c.new-known.ensures)
    (known_none fs name s.id.file s.id.index
    (none_placed fs s.id.file s.id.index old ks name
    (subst (λ (n : List ℕ). old n ≡ None) same (sym c.in_ok-place.ensures.old ∙ c.in-None.is)) c.requires.before))

pub returns-in_ok-push-in-None-clause-names : goal.returns-in_ok-push-in-None-clause-names
returns-in_ok-push-in-None-clause-names c =
    let s = c.args.symbol.now in
    let fs = s.inputs.now in
    let ks = c.args.names.now.known in
    let name = c.symbol-own.result.name.now in
    let same = ap (λ (s : SymbolValue). s.name) c.symbol-own.ensures in
    let old = name_position c.args.names.now.positions in
    let now = name_position c.place_looked_up.new.self in
    rw c.in_ok-push-in-None.ensures
    (names_new fs s.id.file s.id.index old now ks c.note.new.self s.there.0 s.there.1
    (λ local. (let never : false ≡ true =
    c.if-is_local.ensures.1 (subst (λ (s : SymbolValue). binding s ≡ STB_LOCAL) (sym c.symbol-own.ensures) local) in cc))
    (subst (λ (n : List ℕ). (q : List ℕ) → now q ≡ cond (bytes_eq n q) (Some (length ks)) (old q)) same
    (subst (λ (m : ℕ). (q : List ℕ) → now q ≡ cond (bytes_eq name q) (Some m) (old q)) c.len-next.ensures
    (λ q. rw c.in-None.is at (c.in_ok-place.ensures.placed q))))
    (subst (λ (n : List ℕ). old n ≡ None) same (sym c.in_ok-place.ensures.old ∙ c.in-None.is))
    (c.note.ensures.first ∙ ap (λ (k : Known). k.first) c.new-known.ensures)
    c.note.ensures.known c.requires.before)

pub returns-in_ok-push-in-None-clause-kept : goal.returns-in_ok-push-in-None-clause-kept
returns-in_ok-push-in-None-clause-kept c =
    keeps_new (name_position c.args.names.now.positions)
    (name_position c.place_looked_up.new.self) c.symbol-own.result.name.now c.len-next.result
    (sym c.in_ok-place.ensures.old ∙ c.in-None.is) (λ q. rw c.in-None.is at (c.in_ok-place.ensures.placed q))
