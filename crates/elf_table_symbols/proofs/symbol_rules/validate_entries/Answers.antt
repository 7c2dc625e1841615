use Rattle.std.proofs.Common.{◌≡◌, ℕ, ◌≤◌, inl, inr, refl, arith}
use Rattle.elf_table_symbols.specs.Symbols.{SymbolPartsValue, parts_value, entry_count, symbol_entry_rules, wrong_local_count}
use Rattle.elf_table_symbols.proofs.symbol_rules.validate_entries.Goals as goal

-- rule 46 is kept
no_wrong_local_count : (p : SymbolPartsValue) → (p.info ≡ 0 → ⊥) → p.info ≤ entry_count p.table → (x : ℕ) → wrong_local_count p x → ⊥
no_wrong_local_count p some few x broken = elim broken.0 [ inl none ↦ some none | inr many ↦ (let le = few in omega arith) ]

pub returns-in-Some : goal.returns-in-Some
unfolding symbol_entry_rules
returns-in-Some c = rw c.new.ensures (inl (refl, c.in-Some.ensures))

pub returns-in-Some-lowest_symbol : goal.returns-in-Some-lowest_symbol
unfolding symbol_entry_rules
returns-in-Some-lowest_symbol c =
    let few = rw c.len.ensures at c.if-parts-len.false in
    let local = no_wrong_local_count (parts_value c.args.parts.now) c.if-parts-eq0.false few in
    rw c.new-in-Some-lowest_symbol.ensures (inr (c.in_default.ensures, inr (local, inl (refl, c.in-Some-lowest_symbol.ensures))))

pub returns-in-Some-lowest_symbol-2 : goal.returns-in-Some-lowest_symbol-2
unfolding symbol_entry_rules
returns-in-Some-lowest_symbol-2 c =
    let few = rw c.len.ensures at c.if-parts-len.false in
    let local = no_wrong_local_count (parts_value c.args.parts.now) c.if-parts-eq0.false few in
    rw c.new-in-Some-lowest_symbol-2.ensures
    (inr (c.in_default.ensures, inr (local, inr (c.in_default-lowest_symbol.ensures, inl (refl, c.in-Some-lowest_symbol-2.ensures)))))
