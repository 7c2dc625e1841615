-- If a hash table breaks no rule, the section that it links to is there, and is a symbol table that breaks no rule. Rules 65 to 69 then
-- give the invariant of the result (`valid_when`).
use Rattle.std.proofs.Common.{None, sym, subst}
use Rattle.elf_image_rules.proofs.Public.{FirstIn-after, FirstIn-front}
use Rattle.elf_image_rules.specs.Rows.{FirstIn}
use Rattle.elf_table_symbols.specs.declared.table_section.TableKind.TheVariants.{HashTable}
use Rattle.elf_table_symbols.specs.Sections.{own_rules, section, sections_of}
use Rattle.elf_table_symbols.proofs.Public.{link_there}
use Rattle.elf_table_symbols.specs.Symbols.{symbol_table_rules}
use Rattle.elf_table_hash.specs.HashRules.{HashPartsValue, hash_parts, hash_parts_value, chain_rules, hash_rules, hash_table_rules}
use Rattle.elf_table_hash.specs.HashRules.{word_rules}
use Rattle.elf_table_hash.proofs.HashSound.{valid_when}
use Rattle.elf_table_hash.proofs.hash.sound_hash.Goals as goal

pub invariant_of-new : goal.invariant_of-new
unfolding hash_table_rules
invariant_of-new c =
    let f = sections_of c.args.image.now in
    record { linked = link_there HashTable f c.args.i (FirstIn-front (own_rules HashTable f c.args.i) _ c.requires.sound) }

pub new-parts-requires-clause-own : goal.new-parts-requires-clause-own
unfolding hash_table_rules
new-parts-requires-clause-own c = FirstIn-front (own_rules HashTable (sections_of c.args.image.now) c.args.i) _ c.requires.sound

pub new-parts-requires-clause-symbols : goal.new-parts-requires-clause-symbols
unfolding hash_table_rules
new-parts-requires-clause-symbols c =
    let f = sections_of c.args.image.now in
    FirstIn-front (symbol_table_rules f (section f c.args.i).sh_link) _ (FirstIn-after (own_rules HashTable f c.args.i) _ c.requires.sound)

pub invariant_of-result : goal.invariant_of-result
unfolding hash_table_rules hash_rules
invariant_of-result c =
    let f = sections_of c.args.image.now in
    let rest = FirstIn-after (symbol_table_rules f (section f c.args.i).sh_link) _
    (FirstIn-after (own_rules HashTable f c.args.i) _ c.requires.sound) in
    let words = FirstIn-front (word_rules (hash_parts f c.args.i)) _ rest in
    let chains = FirstIn-after (word_rules (hash_parts f c.args.i)) _ rest in
    let same = sym c.new-parts.ensures.value in
    valid_when (hash_parts_value c.new-parts.result) c.new-parts.result.sized
    (subst (λ (p : HashPartsValue). FirstIn (word_rules p) None) same words)
    (subst (λ (p : HashPartsValue). FirstIn (chain_rules p) None) same chains)
