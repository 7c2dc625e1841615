use Rattle.std.proofs.Common.{◌≡◌, ℕ, arith}
use Rattle.std.specs.Prelude.{◌==◌}
use Rattle.std.proofs.lemmas.Bool.{eq-eqb, eqb-true}
use Rattle.elf_field.specs.Abi.{SHT_SYMTAB}
use Rattle.elf_field.specs.declared.shdr.Shdr.{Shdr}
use Rattle.elf_object_layout.specs.SectionsLeftOut.{symbol_table}
use Rattle.elf_table_symbols.specs.Sections.{section, sections_of}
use Rattle.elf_object_layout.proofs.SectionsLeftOut.{first_found, first_missing}
use Rattle.elf_object_layout.proofs.left_out.symbol_table.Goals as goal

pub returns-then-section-eq-SHT_SYMTAB-clause-found : goal.returns-then-section-eq-SHT_SYMTAB-clause-found
unfolding symbol_table
returns-then-section-eq-SHT_SYMTAB-clause-found c =
    let f = sections_of c.args.image.now in
    let here = rw c.section.ensures.value at c.if-section-eq-SHT_SYMTAB.true in
    first_found (λ (s : Shdr). s.sh_type == SHT_SYMTAB) f (λ (k : ℕ). (section f k).sh_type ≡ SHT_SYMTAB) c.loop-i.i
    (λ k is. eq-eqb _ _ is) (λ k test. eqb-true _ _ test) (omega arith) c.loop-i.invariant here

pub returns-clause-found : goal.returns-clause-found
unfolding symbol_table
returns-clause-found c =
    let f = sections_of c.args.image.now in
    first_missing (λ (s : Shdr). s.sh_type == SHT_SYMTAB) f (λ (k : ℕ). (section f k).sh_type ≡ SHT_SYMTAB)
    (λ k is. eq-eqb _ _ is) (λ k test. eqb-true _ _ test) (λ k there is. c.loop-i.invariant k (omega arith) is)
