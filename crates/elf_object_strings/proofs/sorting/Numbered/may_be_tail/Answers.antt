use Rattle.std.proofs.Common.{◌≡◌, sym, ◌∙◌, arith, inl, inr}
use Rattle.std.proofs.lemmas.Bool.Decides.{nat_tests}
use Rattle.elf_object_strings.proofs.Numbering.{tail_number}
use Rattle.elf_object_strings.proofs.sorting.Numbered.may_be_tail.Goals as goal

pub returns-else-self-other : goal.returns-else-self-other
returns-else-self-other c names own other suffix = elim (tail_number _ _ suffix) [
  | inl same ↦
      let equal : c.args.self.now.end ≡ c.args.other.now.end = own.number ∙ same ∙ sym other.number in
      let differ = c.if-self-other.false in
      absurd (grind (arith, nat_tests))
  | inr digit ↦ let number = own.number in grind (arith, nat_tests)
]
