-- Two names are equal by their order from the end exactly if they are the same list.
use Rattle.std.proofs.Common.{◌∙◌, [], List, ℕ, ap, get_or, length, refl, reverse, sym}
use Rattle.std.specs.Cmp.Lexicographic.{slice_cmp}
use Rattle.std.specs.Ordering.{nat_cmp}
use Rattle.std.proofs.lemmas.Bool.{true≢false}
use Rattle.std.proofs.lemmas.Cmp.{nat_list_cmp_total, tied_itself}
use Rattle.std.proofs.lemmas.List.{reverse-reverse}
use Rattle.std.proofs.lemmas.Map.Lookups.{exact_bytes}
use Rattle.elf_object_strings.proofs.equals.is_equal.Goals as goal

pub returns-in-Equal : goal.returns-in-Equal
returns-in-Equal c =
    let a = get_or c.args.list.now c.args.a [] in
    let b = get_or c.args.list.now c.args.b [] in (
      λ yes. sym (reverse-reverse a) ∙
          ap (λ (s : List ℕ). reverse s) (exact_bytes (reverse a) (reverse b) (sym c.compare.ensures ∙ c.in-Equal.is)) ∙ reverse-reverse b,
      λ same. refl,
    )

pub returns-in_default : goal.returns-in_default
returns-in_default c =
    let a = get_or c.args.list.now c.args.a [] in (
      λ never. absurd (true≢false (sym never)),
      λ same. absurd (c.in_default.not-Equal
          (c.compare.ensures ∙ ap (λ (s : List ℕ). slice_cmp nat_cmp (reverse a) (reverse s)) (sym same) ∙
          tied_itself nat_list_cmp_total (reverse a))),
    )

pub returns-then-name : goal.returns-then-name
returns-then-name c = (
  λ never. absurd (true≢false (sym never)),
  λ same. absurd (c.if-name.true (ap length (c.name.ensures ∙ same ∙ sym c.name-2.ensures))),
)
