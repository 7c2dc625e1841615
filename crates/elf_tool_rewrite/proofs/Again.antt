-- What `rewrite` wrote is the file of an object: it is an image that denotes this object, of which it writes the same file.
use Rattle.std.proofs.Common.{ℕ, List, inl, inr, refl}
use Rattle.elf_tool_rewrite.specs.Rewrite.{RewriteSays}
use Rattle.elf_tool_check.specs.declared.calls.Verdict.TheVariants.{Done}

pub rewrite_again : (b text : List ℕ) → RewriteSays b Done text → RewriteSays text Done text
rewrite_again b text says = elim says [
  | inl (v, image, inl (clean, (o, denotes, file))) ↦ (
      let stands = file.image.1.stands in
      inl (file.image.0, file.image.1, inl (file.kept file.image.0 stands, (o, (file.denotes file.image.0 stands o).1 refl, file))))
  | inl (v, image, inr none) ↦ absurd none
  | inr none ↦ absurd none
]
