use Rattle.std.specs.Prelude.{nat_eq}
use Rattle.std.proofs.lemmas.Bool.Decides.{Decides-eqb}
use Rattle.std.proofs.lemmas.List.Elements.{Decides-contains, contains_decides}
use Rattle.elf_object_type.specs.ObjectRules.{types_without_bits}
use Rattle.elf_object_type.proofs.section_rules.is_type_without_bits.Goals as goal

pub returns : goal.returns
returns c =
    let decided = contains_decides nat_eq Decides-eqb types_without_bits c.args.section_type c.contains.result c.contains.ensures.cases in
    Decides-contains types_without_bits c.args.section_type c.contains.result decided
