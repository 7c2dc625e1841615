use Rattle.std.proofs.Common.{◌≡◌, [], Bool, true, false, get_or, refl, sym, ◌∙◌}
use Rattle.std.proofs.lemmas.Bool.{true≢false}
use Rattle.elf_object_strings.specs.StringTable.{is_suffix}
use Rattle.elf_object_strings.proofs.Ends.{suffix_from}
use Rattle.elf_object_strings.proofs.table.is_tail.Goals as goal

pub returns-else-may_be_tail : goal.returns-else-may_be_tail
returns-else-may_be_tail c =
    let names = c.args.list.now in
    let name = get_or names c.args.name.now.index [] in
    let other = get_or names c.args.other.now.index [] in
    c.if-may_be_tail.false ∙ sym (by (is_suffix name other) refl)
  where
    by : (b : Bool) → is_suffix (get_or c.args.list.now c.args.name.now.index []) (get_or c.args.list.now c.args.other.now.index []) ≡ b →
        b ≡ false
    by false is = refl
    by true is =
        absurd (true≢false
        (sym (c.may_be_tail.ensures c.args.list.now c.requires.name c.requires.other (suffix_from _ _ is)) ∙ c.if-may_be_tail.false))
