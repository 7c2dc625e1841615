use Rattle.std.proofs.Common.{ℕ, List, ap₂, sym, ◌∙◌}
use Rattle.elf_field.specs.declared.shdr.Shdr.{Shdr}
use Rattle.elf_field.specs.Strings.{string}
use Rattle.elf_object_reader.specs.FileRules.{sections_of_file}
use Rattle.elf_object_reader.proofs.NameTails.{name_in_table}
use Rattle.elf_object_reader.proofs.reading.KeptSection.name.Goals as goal

pub returns : goal.returns
returns c =
    let s = c.args.self.now in
    let file = s.reader.now.file in
    c.string.ensures ∙ ap₂ (λ (table : List ℕ) (h : Shdr). string table h.sh_name) s.reader.now.own_names s.own_header
    ∙ sym (name_in_table file.left (sections_of_file file) s.index s.kept)
