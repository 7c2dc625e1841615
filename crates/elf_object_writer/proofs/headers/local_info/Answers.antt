use Rattle.std.proofs.Common.{List, ap, length, ◌+◌, ◌∙◌}
use Rattle.std.specs.Prelude.{filter}
use Rattle.elf_object_type.specs.Object.{ObjectValue, SymbolValue}
use Rattle.elf_object_layout.specs.Laid.{is_local}
use Rattle.elf_object_writer.proofs.HeaderTables.{local_symbols}
use Rattle.elf_object_writer.proofs.headers.local_info.Goals as goal

pub returns : goal.returns
returns c =
    ap (λ n. 1 + n) (c.local_count.ensures.value ∙ local_symbols c.symbols.result.now
    ∙ ap (λ (ss : List SymbolValue). length (filter is_local ss))
    (c.symbols.ensures ∙ ap (λ (o : ObjectValue). o.symbols) c.object.ensures))
