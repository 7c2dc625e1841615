-- File by file: a row of indexes joins those before it, which still hold, since no name loses its position.
use Rattle.std.proofs.Common.{◌≡◌, ℕ, [], length, map, subst, arith}
use Rattle.std.proofs.lemmas.List.{map-append}
use Rattle.elf_link_files.specs.Files.{object_at}
use Rattle.elf_link_files.proofs.Public.{each_more}
use Rattle.elf_link_names.specs.KnownNames.{AreKnownBefore, IsIndexRow}
use Rattle.elf_link_names.specs.Tables.{name_position}
use Rattle.elf_link_names.proofs.KnownNames.{rows_kept, names_file}
use Rattle.elf_link_names.proofs.known_names.known_names.Goals as goal

pub loop-file-preserved : goal.loop-file-preserved
loop-file-preserved c =
    let fs = c.args.inputs.now in
    let n = c.loop-file.file in
    let old = name_position c.loop-file.names.positions in
    let now = name_position c.pass_file.new.names.positions in
    let rows = map (λ row. row.items) c.loop-file.indexes.items in
    let passed = c.in_ok-row.ensures in
    record {
      names = names_file fs n _ _ passed.names;
      indexes = rw (c.in_ok-push.ensures.items, map-append)
          (each_more [] (λ f. IsIndexRow fs now f (length (object_at fs f).symbols)) n rows c.in_ok-row.row.items passed.indexes
          (rows_kept fs old now n rows passed.kept c.loop-file.invariant.indexes));
    }

pub returns-clause-names : goal.returns-clause-names
returns-clause-names c =
    let fs = c.args.inputs.now in
    let end : c.loop-file.file ≡ length fs = omega arith in
    subst (λ (n : ℕ). AreKnownBefore fs n 0 (name_position c.loop-file.names.positions) c.loop-file.names.known) end
    c.loop-file.invariant.names
