-- A symbol that has the name of an earlier one has the index of that one's name (`index_by_row`, `index_by_rows`).
use Rattle.std.proofs.Common.{◌≡◌, ◌<◌, ◌∙◌, ℕ, List, [], Option, Some, arith, ap, get_or, length, sym, subst}
use Rattle.std.proofs.lemmas.List.{get_or-map, length-map}
use Rattle.std.proofs.lemmas.List.Elements.{All-get_or}
use Rattle.elf_link_files.specs.Files.{symbol_in, symbol_with}
use Rattle.elf_link_files.specs.KnownBefore.{id_in}
use Rattle.elf_link_files.specs.Rows.{site_at}
use Rattle.elf_link_files.specs.SameNames.{site_name, site_names}
use Rattle.elf_link_files.specs.declared.inputs.SymbolId.{SymbolId}
use Rattle.elf_link_files.specs.declared.same_names.Named.TheVariants.{Symbol}
use Rattle.elf_link_files.specs.declared.site.Site.{Site}
use Rattle.elf_link_names.specs.KnownNames.{AreIndexRows, IsIndexRow}
use Rattle.elf_link_names.specs.LongSymbols.{AreLongSymbols, HasSameName, IsSiteOfEntry}
use Rattle.elf_object_type.specs.Object.{ObjectValue}

abbrev no_site : Site
no_site = record { file = 0; index = 0; entry = 0 }

-- the first symbol of the same name
pub first_of : (fs : List ObjectValue) (sites : List Site) (firsts : List ℕ) (n : ℕ) (id : SymbolId) → AreLongSymbols fs sites firsts →
    n < length sites → (site_at sites n).file ≡ id.file → (site_at sites n).index ≡ id.index →
    (get_or firsts n 0 < length sites) ×
    HasSameName fs id (id_in (site_at sites (get_or firsts n 0)).file (site_at sites (get_or firsts n 0)).index)
first_of fs sites firsts n id are lt file index =
    let many : length (site_names fs Symbol sites) ≡ length sites = length-map sites (site_name fs Symbol) in
    let (below, same) = are.equal.each n (omega arith) in
    let at : (k : ℕ) → k < length sites → get_or (site_names fs Symbol sites) k [] ≡ site_name fs Symbol (site_at sites k) =
    λ k lt. get_or-map (site_name fs Symbol) sites k no_site [] lt in
    let own : site_name fs Symbol (site_at sites n) ≡ (symbol_with fs id).name =
    ap (λ f. (symbol_in fs f (site_at sites n).index).name) file ∙ ap (λ i. (symbol_in fs id.file i).name) index in (
      omega arith,
      record {
        entry = All-get_or (IsSiteOfEntry fs) sites (get_or firsts n 0) no_site (omega arith) are.entries;
        same = sym (at (get_or firsts n 0) (omega arith)) ∙ same ∙ at n lt ∙ own;
      },
    )

-- the index of the name of a symbol by that of an earlier one: of the same file, or of a file before
pub index_by_row : (fs : List ObjectValue) (position : List ℕ → Option ℕ) (id first : SymbolId) (n : ℕ) (row : List ℕ) →
    IsIndexRow fs position id.file n row → HasSameName fs id first → first.file ≡ id.file → first.index < n →
    position (symbol_with fs id).name ≡ Some (get_or row first.index 0)
index_by_row fs position id first n row are same file lt =
    ap position (sym same.same) ∙
    (subst (λ f. IsIndexRow fs position f n row) (sym file) are).each first.index lt same.entry.entry

pub index_by_rows : (fs : List ObjectValue) (position : List ℕ → Option ℕ) (id first : SymbolId) (n : ℕ) (rows : List (List ℕ)) →
    AreIndexRows fs position n rows → HasSameName fs id first → first.file < n →
    position (symbol_with fs id).name ≡ Some (get_or (get_or rows first.file []) first.index 0)
index_by_rows fs position id first n rows are same lt =
    ap position (sym same.same) ∙ (are.each first.file lt).each first.index same.entry.symbol.1 same.entry.entry
