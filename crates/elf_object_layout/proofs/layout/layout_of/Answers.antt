-- The end of the last part is the length of the file. If it is above the limit, the parts are too long, because they have no other least
-- places.
use Rattle.std.proofs.Common.{◌≡◌, ◌-◌, length, rules, arith}
use Rattle.std.specs.Prelude.{vec_len}
use Rattle.elf_extent.proofs.Public.{fits_length}
use Rattle.elf_object_layout.proofs.CanonicalLayout.{too_long_at, whole_end}
use Rattle.elf_object_layout.proofs.layout.layout_of.Goals as goal

pub index-requires : goal.index-requires
index-requires c =
    let some = c.requires.some in
    let many = fits_length _ _ _ c.requires.least.fits in
    let wide : length c.args.places.items ≡ vec_len c.args.places = search rules in
    omega arith

pub overflow_add-file_len : goal.overflow_add-file_len
overflow_add-file_len c =
    let some = c.requires.some in
    let parts = c.args.parts.now in
    let end = c.requires.fit (length parts - 1) (omega arith) in
    let whole = whole_end parts c.args.places.items c.index.result.now some c.requires.least c.index.ensures in
    omega arith

pub returns-then-file_len-gt-MAX_LEN-clause-err : goal.returns-then-file_len-gt-MAX_LEN-clause-err
returns-then-file_len-gt-MAX_LEN-clause-err c =
    let some = c.requires.some in
    let parts = c.args.parts.now in
    let far = c.if-file_len-gt-MAX_LEN.true in
    let whole = whole_end parts c.args.places.items c.index.result.now some c.requires.least c.index.ensures in
    too_long_at parts (length parts - 1) c.args.places.items c.requires.least (omega arith) (omega arith)

pub returns-clause-ok : goal.returns-clause-ok
returns-clause-ok c =
    let some = c.requires.some in
    let parts = c.args.parts.now in
    let near = c.if-file_len-gt-MAX_LEN.false in
    record {
      least = c.requires.least;
      file_len = whole_end parts c.args.places.items c.index.result.now some c.requires.least c.index.ensures;
      short = omega arith;
    }
