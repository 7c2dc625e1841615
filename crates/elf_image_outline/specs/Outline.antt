-- An outline: the records and the parts of a file, without contents, and the image that it is of, with them.
use Rattle.std.specs.Prelude.{ℕ, Bool, true, false, if◌then◌else◌, List, [], map, replicate, ◌≡◌, ◌<◌, ◌≤◌, ◌+◌, length, take, Option, None}
use Rattle.std.specs.Prelude.{Some, Result, Ok, Err, slice_get}
use Rattle.std.specs.Io.KnownBytes.{Appends}
use Rattle.elf_field.specs.declared.ehdr.Ehdr.{Ehdr}
use Rattle.elf_field.specs.declared.phdr.Phdr.{Phdr}
use Rattle.elf_field.specs.declared.shdr.Shdr.{Shdr}
use Rattle.elf_image_outline.specs.Image.{ImageValue, IsSoundImage, PlacedPart, gap_in, gap_len, joined}
use Rattle.elf_image_outline.specs.declared.copying.CopyFault.TheVariants.{Read, Write}
use Rattle.elf_image_outline.specs.declared.copying.CopyFault.{CopyFault}
use Rattle.elf_image_outline.specs.declared.outline.Outline.TheInside.{Inside}
use Rattle.elf_image_outline.specs.declared.outline.Owner.TheVariants.{Header, ProgramTable, SectionTable, Content, Gap}
use Rattle.elf_image_outline.specs.declared.outline.Owner.{Owner}
use Rattle.elf_image_outline.specs.declared.outline.Part.{Part}
use Rattle.elf_image_rules.specs.Tables.{bytes_in, content_extent}

pub record OutlineValue : Type 0 where
  pub len : ℕ
  pub header : Ehdr
  pub sections : List Shdr
  pub segments : List Phdr
  pub parts : List Part
  -- the gaps count as zeros, whatever the file has there
  pub zeroed : Bool

-- an outline as read
abbrev pub outline_value : ℕ → Ehdr → List Shdr → List Phdr → List Part → OutlineValue
outline_value len h ss gs ps = record { len = len; header = h; sections = ss; segments = gs; parts = ps; zeroed = false }

-- a part with its own bytes: a gap's are the file's, or zeros
abbrev pub placed_part : Bool → List ℕ → Part → PlacedPart
placed_part zeroed file p = record { part = p; gap = if zeroed then replicate (gap_len p) 0 else gap_in file p }

-- the image of an outline, with the contents and the file that the gaps' bytes are in
abbrev pub image_of : OutlineValue → List (List ℕ) → List ℕ → ImageValue
image_of o contents file = record {
  len = o.len;
  header = o.header;
  sections = o.sections;
  segments = o.segments;
  contents = contents;
  parts = map (placed_part o.zeroed file) o.parts;
}

-- the contents of an outline's sections in the bytes of a file
abbrev pub contents_in : OutlineValue → List ℕ → List (List ℕ)
contents_in o b = map (λ s. bytes_in b (content_extent s)) o.sections

-- the image of an outline, with the contents and the gaps that the bytes of a file have
abbrev pub image_in : OutlineValue → List ℕ → ImageValue
image_in o b = image_of o (contents_in o b) b

-- the outline is of these bytes: with their contents and gaps it is an image, edited or as read
abbrev pub IsOutlineOf : OutlineValue → List ℕ → Type 0
IsOutlineOf o b = IsSoundImage (image_in o b)

-- the bytes that represent that image
abbrev pub bytes_of_outline : OutlineValue → List ℕ → List ℕ
bytes_of_outline o b = joined (image_in o b)

-- the image of an outline with zeros for contents and gaps: what an outline says by itself
abbrev pub blank_image : OutlineValue → ImageValue
blank_image o = image_of (record o { zeroed = true }) (map (λ s. replicate (content_extent s).len 0) o.sections) []

-- an outline by itself, with no byte list in it
abbrev pub IsSoundOutline : OutlineValue → Type 0
IsSoundOutline o = IsSoundImage (blank_image o)

-- What contracts see of an outline.

abbrev pub outline_view : Inside → OutlineValue
outline_view a = record {
  len = a.len;
  header = a.header;
  sections = a.sections.items;
  segments = a.segments.items;
  parts = a.parts.items;
  zeroed = a.zeroed;
}

-- What a copy from a source onto a writer returns, and what was written then.

-- how many bytes are written
abbrev pub bytes_out : CopyFault → ℕ
bytes_out (Read at written) = written
bytes_out (Write written) = written

-- the same fault after so many other bytes
abbrev pub later : ℕ → CopyFault → CopyFault
later before (Read at written) = Read at (before + written)
later before (Write written) = Write (before + written)

-- so many bytes were written; and if the source reports its bytes b, exactly these of b
pub record CopiedOut (content old new : Option (List ℕ)) (count : ℕ) (bytes : List ℕ → List ℕ) : Type 0 where
  pub out : List ℕ
  pub many : length out ≡ count
  pub appends : Appends old new out
  pub are : (b : List ℕ) → content ≡ Some b → out ≡ bytes b

-- all of the bytes were written, or exactly the first `written` of them, fewer than all
abbrev pub Copies : Option (List ℕ) → Option (List ℕ) → Option (List ℕ) → ℕ → (List ℕ → List ℕ) → Result (Unit {0}) CopyFault → Type 0
Copies content old new len bytes (Ok u) = CopiedOut content old new len bytes
Copies content old new len bytes (Err fault) =
    (bytes_out fault < len) × CopiedOut content old new (bytes_out fault) (λ b. take (bytes_out fault) (bytes b))

-- the offset of a failed read that is returned; None for any other result
abbrev pub copy_failure : Result (Unit {0}) CopyFault → Option ℕ
copy_failure (Ok u) = None
copy_failure (Err (Write written)) = None
copy_failure (Err (Read at written)) = Some at

-- a read of len bytes from start on failed at one of them, in the block after those that are written
abbrev pub ReadsAfter : ℕ → ℕ → ℕ → Result (Unit {0}) CopyFault → Type 0
ReadsAfter block start len (Ok u) = Unit
ReadsAfter block start len (Err (Write written)) = Unit
ReadsAfter block start len (Err (Read at written)) = (start + written ≤ at) × (at < start + written + block) × (at < start + len)

-- the bytes of a part are the source's: those of a content, and those of a gap where gaps don't count as zeros
abbrev pub IsOfSource : Bool → Owner → Type 0
IsOfSource zeroed Header = ⊥
IsOfSource zeroed ProgramTable = ⊥
IsOfSource zeroed SectionTable = ⊥
IsOfSource zeroed (Content i) = Unit
IsOfSource zeroed Gap = zeroed ≡ false

-- a read failed only where the part's bytes are the source's
abbrev pub ReadsPart : Bool → Owner → Result (Unit {0}) CopyFault → Type 0
ReadsPart zeroed owner (Ok u) = Unit
ReadsPart zeroed owner (Err (Write written)) = Unit
ReadsPart zeroed owner (Err (Read at written)) = IsOfSource zeroed owner

-- only at a byte of such a part
abbrev pub ReadsOfSource : OutlineValue → Result (Unit {0}) CopyFault → Type 0
ReadsOfSource o (Ok u) = Unit
ReadsOfSource o (Err (Write written)) = Unit
ReadsOfSource o (Err (Read at written)) =
    (k : ℕ) × (p : Part) × (slice_get o.parts k ≡ Some p) × IsOfSource o.zeroed p.owner × (p.start ≤ at) × (at < p.start + p.len)
