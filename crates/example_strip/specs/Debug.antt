-- Debug data of an object, and its file without them.
use Rattle.std.specs.Prelude.{◌||◌, ◌&&◌, ℕ, Bool, false, List, codes, nat_eq, not}
use Rattle.std.specs.List.{list_all, starts_with}
use Rattle.std.specs.Option.{option_map_or}
use Rattle.elf_image.specs.Image.{ImageValue, IsImage}
use Rattle.elf_object.specs.Denotes.{Denotes}
use Rattle.elf_object.specs.Object.{ObjectValue, SectionValue, is_group, members_of, section_at}
use Rattle.elf_object.specs.ObjectFile.{IsWrittenFile}
use Rattle.elf_object.specs.Retain.{object_retained}
use Rattle.elf_object.specs.Without.{body_target}
use Rattle.elf_table.specs.Sections.{sections_of}

-- a section's name begins with `.debug`
abbrev pub has_debug_name : SectionValue → Bool
has_debug_name s = starts_with nat_eq s.name (codes ".debug")

-- it has such a name, or relocations of a section that has
abbrev pub is_debug_data : ObjectValue → SectionValue → Bool
is_debug_data o s = has_debug_name s || option_map_or (λ target. has_debug_name (section_at o target)) (body_target s.body) false

-- or it is a group of nothing else
abbrev pub is_debug : ObjectValue → SectionValue → Bool
is_debug o s = is_debug_data o s || (is_group s.body && list_all (λ member. is_debug_data o (section_at o member)) (members_of s.body))

-- the object without its debug data
unfoldable pub without_debug : ObjectValue → ObjectValue
without_debug o = object_retained o (λ position section. not (is_debug o section))

-- the bytes b denote the object
pub record IsObjectIn (b : List ℕ) (o : ObjectValue) : Type 0 where
  pub image : ImageValue
  pub is_image : IsImage image b
  pub denotes : Denotes (sections_of image) o

-- c is the file of the object that b denotes, without its debug data
abbrev pub IsStripped : List ℕ → List ℕ → Type 0
IsStripped b c = (o : ObjectValue) × IsObjectIn b o × IsWrittenFile (without_debug o) c
