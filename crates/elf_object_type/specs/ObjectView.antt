-- What contracts see of an object, its sections and its symbols. A view repeats the fields that it shows, so that you can read each by
-- itself.
use Rattle.std.specs.Prelude.{◌≤◌, length, map}
use Rattle.elf_object_strings.specs.StringTable.{AreTails}
use Rattle.elf_object_type.specs.declared.object.NameEnds.{NameEnds}
use Rattle.elf_object_type.specs.declared.parts.ObjectParts.{ObjectParts}
use Rattle.elf_object_type.specs.declared.parts.Body.{Body}
use Rattle.elf_object_type.specs.declared.parts.Body.TheVariants.{Bits, NoBits, Relocs, Group}
use Rattle.elf_object_type.specs.declared.parts.Section.{Section}
use Rattle.elf_object_type.specs.declared.parts.Symbol.{Symbol}
use Rattle.elf_object_type.specs.Object.{BodyValue, bits, no_bits, relocs, group, ObjectValue, SectionValue, SymbolValue}

abbrev pub body_value : Body → BodyValue
body_value (Bits type content) = bits type content.now
body_value (NoBits size) = no_bits size
body_value (Relocs rela target entries) = relocs rela target entries
body_value (Group comdat signature members) = group comdat signature members.items

abbrev pub section_value : Section → SectionValue
section_value s = record {
  name = s.name.now;
  flags = s.flags;
  addr = s.addr;
  align = s.align;
  entsize = s.entsize;
  link = s.link;
  info = s.info;
  body = body_value s.body;
}

abbrev pub symbol_value : Symbol → SymbolValue
symbol_value s = record {
  name = s.name.now;
  info = s.info;
  other = s.other;
  place = s.place;
  value = s.value;
  size = s.size;
}

abbrev pub value_of : ObjectParts → ObjectValue
value_of p = record {
  order = p.order;
  osabi = p.osabi;
  abi = p.abi;
  machine = p.machine;
  flags = p.flags;
  sections = map section_value p.sections.items;
  symbols = map symbol_value p.symbols.items;
}

-- of two names of symbols, or of sections, with one end the longer one ends with the other
pub record HasNameEnds (o : ObjectValue) (ends : NameEnds) : Type 0 where
  pub symbols : AreTails (map (λ s. s.name) o.symbols) ends.symbols.items
  pub sections : AreTails (map (λ s. s.name) o.sections) ends.sections.items
  pub fits : length ends.sections.items ≤ length o.sections
