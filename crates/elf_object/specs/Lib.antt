-- The definitions in the contracts that this public crate shows, for the contracts of those who build on it.
pub mod Types
pub use Rattle.elf_object_edit.specs.Retain
pub use Rattle.elf_object_edit.specs.Without
pub use Rattle.elf_object_file.specs.ObjectFile
pub use Rattle.elf_object_layout.specs.Laid
pub use Rattle.elf_object_layout.specs.SectionsLeftOut
pub use Rattle.elf_object_layout.specs.StringTables
pub use Rattle.elf_object_reader.specs.Denotes
pub use Rattle.elf_object_reader.specs.FileRules
pub use Rattle.elf_object_strings.specs.StringTable
pub use Rattle.elf_object_type.specs.Left
pub use Rattle.elf_object_type.specs.ObjectRules
pub use Rattle.elf_object_type.specs.Object
pub use Rattle.elf_object_type.specs.ObjectView
pub use Rattle.elf_object_writer.specs.PlacedObject
