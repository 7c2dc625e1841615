-- The definitions of `elf_object`.
pub use Rattle.elf_object.specs.Denotes
pub use Rattle.elf_object.specs.FileRules
pub use Rattle.elf_object.specs.Laid
pub use Rattle.elf_object.specs.Left
pub use Rattle.elf_object.specs.Object
pub use Rattle.elf_object.specs.ObjectFile
pub use Rattle.elf_object.specs.ObjectRules
pub use Rattle.elf_object.specs.ObjectView
pub use Rattle.elf_object.specs.PlacedObject
pub use Rattle.elf_object.specs.Retain
pub use Rattle.elf_object.specs.SectionsLeftOut
pub use Rattle.elf_object.specs.StringTable
pub use Rattle.elf_object.specs.StringTables
pub use Rattle.elf_object.specs.Without
pub use Rattle.elf_object.specs.Types
