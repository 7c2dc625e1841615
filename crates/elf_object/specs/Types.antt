-- The structs and enums of `elf_object`, as clauses name them.
pub use Rattle.elf_object_type.specs.declared.parts.Body
pub use Rattle.elf_object_type.specs.declared.parts.Info
pub use Rattle.elf_object_layout.specs.declared.layout.Layout
pub use Rattle.elf_object_layout.specs.declared.layout.LayoutFault
pub use Rattle.elf_object_type.specs.declared.object.Object
pub use Rattle.elf_object_type.specs.declared.object.ObjectFault
pub use Rattle.elf_object_type.specs.declared.parts.ObjectParts
pub use Rattle.elf_object_writer.specs.declared.object_writing.ObjectWriteFault
pub use Rattle.elf_object_type.specs.declared.parts.Place
pub use Rattle.elf_object_edit.specs.declared.fault.Reference
pub use Rattle.elf_object_type.specs.declared.relocations.Relocation
pub use Rattle.elf_object_type.specs.declared.relocations.RelocationIter
pub use Rattle.elf_object_type.specs.declared.relocations.Relocations
pub use Rattle.elf_object_type.specs.declared.parts.Section
pub use Rattle.elf_object_strings.specs.declared.table.Shared
pub use Rattle.elf_object_type.specs.declared.parts.Symbol
pub use Rattle.elf_object_edit.specs.declared.fault.WithoutFault
