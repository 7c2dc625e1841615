-- The structs and enums of `elf_extent`, as clauses name them.
pub use Rattle.elf_extent.specs.declared.extent.Counted
pub use Rattle.elf_extent.specs.declared.extent.Extent
pub use Rattle.elf_extent.specs.declared.extent.OutOfMemory
pub use Rattle.elf_extent.specs.declared.extent.Piece
pub use Rattle.elf_extent.specs.declared.placement.PlaceFault
pub use Rattle.elf_extent.specs.declared.sorted.SortedExtents
