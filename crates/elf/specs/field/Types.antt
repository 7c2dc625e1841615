-- The structs and enums of `elf_field`, as clauses name them.
pub use Rattle.elf_field.specs.declared.dynamic.Dyn
pub use Rattle.elf_field.specs.declared.ehdr.Ehdr
pub use Rattle.elf_field.specs.declared.number.Order
pub use Rattle.elf_field.specs.declared.phdr.Phdr
pub use Rattle.elf_field.specs.declared.rel.Rel
pub use Rattle.elf_field.specs.declared.rela.Rela
pub use Rattle.elf_field.specs.declared.shdr.Shdr
pub use Rattle.elf_field.specs.declared.sym.Sym
