use Rattle.elf_link_field.proofs.Patched.{is_patched}
use Rattle.elf_link_field.proofs.laws.patched_field.Goals as goal

pub returns : goal.returns
returns g = is_patched
