use Rattle.std.proofs.Common.{List, ℕ, subst}
use Rattle.elf_image_type.proofs.Public.{one_list}
use Rattle.elf_image_type.specs.ImageView.{LoadsFirst}
use Rattle.elf_exec.proofs.laws.prove_loaded.Goals as goal

pub returns : goal.returns
returns c =
    let image = c.requires.image in
    let (m, of, executable) = c.requires.executable in
    let (b, same, loads) = c.requires.found in
    let here = subst (λ (bytes : List ℕ). LoadsFirst bytes c.args.image.now.segments c.args.address c.args.found)
    (one_list c.args.image.now b c.args.file.now same image.stands) loads in
    (m, of, executable.load c.args.image.now image.stands c.args.address c.args.found here)
