-- The objects of the files are of numbers that the code's types hold, and keep their rules: so what holds of the executable of objects
-- holds of theirs.
use Rattle.std.proofs.Common.{ℕ, List, zero, suc, [], ◌∷◌, ◌<◌, arith, length}
use Rattle.elf_exec.specs.Executable.{ExecFits, LoadsLink, IsSoundLink}
use Rattle.elf_link_field.specs.declared.rule.RelocRule.{RelocRule}
use Rattle.elf_link_files.specs.Files.{object_at}
use Rattle.elf_link_files.specs.declared.fault.Options.{Options}
use Rattle.elf_link_map.specs.LinkMap.{LinkMapValue}
use Rattle.elf_object_file.proofs.Public.{sound_object}
use Rattle.elf_object_type.specs.Object.{ObjectValue, ObjectFits}
use Rattle.elf_object_type.specs.ObjectRules.{IsObject}
use Rattle.elf_tool.specs.Laws.{IsSoundFileLink}
use Rattle.elf_tool_link.specs.ObjectFiles.{AreObjectFiles}
use Rattle.elf_exec.proofs.Public as exec

-- What files denote as objects are objects of the code: they break none of the object rules, and fit a file.

pub object_of_file : (files : List (List ℕ)) (fs : List ObjectValue) (f : ℕ) → AreObjectFiles files fs → f < length fs →
    IsObject (object_at fs f) × ObjectFits (object_at fs f)
object_of_file [] [] f are lt = absurd (omega arith)
object_of_file [] (o ∷ fs) f are lt = absurd are
object_of_file (b ∷ files) [] f are lt = absurd are
object_of_file (b ∷ files) (o ∷ fs) zero ((v, image, clean, denotes), rest) lt = sound_object v b o image clean denotes
object_of_file (b ∷ files) (o ∷ fs) (suc f) (is, rest) lt = object_of_file files fs f rest (omega arith)

sound_link : (opt : Options) (rules : List RelocRule) (files : List (List ℕ)) (fs : List ObjectValue) (m : LinkMapValue) →
    IsSoundFileLink opt rules files fs m →
    IsSoundLink fs m rules
sound_link opt rules files fs m link = record {
  objects = λ f lt. (object_of_file files fs f link.objects lt).0;
  widths = λ f lt. (object_of_file files fs f link.objects lt).1;
  map = (opt, link.map, link.linked);
  page = (let (l, plan, of) = link.map in let same = of.page in let below = link.page in omega arith);
  relocated = link.relocated;
}

pub executable : (opt : Options) (rules : List RelocRule) (files : List (List ℕ)) (fs : List ObjectValue) (m : LinkMapValue) (b : List ℕ) →
    IsSoundFileLink opt rules files fs m → ExecFits fs m rules b → LoadsLink fs m rules b
executable opt rules files fs m b link file = exec.executable fs m rules b (sound_link opt rules files fs m link) file
