-- The program's command: what its arguments may be, by clap's definitions.
use Rattle.std.specs.Prelude.{◌≡◌, ◌⊎◌, true, false, Some, List, [], ◌∷◌, codes}
use Rattle.clap.specs.declared.builder.action.ArgAction.TheVariants.{Append, SetTrue}
use Rattle.clap.specs.Simple.{App, Shape, new_rule, new_shape, with_subcommand}
use Rattle.clap.specs.Walk.{Rule, Text}

-- one file
abbrev pub file : Rule
file = record (new_rule (codes "FILE")) { required = true }

-- `NAME FILE`
abbrev pub file_command : Text → Shape
file_command name = record (new_shape name) { rules = file ∷ [] }

-- `--seek`, which may be left out
abbrev pub seek : Rule
seek = record (new_rule (codes "seek")) { long = Some (codes "seek"); action = Some SetTrue }

-- `check [--seek] FILE`
unfoldable pub check : Shape
check = record (new_shape (codes "check")) { rules = file ∷ seek ∷ [] }

unfoldable pub show : Shape
show = file_command (codes "show")

unfoldable pub rewrite : Shape
rewrite = file_command (codes "rewrite")

-- `--base B` and `--page P`
abbrev pub base : Rule
base = record (new_rule (codes "B")) { long = Some (codes "base"); required = true }

abbrev pub page : Rule
page = record (new_rule (codes "P")) { long = Some (codes "page"); required = true }

-- `--rules RULES`, which may be left out
abbrev pub rules_file : Rule
rules_file = record (new_rule (codes "RULES")) { long = Some (codes "rules") }

-- the same, which has to be given
abbrev pub needed_rules_file : Rule
needed_rules_file = record rules_file { required = true }

-- `--entry NAME`
abbrev pub entry_word : Rule
entry_word = record (new_rule (codes "NAME")) { long = Some (codes "entry"); required = true }

-- one file or more
abbrev pub files : Rule
files = record (new_rule (codes "FILE")) { required = true; action = Some Append }

-- `NAME --base B --page P`
abbrev pub placing_command : Text → Shape
placing_command name = record (new_shape name) { rules = base ∷ page ∷ [] }

-- `map --base B --page P [--rules RULES] FILE...`
unfoldable pub map_command : Shape
map_command = record (new_shape (codes "map")) { rules = base ∷ page ∷ rules_file ∷ files ∷ [] }

-- `link --base B --page P --entry NAME --rules RULES FILE...`
unfoldable pub link_command : Shape
link_command = record (new_shape (codes "link")) { rules = base ∷ page ∷ entry_word ∷ needed_rules_file ∷ files ∷ [] }

-- `elfmap COMMAND ..`; it has no subcommand `help`
unfoldable pub elfmap : App
elfmap = record {
  top = record (new_shape (codes "elfmap")) {
    subcommand_required = true;
    disable_help_subcommand = true;
    is_leaf = false;
  };
  subs = check ∷ show ∷ rewrite ∷ map_command ∷ link_command ∷ [];
}

-- with the commands of one file
abbrev pub with_file_commands : App → App
with_file_commands app = with_subcommand (with_subcommand (with_subcommand app check) show) rewrite

-- the name of one of the commands
abbrev pub IsNameIn : Text → List Shape → Type 0
IsNameIn name [] = ⊥
IsNameIn name (shape ∷ rest) = (name ≡ shape.name) ⊎ IsNameIn name rest
