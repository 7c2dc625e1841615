-- The files of a link in another order. A file of the one order is at another position in the other one.
use Rattle.std.specs.Prelude.{◌≡◌, ◌<◌, ◌⊎◌, ℕ, zero, suc, List, length, Option, None, Some}
use Rattle.elf_link_files.specs.Files.{IsComdat, IsStrong, IsWeak, object_at, signature}
use Rattle.elf_link_files.specs.declared.site.Site.{Site}
use Rattle.elf_link_map.specs.declared.bindings.Binding.TheVariants as bound
use Rattle.elf_link_map.specs.declared.bindings.Binding.{Binding}
use Rattle.elf_link_names.specs.declared.name_rules.Choice.TheVariants.{Strong, Common, Weak, Zero}
use Rattle.elf_link_names.specs.declared.name_rules.Choice.{Choice}
use Rattle.elf_object_type.specs.Object.{ObjectValue}

-- which one of two files is the first matters: both have a COMDAT group of one signature, or both define one name, GLOBAL or WEAK
abbrev pub Compete : List ObjectValue → ℕ → ℕ → Type 0
Compete fs e f =
    ((g h : ℕ) × IsComdat fs e g × IsComdat fs f h × (signature fs e g ≡ signature fs f h))
    ⊎ ((name : List ℕ) × (i k : ℕ) × ((IsStrong fs name e i × IsStrong fs name f k) ⊎ (IsWeak fs name e i × IsWeak fs name f k)))

-- the same files in another order: the file at f is at `to f` there, and that at g there is here at `back g`. Of two files that compete
-- the first one stays the first
pub record AreReordered (fs gs : List ObjectValue) (to back : ℕ → ℕ) : Type 0 where
  pub there : (f : ℕ) → f < length fs → (to f < length gs) × (back (to f) ≡ f) × (object_at gs (to f) ≡ object_at fs f)
  pub here : (g : ℕ) → g < length gs → (back g < length fs) × (to (back g) ≡ g)
  pub kept : (e f : ℕ) → e < f → f < length fs → Compete fs e f → to e < to f

-- the two positions from k on change places
abbrev pub swapped : ℕ → ℕ → ℕ
swapped zero zero = 1
swapped zero (suc zero) = 0
swapped zero (suc (suc f)) = suc (suc f)
swapped (suc k) zero = 0
swapped (suc k) (suc f) = suc (swapped k f)

-- what a name is bound to, by the new positions of files
abbrev pub moved : (ℕ → ℕ) → Choice → Choice
moved to (Strong file symbol) = Strong (to file) symbol
moved to (Common size align) = Common size align
moved to (Weak file symbol) = Weak (to file) symbol
moved to Zero = Zero

-- two link maps have the same binding of a name, by the positions of files in each; the address of a common may differ
abbrev pub AreOneBinding : (ℕ → ℕ) → Option Binding → Option Binding → Type 0
AreOneBinding to None None = Unit {0}
AreOneBinding to (Some (bound.Strong file symbol)) (Some (bound.Strong f s)) = (f ≡ to file) × (s ≡ symbol)
AreOneBinding to (Some (bound.Common address size align)) (Some (bound.Common a n m)) = (n ≡ size) × (m ≡ align)
AreOneBinding to (Some (bound.Weak file symbol)) (Some (bound.Weak f s)) = (f ≡ to file) × (s ≡ symbol)
AreOneBinding to (Some bound.Zero) (Some bound.Zero) = Unit {0}
AreOneBinding to one other = ⊥

-- two answers to which rule is broken first: none, or the same rule, maybe at another site
abbrev pub AreOneRule : Option (ℕ × Site) → Option (ℕ × Site) → Type 0
AreOneRule None None = Unit {0}
AreOneRule (Some fault) (Some other) = fault.0 ≡ other.0
AreOneRule None (Some other) = ⊥
AreOneRule (Some fault) None = ⊥
