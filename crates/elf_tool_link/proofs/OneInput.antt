-- Files are at most one list of objects, or one of them is the first that is refused, and at most one rule of their link is broken first.
-- By induction on the files, from the same facts on one file.
use Rattle.std.proofs.Common.{◌≡◌, ℕ, List, zero, suc, [], ◌∷◌, ap, ap₂, inl, inr, refl, subst}
use Rattle.std.specs.Prelude.{None, Some}
use Rattle.elf_image_outline.specs.Image.{ImageValue}
use Rattle.elf_image_rules.specs.Rows.{FirstIn, Ruled}
use Rattle.elf_image_rules.specs.Rules.{rules_in}
use Rattle.elf_image_type.proofs.Public.{one_image}
use Rattle.elf_link_files.proofs.Public.{one_found}
use Rattle.elf_link_files.specs.Rows.{FirstAt}
use Rattle.elf_link_files.specs.declared.fault.Options.{Options}
use Rattle.elf_link_files.specs.declared.site.Site.{Site}
use Rattle.elf_link_map.proofs.Public.{one_link_fault}
use Rattle.elf_link_map.specs.LinkMap.{FirstOfLink}
use Rattle.elf_object_reader.proofs.Public.{one_object}
use Rattle.elf_object_reader.specs.Denotes.{Denotes}
use Rattle.elf_object_reader.specs.FileRules.{file_rules}
use Rattle.elf_object_type.specs.Object.{ObjectValue}
use Rattle.elf_table_symbols.specs.Sections.{sections_of}
use Rattle.elf_tool_check.proofs.SaysOne.{none_first, none_some, one_first, same_some}
use Rattle.elf_tool_link.specs.ObjectFiles.{AreObjectFiles, IsFirstRefused, IsObjectFile, IsRefusedFile}

-- At most one rule of the link is broken first, at one site, and none where no rule is broken: of rules 1 to 11, and of 12 to 16.

pub one_of_link : (opt : Options) (fs : List ObjectValue) (x y : ℕ × Site) → FirstOfLink opt fs (Some x) → FirstOfLink opt fs (Some y) →
    x ≡ y
one_of_link opt fs x y first other = same_some x y (one_link_fault opt fs (Some x) (Some y) first other)

pub none_of_link : (opt : Options) (fs : List ObjectValue) (x : ℕ × Site) → FirstOfLink opt fs None → FirstOfLink opt fs (Some x) → ⊥
none_of_link opt fs x sound first = none_some x (one_link_fault opt fs None (Some x) sound first)

pub one_among : (rules : List {1} (Ruled Site)) (x y : ℕ × Site) → FirstAt rules (Some x) → FirstAt rules (Some y) → x ≡ y
one_among rules x y first other = same_some x y (one_found rules (Some x) (Some y) first other)

pub none_among : (rules : List {1} (Ruled Site)) (x : ℕ × Site) → FirstAt rules None → FirstAt rules (Some x) → ⊥
none_among rules x sound first = none_some x (one_found rules None (Some x) sound first)

-- ---- a file

one_object_file : (b : List ℕ) (o p : ObjectValue) → IsObjectFile b o → IsObjectFile b p → o ≡ p
one_object_file b o p (v, image, clean, denotes) (w, also, sound, other) =
    one_object (sections_of v) o p denotes (subst (λ (i : ImageValue). Denotes (sections_of i) p) (one_image w v b also image) other)

one_refused_file : (b : List ℕ) (f g : ℕ × ℕ) → IsRefusedFile b f.0 f.1 → IsRefusedFile b g.0 g.1 → f ≡ g
one_refused_file b f g (inl fault) (inl other) = one_first (rules_in b) f g fault other
one_refused_file b f g (inl fault) (inr (w, image, other)) = absurd (none_first (rules_in b) f image.clean fault)
one_refused_file b f g (inr (v, image, fault)) (inl other) = absurd (none_first (rules_in b) g image.clean other)
one_refused_file b f g (inr (v, image, fault)) (inr (w, also, other)) =
    one_first (file_rules (sections_of v)) f g fault
    (subst (λ (i : ImageValue). FirstIn (file_rules (sections_of i)) (Some g)) (one_image w v b also image) other)

object_not_refused : (b : List ℕ) (o : ObjectValue) (f : ℕ × ℕ) → IsObjectFile b o → IsRefusedFile b f.0 f.1 → ⊥
object_not_refused b o f (v, image, clean, denotes) (inl fault) = none_first (rules_in b) f image.clean fault
object_not_refused b o f (v, image, clean, denotes) (inr (w, also, fault)) =
    none_first (file_rules (sections_of v)) f clean
    (subst (λ (i : ImageValue). FirstIn (file_rules (sections_of i)) (Some f)) (one_image w v b also image) fault)

-- ---- files

pub one_objects : (files : List (List ℕ)) (fs gs : List ObjectValue) → AreObjectFiles files fs → AreObjectFiles files gs → fs ≡ gs
one_objects [] [] [] are also = refl
one_objects [] [] (p ∷ gs) are also = absurd also
one_objects [] (o ∷ fs) gs are also = absurd are
one_objects (b ∷ files) [] gs are also = absurd are
one_objects (b ∷ files) (o ∷ fs) [] are also = absurd also
one_objects (b ∷ files) (o ∷ fs) (p ∷ gs) are also =
    ap₂ (λ (x : ObjectValue) (xs : List ObjectValue). x ∷ xs) (one_object_file b o p are.0 also.0) (one_objects files fs gs are.1 also.1)

-- by the file's position, the rule and the offset
pub one_refused : (files : List (List ℕ)) (x y : ℕ × ℕ × ℕ) → IsFirstRefused files x.0 x.1 x.2 → IsFirstRefused files y.0 y.1 y.2 → x ≡ y
one_refused [] x y first other = absurd first
one_refused (b ∷ files) (zero, rule, at) (zero, number, place) first other =
    ap (λ (f : ℕ × ℕ). (0, f.0, f.1)) (one_refused_file b (rule, at) (number, place) first other)
one_refused (b ∷ files) (zero, rule, at) (suc g, number, place) first ((o, is), later) = absurd (object_not_refused b o (rule, at) is first)
one_refused (b ∷ files) (suc f, rule, at) (zero, number, place) ((o, is), later) other =
    absurd (object_not_refused b o (number, place) is other)
one_refused (b ∷ files) (suc f, rule, at) (suc g, number, place) (is, first) (also, other) =
    ap (λ (x : ℕ × ℕ × ℕ). (suc x.0, x.1, x.2)) (one_refused files (f, rule, at) (g, number, place) first other)

pub objects_not_refused : (files : List (List ℕ)) (fs : List ObjectValue) (x : ℕ × ℕ × ℕ) → AreObjectFiles files fs →
    IsFirstRefused files x.0 x.1 x.2 → ⊥
objects_not_refused [] fs x are first = first
objects_not_refused (b ∷ files) [] x are first = are
objects_not_refused (b ∷ files) (o ∷ fs) (zero, rule, at) are first = object_not_refused b o (rule, at) are.0 first
objects_not_refused (b ∷ files) (o ∷ fs) (suc f, rule, at) are first = objects_not_refused files fs (f, rule, at) are.1 first.1
