-- `check` tests the rules of images, of which one is broken first or none is. The other commands begin with these rules too, and what
-- `rewrite` and `link` write breaks none of them.
use Rattle.std.proofs.Common.{◌≡◌, ◌≢◌, ◌∙◌, ℕ, List, [], ◌∷◌, ◌++◌, ap₂, inl, inr, length, refl, sym}
use Rattle.std.specs.Prelude.{None, Some}
use Rattle.elf_image_rules.specs.Rules.{IsFault, rules_in}
use Rattle.elf_link_field.specs.declared.rule.RelocRule.{RelocRule}
use Rattle.elf_link_files.specs.declared.fault.Options.{Options}
use Rattle.elf_object_type.specs.Object.{ObjectValue}
use Rattle.elf_tool_check.proofs.SaysOne.{none_first, one_first}
use Rattle.elf_tool_check.specs.Check.{CheckSays}
use Rattle.elf_tool_check.specs.declared.calls.Refusal.TheVariants.{File, Link, TooLong}
use Rattle.elf_tool_check.specs.declared.calls.Verdict.TheVariants.{Done, Refused}
use Rattle.elf_tool_check.specs.declared.calls.Verdict.{Verdict}
use Rattle.elf_tool_link.specs.Link.{FilesLink}
use Rattle.elf_tool_link.specs.ObjectFiles.{AreObjectFiles, IsFirstRefused}
use Rattle.elf_tool_rewrite.specs.Rewrite.{RewriteSays}
use Rattle.elf_tool_show.specs.Show.{ShowSays}

-- one file is refused by one rule, at one offset
same_refusal : (b : List ℕ) (file rule at f r a : ℕ) → IsFault b (Some (rule, at)) → file ≡ 0 → IsFault b (Some (r, a)) → f ≡ 0 →
    Refused (File file rule at) ≡ Refused (File f r a)
same_refusal b file rule at f r a fault zero_is other also =
    ap₂ (λ (n : ℕ) (x : ℕ × ℕ). Refused (File n x.0 x.1)) (zero_is ∙ sym also) (one_first (rules_in b) (rule, at) (r, a) fault other)

-- ---- what is accepted

accepted : (b : List ℕ) (v : Verdict) (s : List ℕ) → IsFault b None → CheckSays b v s → v ≡ Done
accepted b Done s clean says = refl
accepted b (Refused (File file rule at)) s clean (fault, zero_is, line) = absurd (none_first (rules_in b) (rule, at) clean fault)
accepted b (Refused (Link rule file index entry)) s clean says = absurd says
accepted b (Refused TooLong) s clean says = absurd says

pub written_accepted : (b c s : List ℕ) (v : Verdict) → RewriteSays b Done c → CheckSays c v s → v ≡ Done
written_accepted b c s v (inl (w, image, inl (clean, (o, denotes, file)))) says = accepted c v s file.accepted says
written_accepted b c s v (inl (w, image, inr never)) says = absurd never
written_accepted b c s v (inr never) says = absurd never

pub linked_accepted : (opt : Options) (rules : List RelocRule) (files : List (List ℕ)) (b s : List ℕ) (v : Verdict) →
    FilesLink opt rules files Done b → CheckSays b v s → v ≡ Done
linked_accepted opt rules files b s v (inl (fs, are, inl (clean, (m, is, inl (sound, (fits, loads)))))) says =
    accepted b v s loads.accepted says
linked_accepted opt rules files b s v (inl (fs, are, inl (clean, (m, is, inr never)))) says = absurd never
linked_accepted opt rules files b s v (inl (fs, are, inr never)) says = absurd never
linked_accepted opt rules files b s v (inr never) says = absurd never

-- ---- what is refused

pub show_agrees : (b : List ℕ) (v w : Verdict) (s t : List ℕ) → CheckSays b v s → ShowSays b w t → v ≡ w
show_agrees b Done Done s t says also = refl
show_agrees b Done (Refused (File f r a)) s t (clean, line) (fault, also, text) = absurd (none_first (rules_in b) (r, a) clean fault)
show_agrees b (Refused (File file rule at)) Done s t (fault, zero_is, line) (tables, are, text) =
    absurd (none_first (rules_in b) (rule, at) are.image.clean fault)
show_agrees b (Refused (File file rule at)) (Refused (File f r a)) s t (fault, zero_is, line) (other, also, text) =
    same_refusal b file rule at f r a fault zero_is other also
show_agrees b (Refused (Link rule file index entry)) w s t says also = absurd says
show_agrees b (Refused TooLong) w s t says also = absurd says
show_agrees b v (Refused (Link rule file index entry)) s t says also = absurd also
show_agrees b v (Refused TooLong) s t says also = absurd also

pub rewrite_refuses : (b : List ℕ) (v w : Verdict) (s t : List ℕ) → v ≢ Done → CheckSays b v s → RewriteSays b w t → v ≡ w
rewrite_refuses b Done w s t refused says also = absurd (refused refl)
rewrite_refuses b (Refused (File file rule at)) w s t refused (fault, zero_is, line) (inl (i, image, rest)) =
    absurd (none_first (rules_in b) (rule, at) image.clean fault)
rewrite_refuses b (Refused (File file rule at)) Done s t refused says (inr never) = absurd never
rewrite_refuses b (Refused (File file rule at)) (Refused (File f r a)) s t refused (fault, zero_is, line) (inr (other, also, none)) =
    same_refusal b file rule at f r a fault zero_is other also
rewrite_refuses b (Refused (File file rule at)) (Refused (Link r f i e)) s t refused says (inr never) = absurd never
rewrite_refuses b (Refused (File file rule at)) (Refused TooLong) s t refused says (inr never) = absurd never
rewrite_refuses b (Refused (Link rule file index entry)) w s t refused says also = absurd says
rewrite_refuses b (Refused TooLong) w s t refused says also = absurd says

-- the first of several that is refused, where the files in front of it are objects
first_refused : (front files : List (List ℕ)) (fs : List ObjectValue) (b : List ℕ) (rule at : ℕ) → AreObjectFiles front fs →
    IsFault b (Some (rule, at)) → IsFirstRefused (front ++ b ∷ files) (length front) rule at
first_refused [] files fs b rule at are fault = inl fault
first_refused (c ∷ front) files [] b rule at are fault = absurd are
first_refused (c ∷ front) files (o ∷ fs) b rule at (is, are) fault = ((o, is), first_refused front files fs b rule at are fault)

pub link_refuses : (front files : List (List ℕ)) (fs : List ObjectValue) (b s : List ℕ) (file rule at : ℕ) → AreObjectFiles front fs →
    CheckSays b (Refused (File file rule at)) s → IsFirstRefused (front ++ b ∷ files) (length front) rule at
link_refuses front files fs b s file rule at are (fault, zero_is, line) = first_refused front files fs b rule at are fault
