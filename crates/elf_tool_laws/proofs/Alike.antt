-- Files that are alike are the same objects, or the same one of them is refused first, by induction on the files. All else that is said of
-- a link is said of objects. What `rewrite` writes for a file denotes the object of that file, so the two are alike.
use Rattle.std.proofs.Common.{◌≡◌, ℕ, List, zero, suc, [], ◌∷◌, ◌++◌, inl, inr, refl, subst, sym}
use Rattle.std.specs.Prelude.{Option}
use Rattle.elf_link_field.specs.declared.rule.RelocRule.{RelocRule}
use Rattle.elf_link_files.specs.declared.fault.Options.{Options}
use Rattle.elf_link_files.specs.declared.inputs.SymbolId.{SymbolId}
use Rattle.elf_object_type.specs.Object.{ObjectValue}
use Rattle.elf_tool_check.specs.Engine.{SaysOne}
use Rattle.elf_tool_check.specs.declared.calls.Refusal.TheVariants.{File, Link, TooLong}
use Rattle.elf_tool_check.specs.declared.calls.Verdict.TheVariants.{Done, Refused}
use Rattle.elf_tool_check.specs.declared.calls.Verdict.{Verdict}
use Rattle.elf_tool_laws.specs.Alike.{IsAlike, AreAlikeFiles, AreRewritten, SayTheSame}
use Rattle.elf_tool_link.proofs.OneInput.{objects_not_refused, one_objects}
use Rattle.elf_tool_link.proofs.OneLink.{one_link}
use Rattle.elf_tool_link.proofs.OneMap.{one_map}
use Rattle.elf_tool_link.specs.Definitions.{IsFirstDefinition}
use Rattle.elf_tool_link.specs.Link.{FileRefuses, FilesLink}
use Rattle.elf_tool_link.specs.Map.{FilesRefuse, MapSays}
use Rattle.elf_tool_link.specs.ObjectFiles.{AreObjectFiles, IsFirstRefused, IsObjectFile}
use Rattle.elf_tool_link.specs.Verdicts.{IsLinkVerdict}
use Rattle.elf_tool_rewrite.specs.Rewrite.{RewriteSays}

-- ---- a file

same_object : (b : List ℕ) (o p : ObjectValue) → IsObjectFile b o → IsObjectFile b p → o ≡ p
same_object b o p is also =
    let same : o ∷ [] ≡ p ∷ [] = one_objects (b ∷ []) (o ∷ []) (p ∷ []) (is, tt) (also, tt) in
    cc

alike_object : (b c : List ℕ) (o : ObjectValue) → IsAlike b c → IsObjectFile b o → IsObjectFile c o
alike_object b c o (inl same) is = subst (λ (d : List ℕ). IsObjectFile d o) (sym same) is
alike_object b c o (inr (p, here, there)) is = subst (λ (q : ObjectValue). IsObjectFile c q) (same_object b p o here is) there

-- ---- files

pub other_way : (files others : List (List ℕ)) → AreAlikeFiles files others → AreAlikeFiles others files
other_way [] [] alike = tt
other_way [] (c ∷ others) alike = absurd alike
other_way (b ∷ files) [] alike = absurd alike
other_way (b ∷ files) (c ∷ others) (inl same, rest) = (inl (sym same), other_way files others rest)
other_way (b ∷ files) (c ∷ others) (inr (o, here, there), rest) = (inr (o, there, here), other_way files others rest)

pub alike_objects : (files others : List (List ℕ)) (fs : List ObjectValue) → AreAlikeFiles files others → AreObjectFiles files fs →
    AreObjectFiles others fs
alike_objects [] [] fs alike are = are
alike_objects [] (c ∷ others) fs alike are = absurd alike
alike_objects (b ∷ files) [] fs alike are = absurd alike
alike_objects (b ∷ files) (c ∷ others) [] alike are = absurd are
alike_objects (b ∷ files) (c ∷ others) (o ∷ fs) (here, rest) (is, are) =
    (alike_object b c o here is, alike_objects files others fs rest are)

pub alike_refused : (files others : List (List ℕ)) (f rule at : ℕ) → AreAlikeFiles files others → IsFirstRefused files f rule at →
    IsFirstRefused others f rule at
alike_refused [] others f rule at alike first = absurd first
alike_refused (b ∷ files) [] f rule at alike first = absurd alike
alike_refused (b ∷ files) (c ∷ others) zero rule at (inl same, rest) first =
    subst (λ (d : List ℕ). IsFirstRefused (d ∷ others) zero rule at) (sym same) first
alike_refused (b ∷ files) (c ∷ others) zero rule at (inr (o, here, there), rest) first =
    absurd (objects_not_refused (b ∷ []) (o ∷ []) (0, rule, at) (here, tt) first)
alike_refused (b ∷ files) (c ∷ others) (suc f) rule at (here, rest) ((o, is), later) =
    ((o, alike_object b c o here is), alike_refused files others f rule at rest later)

-- ---- what is said of their link

same_said : (Says Also : Verdict → List ℕ → Type 0) → ((v : Verdict) (s : List ℕ) → Says v s → Also v s) →
    ((v : Verdict) (s : List ℕ) → Also v s → Says v s) → SaysOne Also → SayTheSame Says Also
same_said Says Also to back one =
    record { both = λ v s. (to v s, back v s); equal = λ v w s t says also. one v w s t (to v s says) also }

map_refuses : (files others : List (List ℕ)) (v : Verdict) (s : List ℕ) → AreAlikeFiles files others → FilesRefuse files v s →
    FilesRefuse others v s
map_refuses files others Done s alike never = absurd never
map_refuses files others (Refused (File f rule at)) s alike (first, is) = (alike_refused files others f rule at alike first, is)
map_refuses files others (Refused (Link rule f index entry)) s alike never = absurd never
map_refuses files others (Refused TooLong) s alike never = absurd never

map_says : (opt : Options) (rules : Option (List RelocRule)) (files others : List (List ℕ)) (v : Verdict) (s : List ℕ) →
    AreAlikeFiles files others → MapSays opt rules files v s → MapSays opt rules others v s
map_says opt rules files others v s alike (inl (fs, are, says)) = inl (fs, alike_objects files others fs alike are, says)
map_says opt rules files others v s alike (inr refuses) = inr (map_refuses files others v s alike refuses)

pub same_map : (opt : Options) (rules : Option (List RelocRule)) (files others : List (List ℕ)) → AreAlikeFiles files others →
    SayTheSame (MapSays opt rules files) (MapSays opt rules others)
same_map opt rules files others alike =
    same_said (MapSays opt rules files) (MapSays opt rules others) (λ v s. map_says opt rules files others v s alike)
    (λ v s. map_says opt rules others files v s (other_way files others alike)) (one_map opt rules others)

link_refuses : (files others : List (List ℕ)) (v : Verdict) (s : List ℕ) → AreAlikeFiles files others → FileRefuses files v s →
    FileRefuses others v s
link_refuses files others Done s alike never = absurd never
link_refuses files others (Refused (File f rule at)) s alike (first, is) = (alike_refused files others f rule at alike first, is)
link_refuses files others (Refused (Link rule f index entry)) s alike never = absurd never
link_refuses files others (Refused TooLong) s alike never = absurd never

link_says : (opt : Options) (rules : List RelocRule) (files others : List (List ℕ)) (v : Verdict) (s : List ℕ) →
    AreAlikeFiles files others → FilesLink opt rules files v s → FilesLink opt rules others v s
link_says opt rules files others v s alike (inl (fs, are, says)) = inl (fs, alike_objects files others fs alike are, says)
link_says opt rules files others v s alike (inr refuses) = inr (link_refuses files others v s alike refuses)

pub same_link : (opt : Options) (rules : List RelocRule) (files others : List (List ℕ)) → AreAlikeFiles files others →
    SayTheSame (FilesLink opt rules files) (FilesLink opt rules others)
same_link opt rules files others alike =
    same_said (FilesLink opt rules files) (FilesLink opt rules others) (λ v s. link_says opt rules files others v s alike)
    (λ v s. link_says opt rules others files v s (other_way files others alike)) (one_link opt rules others)

pub verdict_kept : (opt : Options) (rules : Option (List RelocRule)) (files others : List (List ℕ)) (v : Verdict) →
    AreAlikeFiles files others → IsLinkVerdict opt rules files v → IsLinkVerdict opt rules others v
verdict_kept opt rules files others Done alike (fs, are, says) = (fs, alike_objects files others fs alike are, says)
verdict_kept opt rules files others (Refused (File f rule at)) alike first = alike_refused files others f rule at alike first
verdict_kept opt rules files others (Refused (Link rule f index entry)) alike (fs, are, says) =
    (fs, alike_objects files others fs alike are, says)
verdict_kept opt rules files others (Refused TooLong) alike (fs, are, says) = (fs, alike_objects files others fs alike are, says)

pub definition_kept : (files others : List (List ℕ)) (symbol : SymbolId) (found : Option SymbolId) → AreAlikeFiles files others →
    IsFirstDefinition files symbol found → IsFirstDefinition others symbol found
definition_kept files others symbol found alike (inl (fs, are, says)) = inl (fs, alike_objects files others fs alike are, says)
definition_kept files others symbol found alike (inr ((f, rule, at, first), none)) =
    inr ((f, rule, at, alike_refused files others f rule at alike first), none)

-- ---- what `rewrite` writes

written_object : (b c : List ℕ) → RewriteSays b Done c → IsAlike b c
written_object b c says = elim says [
  | inl (v, image, inl (clean, (o, denotes, file))) ↦ (
      let w = file.image.0 in
      let also = file.image.1 in
      inr (o, (v, image, clean, denotes), (w, also, file.kept w also.stands, (file.denotes w also.stands o).1 refl)))
  | inl (v, image, inr never) ↦ absurd never
  | inr never ↦ absurd never
]

pub rewritten_alike : (files rewritten : List (List ℕ)) → AreRewritten files rewritten → AreAlikeFiles files rewritten
rewritten_alike [] [] are = tt
rewritten_alike [] (c ∷ rewritten) are = absurd are
rewritten_alike (b ∷ files) [] are = absurd are
rewritten_alike (b ∷ files) (c ∷ rewritten) (inl same, rest) = (inl same, rewritten_alike files rewritten rest)
rewritten_alike (b ∷ files) (c ∷ rewritten) (inr says, rest) = (written_object b c says, rewritten_alike files rewritten rest)

unchanged : (files : List (List ℕ)) → AreRewritten files files
unchanged [] = tt
unchanged (b ∷ files) = (inl refl, unchanged files)

pub rewritten_in_place : (front rest : List (List ℕ)) (b c : List ℕ) → RewriteSays b Done c →
    AreRewritten (front ++ b ∷ rest) (front ++ c ∷ rest)
rewritten_in_place [] rest b c says = (inr says, unchanged rest)
rewritten_in_place (d ∷ front) rest b c says = (inl refl, rewritten_in_place front rest b c says)
