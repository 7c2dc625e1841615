use Rattle.std.proofs.Common.{◌≡◌, ◌∙◌, ap, List, ℕ, Option, [], map, rules}
use Rattle.std.proofs.lemmas.Result.{IfOk-weaker}
use Rattle.std.specs.Borrow.{Bor}
use Rattle.std.specs.Prelude.{unwrap_or}
use Rattle.clap.specs.Matches.{found_of}
use Rattle.clap.proofs.WalkLemmas.{raw_values-rows}
use Rattle.elf_tool_words.proofs.words.texts_at.Goals as goal

abbrev now : List (Bor (List ℕ)) → List (List ℕ)
now = map (λ (t : Bor (List ℕ)). t.now)

abbrev or_none : Option (List (List ℕ)) → List (List ℕ)
or_none texts = unwrap_or texts []

pub returns-in-Some : goal.returns-in-Some
returns-in-Some c =
    let all = ap or_none (c.in-Some.ensures ∙ raw_values-rows (found_of c.args.matches.now) c.args.id.now) in
    IfOk-weaker c.to_vec.result _ _ (λ v same. ap now (same (λ x y h. h)) ∙ all) c.to_vec.ensures.items_if_clones_equal

pub returns-in-None : goal.returns-in-None
returns-in-None c =
    let none : c.new.result.items ≡ [] = search rules in
    rw none (ap or_none (c.in-None.ensures ∙ raw_values-rows (found_of c.args.matches.now) c.args.id.now))
