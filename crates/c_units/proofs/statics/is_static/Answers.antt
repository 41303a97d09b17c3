use Rattle.std.proofs.Common.{◌||◌, ◌∙◌, refl, rules, tests}
use Rattle.std.specs.List.{list_any}
use Rattle.std.proofs.lemmas.Iterator.{YieldsList-from_slice}
use Rattle.std.proofs.lemmas.Iterator.Search.{any_from_yields_List}
use Rattle.std.proofs.lemmas.List.Recursion.{same_from_clauses}
use Rattle.c_tree.specs.c_syntax.declared.syntax.SpecWord.TheVariants.{Static}
use Rattle.c_rules.specs.Typing as spec
use Rattle.c_units.proofs.statics.is_static.Goals as goal

pub returns : goal.returns
returns c =
    let ws = c.args.specs.now.words in
    any_from_yields_List (spec.same_word Static) _ _ _ c.any.ensures.ran (YieldsList-from_slice ws cc) (λ x b q k. search (rules, tests))
    ∙ same_from_clauses (list_any (spec.same_word Static)) (spec.has Static) (λ x b. spec.same_word Static x || b) refl (λ _ _. refl) (λ _ _. refl) ws
