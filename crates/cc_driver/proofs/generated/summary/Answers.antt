use Rattle.std.proofs.Common.{◌≡◌, ◌∙◌, ℕ, List, [], subst}
use Rattle.std.proofs.lemmas.Result.{IfOk-weaker}
use Rattle.cc_driver.specs.Run.{Reaches}
use Rattle.cc_driver.proofs.generated.summary.Goals as goal

pub returns : goal.returns
returns c =
    let ports : c.new-ports.result ≡ [] = c.new-ports.ensures ∙ c.new.ensures.items in
    let runs = subst (λ (lines : List (ℕ × ℕ)). Reaches c.args.image.now.words lines c.args.steps c.in_ok-outcome.outcome.outs c.in_ok-outcome.outcome.stop) ports c.in_ok-outcome.ensures in
    IfOk-weaker c.gen_answer.result _ _ (λ a is. record {
      outs = c.in_ok-outcome.outcome.outs;
      stands = c.in_ok-outcome.outcome.stop;
      runs = runs;
      is = is;
    }) (rw c.functions.ensures at c.gen_answer.ensures)
