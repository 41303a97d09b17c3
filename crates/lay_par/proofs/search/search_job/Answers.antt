-- The answer to what the job says.
use Rattle.std.proofs.Common.{◌≡◌, ap, ap₂, ◌∙◌}
use Rattle.lay_tree.specs.declared.answer.Answer.{Answer}
use Rattle.lay_tree.specs.Search.{search_answer}
use Rattle.lay_search.proofs.Visiting.{if_ok}
use Rattle.lay_par.proofs.search.search_job.Goals as goal

pub returns : goal.returns
returns g c =
    let job = c.args.job.now in
    let same = ap₂ (λ k seq. search_answer k seq c.budget.result) c.registers.ensures.registers c.sequence.ensures ∙ ap (search_answer job.registers job.sequence) c.budget.ensures in
    if_ok (λ (a : Answer). a ≡ search_answer c.registers.result c.sequence.result.now c.budget.result) (λ a. a ≡ search_answer job.registers job.sequence job.budget) c.search_one.result
    (λ a h. h ∙ same) c.search_one.ensures
