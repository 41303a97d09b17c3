-- One answer more.
use Rattle.std.proofs.Common.{◌++◌, ◌∷◌, [], map, take, get_or, ap, ap₂, sym, ◌∙◌}
use Rattle.std.proofs.lemmas.List.{take_more, map_push}
use Rattle.lay_tree.specs.Search.{search_answer}
use Rattle.lay_par.specs.Jobs.{Job}
use Rattle.lay_par.proofs.search.search_all.Goals as goal

pub loop-job-preserved : goal.loop-job-preserved
loop-job-preserved g c =
    let f = λ (job : Job). search_answer job.registers job.sequence job.budget in
    let jobs = c.args.jobs.now in
    let i = c.loop-job.job-index in
    let item = c.job-item.result in
    c.in_ok-push.ensures.items
    ∙ ap₂ (λ so_far a. so_far ++ (a ∷ [])) c.loop-job.invariant (c.in_ok-search_job.ensures ∙ ap f c.job-item.is)
    ∙ sym (ap (map f) (take_more jobs i item c.loop-job-test.true) ∙ map_push f (take i jobs) (get_or jobs i item))
