-- The answers to the jobs so far.
use Rattle.std.proofs.Common.{◌≡◌, map, take}
use Rattle.lay_tree.specs.Search.{search_answer}
use Rattle.lay_par.specs.Jobs.{Job}
use Rattle.lay_par.proofs.search.search_all.Given as goal

abbrev pub invariant-loop-job : goal.invariant-loop-job
invariant-loop-job g l = l.answers.items ≡ map (λ (job : Job). search_answer job.registers job.sequence job.budget) (take l.job-index l.jobs)
