use Rattle.cc_check.proofs.Meanings.{optimal_in}
use Rattle.cc_check.proofs.laws.optimal_means.Goals as goal

pub returns : goal.returns
returns c = λ image f cost frame sequence e. optimal_in image f cost (λ yes. c.yes_means_least.ensures.least f frame sequence yes) e
