use Rattle.lay_tree.proofs.CertifiedLeast.{certified_least}
use Rattle.lay_tree.proofs.laws.certified_answers_are_least.Goals as goal

pub returns : goal.returns
returns c = λ k seq budget lists cost log sequence some e. c.placements_close_up.ensures.least_lists seq k cost sequence (certified_least k seq budget lists cost log sequence some e)
