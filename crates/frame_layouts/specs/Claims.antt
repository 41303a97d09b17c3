-- What the frame of a function has of a search, and what it claims (docs/LAYOUT.md, "Search"; docs/FORMATS.md, "Certificates").
use Rattle.std.specs.Prelude.{◌≡◌, ℕ, List}
use Rattle.lay_tree.specs.declared.answer.Mark.{Mark}
use Rattle.lay_tree.specs.declared.answer.Answer.{Answer}
use Rattle.lay_tree.specs.declared.answer.Answer.TheVariants.{Certified, Exhausted}
use Rattle.lay_tree.specs.Search.{search_answer, answer_lists, answer_cost}
use Rattle.lay_cert.specs.declared.certificate.Claim.{Claim}
use Rattle.lay_cert.specs.declared.certificate.Claim.TheVariants.{Optimal, Best}
use Rattle.lay_cert.specs.Frames.{Frame}
use Rattle.lay_cost.specs.Cost.{arranged_cost, Least}
use Rattle.lay_tree.specs.Replays.{Replays}
use Rattle.frame_layouts.specs.declared.options.Options.{Options}

-- what an answer claims, and the log that shows it
abbrev pub claim_of : Answer → Claim
claim_of (Certified lists cost log) = Optimal
claim_of (Exhausted lists cost piece quota log) = Best piece quota

abbrev pub log_of : Answer → List Mark
log_of (Certified lists cost log) = log
log_of (Exhausted lists cost piece quota log) = log

-- a frame is what the search answers for its sequence, as is chosen
pub record IsFound (o : Options) (f : Frame) : Type 0 where
  pub registers : f.registers ≡ o.registers
  pub layout : f.arr ≡ answer_lists (search_answer o.registers f.seq o.budget)
  pub cost : f.cost ≡ answer_cost (search_answer o.registers f.seq o.budget)
  pub claim : f.claim ≡ claim_of (search_answer o.registers f.seq o.budget)
  pub log : f.log ≡ log_of (search_answer o.registers f.seq o.budget)

-- a frame costs what it says. Where it is claimed to be optimal, its log shows that no layout costs less
pub record ClaimsHold (f : Frame) : Type 0 where
  pub cost : f.cost ≡ arranged_cost f.seq f.arr
  pub log : f.claim ≡ Optimal → Replays f.registers f.seq f.cost f.log
  pub least : f.claim ≡ Optimal → Least f.seq f.registers f.cost
