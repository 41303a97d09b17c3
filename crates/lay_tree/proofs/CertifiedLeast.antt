-- A certified answer costs least.
use Rattle.std.proofs.Common.{◌≡◌, ◌≤◌, ◌∙◌, ℕ, List, ap, sym, subst}
use Rattle.lay_model.specs.Sequences.{Sequence, IsSequence}
use Rattle.lay_cost.specs.Cost.{arranged_cost, IsArranged, LeastArranged}
use Rattle.lay_tree.specs.declared.answer.Mark.{Mark}
use Rattle.lay_tree.specs.declared.answer.Answer.TheVariants.{Certified}
use Rattle.lay_tree.specs.Replays.{Replays}
use Rattle.lay_tree.specs.Search.{search_answer, answer_lists, answer_cost}
use Rattle.lay_tree.proofs.AnswerLemmas.{certified_replays, says_cost}
use Rattle.lay_tree.proofs.AnswerLists.{answer_arranged}
use Rattle.lay_tree.proofs.Least.{no_arrangement_below}

pub none_costs_less : (k : ℕ) (seq : Sequence) (c : ℕ) (marks : List Mark) (lists : List (List ℕ)) → IsSequence seq → Replays k seq c marks → IsArranged seq k lists → c ≤ arranged_cost seq lists
none_costs_less k seq c marks lists sequence replays arranged = no_arrangement_below k seq c marks lists sequence replays arranged.arranges arranged.few

pub shown_least : (k : ℕ) (seq : Sequence) (c : ℕ) (marks : List Mark) (lists : List (List ℕ)) → IsSequence seq → Replays k seq c marks → IsArranged seq k lists → arranged_cost seq lists ≡ c → LeastArranged seq k c
shown_least k seq c marks lists sequence replays arranged costs = record { lists = lists; arranged = arranged; costs = costs; least = λ others. none_costs_less k seq c marks others sequence replays }

pub certified_least : (k : ℕ) (seq : Sequence) (budget : ℕ) (lists : List (List ℕ)) (cost : ℕ) (log : List Mark) → IsSequence seq → 1 ≤ k → search_answer k seq budget ≡ Certified lists cost log → LeastArranged seq k cost
certified_least k seq budget lists cost log sequence some e =
    let same : answer_lists (search_answer k seq budget) ≡ lists = ap answer_lists e in
    let says : answer_cost (search_answer k seq budget) ≡ cost = ap answer_cost e
    in shown_least k seq cost log lists sequence (certified_replays k seq budget lists cost log sequence e) (subst (λ ls. IsArranged seq k ls) same (answer_arranged k seq budget sequence some)) (ap (arranged_cost seq) (sym same) ∙ sym (says_cost k seq budget) ∙ says)
