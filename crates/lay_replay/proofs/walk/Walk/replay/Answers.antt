-- Behind the root and what is below it no mark is left.
use Rattle.std.proofs.Common.{◌≡◌, ◌<◌, [], ◌∷◌, ◌+◌, drop, length, get_or, ap, sym, subst, ◌∙◌}
use Rattle.std.proofs.lemmas.List.{drop_more}
use Rattle.lay_tree.specs.declared.answer.Mark.TheVariants.{Branched}
use Rattle.lay_tree.specs.Tree.{root}
use Rattle.lay_tree.specs.Replays as logs
use Rattle.lay_replay.specs.declared.verdict.Fault.TheVariants as faults
use Rattle.lay_replay.specs.LogVerdicts.{replay_at}
use Rattle.lay_replay.specs.Walks.{FitTo}
use Rattle.lay_replay.proofs.Marks.{all_fit, left_over}
use Rattle.lay_replay.proofs.Walked.{match_both}
use Rattle.lay_replay.proofs.walk.Walk.replay.Goals as goal

pub returns-clause-log : goal.returns-clause-log
returns-clause-log c =
    let seq = c.args.seq.now in
    let cost = c.args.cost in
    let marks = c.args.marks.now in
    let k = c.args.self.now.position.registers in
    let to = c.visit_root.new.self.next in
    let fit = subst (λ r. FitTo r seq cost marks (root ∷ []) 0 to) c.begin-kept.ensures.registers c.in_ok-visit_root.ensures.fit in
    match_both (λ _. drop to marks ≡ []) (λ _. logs.replay k seq cost marks ≡ logs.Fits) (λ fault. (to < length marks) × (fault ≡ faults.NoShape to)) (λ fault. logs.replay k seq cost marks ≡ replay_at fault) c.check_end.result
    (λ _ none. all_fit k seq cost marks to fit none)
    (λ fault h. left_over k seq cost marks to (get_or marks to Branched) (drop (to + 1) marks) fit (drop_more marks to Branched h.0) ∙ sym (ap replay_at h.1))
    c.check_end.ensures
