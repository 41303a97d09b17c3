-- The root's mark is read before those of what is below it.
use Rattle.std.proofs.Common.{[], ◌∷◌, ◌+◌, length, ap, ap₂, sym, subst, ◌∙◌}
use Rattle.std.specs.Prelude.{MatchResult}
use Rattle.lay_tree.specs.Tree.{root, children}
use Rattle.lay_node.specs.Numbers.{kept_in}
use Rattle.lay_node.specs.declared.position.Position.{Position}
use Rattle.lay_node.specs.Positions.{here}
use Rattle.lay_node.proofs.Walking.{incomplete_of}
use Rattle.lay_replay.specs.Walks.{Reads, Fits, Fails}
use Rattle.lay_replay.proofs.Walked.{root_at_kept, walk_branched}
use Rattle.lay_replay.proofs.walk.Walk.visit_root.Goals as goal

pub expand-requires-clause-kept : goal.expand-requires-clause-kept
expand-requires-clause-kept c =
    let place = c.read.ensures.place in
    let at_root = ap here place ∙ c.requires.root in
    c.requires.kept ∙ ap₂ (λ r n. kept_in r c.args.seq.now n) (sym (ap (λ (p : Position). p.registers) place)) (sym at_root)

pub returns-in_ok-check_branched-in-Branched : goal.returns-in_ok-check_branched-in-Branched
returns-in_ok-check_branched-in-Branched c =
    let seq = c.args.seq.now in
    let old = c.args.self.now in
    let d = c.read.new.self in
    let new = c.expand.new.self in
    let cost = c.args.cost in
    let marks = c.args.marks.now in
    let r = c.expand.result in
    let at_root = ap here c.read.ensures.place ∙ c.requires.root in
    let read = subst (λ m. Reads marks m old d) c.in-Branched.is c.in_ok-read.ensures.mark in
    let incomplete = incomplete_of old.position.registers seq root c.args.kept (root_at_kept old.position.registers seq c.args.kept c.requires.kept) c.in_ok-check_branched-in-Branched.ensures in
    let below = subst (λ n. MatchResult r (λ _. Fits (length n.closed + 1) seq cost marks (children d.position.registers seq n) d new) (λ fault. Fails seq cost marks (children d.position.registers seq n) d new fault)) at_root c.expand.ensures in
    subst (λ n. MatchResult r (λ _. Fits (length n.closed + 1) seq cost marks (root ∷ []) old new) (λ fault. Fails seq cost marks (root ∷ []) old new fault)) (sym c.requires.root) (walk_branched (length root.closed + 1) seq cost marks root old d new r read incomplete below)
