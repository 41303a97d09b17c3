-- Each round is one of the definition's, and behind the last one no piece is left.
use Rattle.std.proofs.Common.{◌≡◌, ◌≤◌, ◌+◌, ◌-◌, ◌*◌, ◌++◌, ◌∷◌, [], length, fold, ap, ap₂, sym, subst, ◌∙◌, arith, length-append}
use Rattle.lay_tree.specs.declared.answer.Mark.TheVariants.{Branched}
use Rattle.lay_tree.specs.declared.answer.Answer.{Answer}
use Rattle.lay_tree.specs.Tree.{root, children}
use Rattle.lay_tree.specs.Search.{rounds, search_pieces}
use Rattle.lay_search.specs.Openings.{outcome_of, answer_by}
use Rattle.lay_search.specs.Rounds.{IsBest, pieces_from, offered, Ran, round_length}
use Rattle.lay_search.proofs.Visiting.{if_ok}
use Rattle.lay_search.proofs.Rounding.{searched_by, round_best, next_round, ran_length, first_round, last_round}
use Rattle.lay_par.proofs.search.search_pieces.Goals as goal

pub loop-turn-init : goal.loop-turn-init
loop-turn-init g c = record {
  best = c.requires.start;
  count = omega (arith, ap length c.new-ends.ensures.items);
  rest = first_round c.args.registers c.args.seq.now c.args.quota c.args.start c.new-ends.result.items c.new-ends.ensures.items;
}

pub loop-turn-preserved : goal.loop-turn-preserved
loop-turn-preserved g c =
    let k = c.args.registers in
    let seq = c.args.seq.now in
    let quota = c.args.quota in
    let r = c.loop-turn.turn in
    let b = c.loop-turn.best in
    let ends = c.loop-turn.ends.items in
    let more = c.in_ok-more.more.items in
    let count : c.round_end.result - r * 4 ≡ round_length (r * 4) seq.scalars = omega (arith, c.round_end.ensures, c.scalars-pieces.ensures.scalars) in
    let ran = subst (λ n. Ran n seq quota b.arrangement (r * 4) (round_length (r * 4) seq.scalars) more) c.in_ok-root.ensures.registers (subst (λ n. Ran c.in_ok-root.root.position.registers seq quota b.arrangement (r * 4) n more) count c.in_ok-more.ensures) in
    let taken : c.take.new.self ≡ fold offered b more = c.in_ok-take.ensures ∙ ap (fold offered b) c.deref.ensures.value in
    let all : c.append.new.self.items ≡ ends ++ more = c.in_ok-append.ensures.items in
    record {
      best = subst (λ x. IsBest seq x) (sym taken) (round_best k seq quota (r * 4) (round_length (r * 4) seq.scalars) b more c.loop-turn.invariant.best ran);
      count = omega (arith, ap length all, length-append ends more, c.loop-turn.invariant.count, ran_length k seq quota b.arrangement (r * 4) (round_length (r * 4) seq.scalars) more ran);
      rest = ap₂ (λ x es. rounds k seq quota (searched_by x es) (pieces_from ((r + 1) * 4) (seq.scalars - (r + 1) * 4))) taken all ∙ next_round k seq quota r b ends more (rounds k seq quota (record { best = c.args.start.arrangement; ends = [] }) (children k seq root)) c.loop-turn.invariant.best ran c.loop-turn.invariant.rest;
    }

pub returns : goal.returns
returns g c =
    let k = c.args.registers in
    let seq = c.args.seq.now in
    let quota = c.args.quota in
    let b = c.loop-turn.best in
    let ends = c.loop-turn.ends.items in
    let le : seq.scalars ≤ c.loop-turn.turn * 4 = omega (arith, c.loop-turn-test.false, c.div_ceil-turn-end.ensures, c.scalars-pieces.ensures.scalars) in
    if_ok (λ (a : Answer). a ≡ answer_by quota b.arrangement b.cost (outcome_of (Branched ∷ []) 0 c.deref-2.result.now)) (λ a. a ≡ search_pieces k seq quota c.args.start.arrangement) c.close_search.result
    (λ a h. h ∙ ap (λ es. answer_by quota b.arrangement b.cost (outcome_of (Branched ∷ []) 0 es)) c.deref-2.ensures.value ∙ last_round k seq quota c.loop-turn.turn b ends c.args.start.arrangement c.loop-turn.invariant.best le c.loop-turn.invariant.rest) c.close_search.ensures
