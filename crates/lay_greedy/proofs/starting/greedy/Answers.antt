-- The best of three.
use Rattle.std.proofs.Common.{◌≡◌, sym, subst, ◌∙◌}
use Rattle.lay_cost.specs.Cost.{IsArranged}
use Rattle.lay_tree.specs.Greedy.{starting_lists}
use Rattle.lay_tree.proofs.StartLists.{start_arranged}
use Rattle.lay_greedy.proofs.Starts.{starts_without, best_of_three}
use Rattle.lay_greedy.proofs.starting.greedy.Goals as goal

pub returns-then-scalars-eq0-clause-lists : goal.returns-then-scalars-eq0-clause-lists
returns-then-scalars-eq0-clause-lists c =
    c.in_ok-spread.ensures.lists ∙ starts_without c.args.registers c.args.seq.now c.scalars.ensures.sequence (sym c.scalars.ensures.scalars ∙ c.if-scalars-eq0.true)

pub returns-then-scalars-eq0-clause-arranged : goal.returns-then-scalars-eq0-clause-arranged
returns-then-scalars-eq0-clause-arranged c =
    let k = c.args.registers in
    let seq = c.args.seq.now in
    let is : c.in_ok-spread.spread ≡ starting_lists k seq = c.in_ok-spread.ensures.lists ∙ starts_without k seq c.scalars.ensures.sequence (sym c.scalars.ensures.scalars ∙ c.if-scalars-eq0.true)
    in subst (λ lists. IsArranged seq k lists) (sym is) (start_arranged k seq c.scalars.ensures.sequence c.requires)

pub returns-clause-lists : goal.returns-clause-lists
returns-clause-lists c =
    best_of_three c.args.registers c.args.seq.now c.in_ok-spread.spread c.in_ok-greedy_layout.field-0 c.in_ok-rising_layout.field-0 c.cheaper-best.result c.cheaper.result c.in_ok-spread.ensures.lists c.in_ok-greedy_layout.ensures.lists c.in_ok-rising_layout.ensures.lists c.cheaper-best.ensures c.cheaper.ensures

pub returns-clause-arranged : goal.returns-clause-arranged
returns-clause-arranged c =
    let k = c.args.registers in
    let seq = c.args.seq.now in
    let is : c.cheaper.result ≡ starting_lists k seq = best_of_three k seq c.in_ok-spread.spread c.in_ok-greedy_layout.field-0 c.in_ok-rising_layout.field-0 c.cheaper-best.result c.cheaper.result c.in_ok-spread.ensures.lists c.in_ok-greedy_layout.ensures.lists c.in_ok-rising_layout.ensures.lists c.cheaper-best.ensures c.cheaper.ensures
    in subst (λ lists. IsArranged seq k lists) (sym is) (start_arranged k seq c.scalars.ensures.sequence c.requires)
