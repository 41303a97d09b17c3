-- The starting layout is the answer, or the pieces make it.
use Rattle.std.proofs.Common.{◌++◌, ◌∷◌, [], ap, ◌∙◌, arith}
use Rattle.lay_node.proofs.Proper.{cost_small}
use Rattle.lay_tree.specs.declared.answer.Mark.TheVariants.{Closed}
use Rattle.lay_tree.specs.Search.{quota_of}
use Rattle.lay_search.proofs.Opened.{settled_answer, open_root, open_answer}
use Rattle.lay_search.proofs.opening.open_search.Goals as goal

pub is_settled-requires-clause-cost : goal.is_settled-requires-clause-cost
is_settled-requires-clause-cost c = omega (arith, c.cost-cost.ensures, cost_small c.args.seq.now c.in_ok-arrangement.arrangement c.scalars-pieces.ensures.sequence)

pub returns-then-branch : goal.returns-then-branch
returns-then-branch c = settled_answer c.args.registers c.args.seq.now c.args.budget c.in_ok-arrangement.arrangement c.cost-cost.result c.push.new.self.items c.in_ok-is_settled.field-0 c.in_ok-arrangement.ensures.lists c.cost-cost.ensures (c.in_ok-push.ensures.items ∙ ap (λ ms. ms ++ (Closed ∷ [])) c.new-marks.ensures.items) c.in_ok-is_settled.ensures c.if-branch.true

pub returns : goal.returns
returns c =
    let pieces = c.scalars-pieces.ensures.scalars in
    let quota = c.quota_of.ensures ∙ ap (quota_of c.args.budget) pieces in
    record {
      open_root = open_root c.args.registers c.args.seq.now c.in_ok-arrangement.arrangement c.cost-cost.result c.in_ok-is_settled.field-0 c.in_ok-arrangement.ensures.lists c.cost-cost.ensures c.in_ok-is_settled.ensures c.if-branch.false;
      start = c.in_ok-arrangement.ensures.lists;
      arranged = c.in_ok-arrangement.ensures.arranged;
      cost = c.cost-cost.ensures;
      pieces = pieces;
      quota = quota;
      answer = open_answer c.args.registers c.args.seq.now c.args.budget c.in_ok-arrangement.arrangement c.cost-cost.result c.quota_of.result c.in_ok-is_settled.field-0 c.in_ok-arrangement.ensures.lists c.cost-cost.ensures quota c.in_ok-is_settled.ensures c.if-branch.false;
    }
