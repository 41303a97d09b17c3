-- By the numbers that are kept of the root.
use Rattle.std.proofs.Common.{ap, sym, subst, ◌∙◌, arith}
use Rattle.lay_node.specs.Numbers.{needs_weights, kept_in, AreSmall}
use Rattle.lay_node.specs.Positions.{here, greatest_needed}
use Rattle.lay_node.proofs.Proper.{found_small, proper_string}
use Rattle.lay_search.proofs.Opened.{settled_some}
use Rattle.lay_search.proofs.opening.is_settled.Goals as goal

pub reaches-requires-clause-small : goal.reaches-requires-clause-small
reaches-requires-clause-small c =
    let is_root = c.in_ok-root.ensures.root in
    let seq = c.args.seq.now in
    let p = c.in_ok-root.root.position in
    let small = found_small (needs_weights seq) (greatest_needed seq p) seq (here p) is_root.place.sequence (proper_string seq.scalars p.string.items is_root.place.string) in
    subst (λ k. AreSmall k) (sym (is_root.numbers ∙ ap (kept_in p.registers seq) (sym is_root.nothing))) small

pub returns : goal.returns
returns c = settled_some c.args.registers c.args.seq.now c.args.cost c.in_ok-root.root c.reaches.result (λ e. absurd (omega (arith, e, c.scalars.ensures.scalars, c.if-scalars-eq0.false))) c.in_ok-root.ensures.registers c.in_ok-root.ensures.root c.reaches.ensures
