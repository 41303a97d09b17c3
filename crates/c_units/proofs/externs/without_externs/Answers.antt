use Rattle.std.proofs.Common.{◌∙◌, length, ap, arith}
use Rattle.c_units.proofs.externs.without_externs.Goals as goal

pub loop-token-preserved : goal.loop-token-preserved
loop-token-preserved c =
    let items = c.in-Some.ensures.items in
    record {
      tokens = c.in_ok-position.ensures.tokens ∙ rw items at c.loop-token.invariant.tokens;
      places = c.in_ok-position.ensures.places ∙ rw items at c.loop-token.invariant.places;
      depth = omega (arith, c.in_ok-position.ensures.depth, c.loop-token.invariant.depth, ap length items);
    }
