use Rattle.std.proofs.Common.{rules, ◌≢◌, ◌<◌, [], arith}
use Rattle.std.proofs.lemmas.List.Elements.{recursion_from_All}
use Rattle.lay_lines.proofs.Blocks.{no_accesses}
use Rattle.lay_lines.proofs.block_lines.read_accesses.Goals as goal

pub returns-else-is_empty : goal.returns-else-is_empty
returns-else-is_empty c = λ all below.
    let some : c.loop-scalar.rest.now ≢ [] = search rules in
    no_accesses c.args.bytes.now c.loop-scalar.rest.now c.loop-scalar.accesses.items c.args.scalars (omega (arith, c.ranges.scalars.fits)) c.loop-scalar.invariant some c.in_default.ensures all (recursion_from_All (λ s. s < c.args.scalars) all below)
