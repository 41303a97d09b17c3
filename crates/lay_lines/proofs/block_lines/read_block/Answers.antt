use Rattle.std.proofs.Common.{rules, arith}
use Rattle.lay_lines.proofs.Blocks.{no_block_without, no_block_counted}
use Rattle.lay_lines.proofs.block_lines.read_block.Goals as goal
use Rattle.lay_lines.proofs.block_lines.read_block.Goals.{then-is_empty-via-then-is_empty, then-is_empty-via-else-is_empty+then-not-is_room}

pub returns-in_default-2 : goal.returns-in_default-2
returns-in_default-2 c = no_block_without c.args.line.now c.in-Some.rest.now c.in-Some.weight c.args.scalars c.args.room c.in-Some.ensures.2 (search rules) c.in-Some.ensures.1 (rw c.in_default-2.is at c.in_ok-accesses.ensures)

pub returns-then-is_empty : goal.returns-then-is_empty
returns-then-is_empty c =
    let read = rw c.in-Some-2.is at c.in_ok-accesses.ensures in
    no_block_counted c.args.line.now c.in-Some.rest.now c.in-Some-2.accesses.items c.in-Some.weight c.args.scalars c.args.room c.in-Some.ensures.2 (search rules) c.in-Some.ensures.1 (omega (arith, c.ranges.scalars.fits)) read.0 read.1
    (λ some fits. elim c.then-is_empty.branch [ then-is_empty-via-then-is_empty w ↦ search rules | then-is_empty-via-else-is_empty+then-not-is_room w ↦ search rules ])
