use Rattle.std.proofs.Common.{rules, ◌≢◌, []}
use Rattle.lay_lines.proofs.Lists.{no_numbers, numbers_more}
use Rattle.lay_lines.proofs.list_lines.read_numbers.Goals as goal

pub loop-number-preserved : goal.loop-number-preserved
loop-number-preserved c =
    numbers_more c.args.bytes.now c.loop-number.rest.now c.in-Some.after.now c.loop-number.numbers.items c.push.new.self.items c.in-Some.number c.loop-number.invariant (search rules) c.in-Some.ensures.0 c.in-Some.ensures.1 (search rules)

pub returns-else-is_empty : goal.returns-else-is_empty
returns-else-is_empty c =
    let some : c.loop-number.rest.now ≢ [] = search rules in
    no_numbers c.args.bytes.now c.loop-number.rest.now c.loop-number.numbers.items c.loop-number.invariant some c.in_default.ensures
