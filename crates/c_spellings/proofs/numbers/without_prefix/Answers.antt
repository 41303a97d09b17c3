use Rattle.c_spellings.proofs.NumberLemmas.{lower_x, upper_x, zero_first}
use Rattle.c_spellings.proofs.numbers.without_prefix.Goals as goal

pub returns-in-Some : goal.returns-in-Some
returns-in-Some c = lower_x c.args.text.now c.in-Some.digits.now c.in-Some.ensures

pub returns-in-Some-behind : goal.returns-in-Some-behind
returns-in-Some-behind c = upper_x c.args.text.now c.in-Some-behind.digits.now c.in-Some-behind.ensures

pub returns-in-Some-behind-2 : goal.returns-in-Some-behind-2
returns-in-Some-behind-2 c = zero_first c.args.text.now c.in-Some-behind-2.field-0.now c.in-Some-behind-2.ensures c.in_default.ensures c.in_default-behind.ensures
