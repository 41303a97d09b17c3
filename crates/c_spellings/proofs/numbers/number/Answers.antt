use Rattle.c_spellings.proofs.NumberLemmas.{is_number, no_number}
use Rattle.c_spellings.proofs.numbers.number.Goals as goal

pub returns-in_default : goal.returns-in_default
returns-in_default c = no_number c.args.text.now c.without_suffix-unsigned_mark.result.0.now c.without_prefix-radix.result.0.now c.without_suffix-unsigned_mark.result.1 c.without_prefix-radix.result.1 c.without_suffix-unsigned_mark.ensures c.without_prefix-radix.ensures c.in_default.ensures

pub returns : goal.returns
returns c = is_number c.args.text.now c.without_suffix-unsigned_mark.result.0.now c.without_prefix-radix.result.0.now c.without_suffix-unsigned_mark.result.1 c.without_prefix-radix.result.1 c.in-Some.value c.without_suffix-unsigned_mark.ensures c.without_prefix-radix.ensures c.in-Some.ensures.0 c.in-Some.ensures.1
