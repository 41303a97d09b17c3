use Rattle.std.proofs.Common.{arith, ◌≡◌, ◌<◌, ◌∙◌}
use Rattle.c_syntax.specs.Constants.{number_of}
use Rattle.c_lexer.proofs.CharacterLemmas.{number_below, kept_whole}
use Rattle.c_lexer.proofs.characters.escape_number.Goals as goal

small : (c : goal.In-Some) → number_of c.args.radix c.args.digits.now < 65536
small c = number_below c.args.radix c.args.most c.args.digits.now c.requires.at_least_two c.requires.fits c.in-Some.ensures.0 c.if-digits-most.false

value_is : (c : goal.In-Some) → c.in-Some.value ≡ number_of c.args.radix c.args.digits.now
value_is c = c.in-Some.ensures.1 ∙ kept_whole (number_of c.args.radix c.args.digits.now) (small c)

pub overflow_cast-result : goal.overflow_cast-result
overflow_cast-result c = omega (arith, small c, value_is c)

pub returns : goal.returns
returns c = (c.in-Some.ensures.0, c.if-digits-most.false, value_is c)
