use Rattle.c_expressions.specs.Parses.{NoneOpened}
use Rattle.c_expressions.proofs.parser.Parser.open_parentheses.Goals as goal

pub loop-self-init : goal.loop-self-init
loop-self-init c = rw c.new-places.ensures.items NoneOpened
