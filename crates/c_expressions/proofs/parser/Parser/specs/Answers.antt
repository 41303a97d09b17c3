use Rattle.std.proofs.Common.{sym}
use Rattle.c_expressions.proofs.Words.{NoSpec, specs_more}
use Rattle.c_expressions.proofs.parser.Parser.specs.Goals as goal

pub loop-word-init : goal.loop-word-init
loop-word-init c = rw c.new-words.ensures.items NoSpec

pub loop-word-preserved : goal.loop-word-preserved
loop-word-preserved c = rw (c.in_ok-push.ensures.items, c.skip.ensures.behind) (specs_more _ _ _ c.in-Some.word c.loop-word.invariant (sym c.in-Some.ensures))
