use Rattle.std.proofs.lemmas.Result.{IfOk-weaker}
use Rattle.c_expressions.proofs.Firsts.{constant_read}
use Rattle.c_cursor.proofs.Refusals.{memory_alone}
use Rattle.c_expressions.proofs.parser.Parser.constant.Goals as goal

pub returns : goal.returns
returns c = record {
  parsed = IfOk-weaker c.node.result _ _
      (λ p n. constant_read _ _ c.in-Some.kind.now c.in-Some-constant_of.constant c.place-at.result p c.skip.ensures.behind c.in-Some.ensures c.in-Some-constant_of.ensures c.place-at.ensures n) c.node.ensures.node;
  refused = memory_alone _ c.node.result c.node.ensures.memory;
}
