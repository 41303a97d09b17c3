use Rattle.std.proofs.lemmas.Result.{IfOk-weaker}
use Rattle.c_expressions.proofs.Given.{given_unread}
use Rattle.c_expressions.proofs.Rows.{step_behind}
use Rattle.c_cursor.proofs.Refusals.{memory_alone}
use Rattle.c_expressions.proofs.OperandsRefuse.{step_too_high}
use Rattle.c_expressions.proofs.parser.Parser.stepped.Goals as goal

pub returns : goal.returns
returns c = record {
  parsed = IfOk-weaker c.stepped_after.result _ _
      (λ p n. rw c.skip.ensures.behind (step_behind c.args.depth c.args.left c.args.self.now.cursor c.requires.left c.in_ok-allow.ensures.low c.args.up p c.requires.step n)) c.stepped_after.ensures.node;
  refused = memory_alone _ c.stepped_after.result c.stepped_after.ensures.memory;
}

pub returns-in_err-allow : goal.returns-in_err-allow
returns-in_err-allow c = given_unread _ c.from_residual.result c.from_residual.ensures.1 (step_too_high c.args.depth c.args.left c.args.self.now.cursor c.args.up c.requires.left c.requires.step c.in_err-allow.ensures.refused)
