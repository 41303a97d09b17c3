use Rattle.std.proofs.Common.{refl, arith, rules}
use Rattle.c_cursor.proofs.TakesLemmas.{not_there, mapped, joined, mark_taken, took, kept, behind_kept}
use Rattle.c_expressions.proofs.Parts.{part_refused, part_unread}
use Rattle.c_statements.proofs.StatementRows.{no_expression}
use Rattle.c_declarations.proofs.FrontLemmas.{first_fails, second_fails, fails_as, mark_fails, fails_kept, only_kept}
use Rattle.c_statements.proofs.StatementWays.{optional_ways}
use Rattle.c_declarations.proofs.FrontMarks.{expression_too_high}
use Rattle.c_statements.proofs.statements.optional.Goals as goal

pub returns-then-take : goal.returns-then-take
returns-then-take c = record {
  tree = rw c.in_ok-empty.ensures.part (mapped (no_expression c.args.end) (took c.take.ensures.taken c.take.ensures.left c.if-take.true));
  refused = tt {0};
  height = rw c.in_ok-empty.ensures.part refl;
  room = search rules;
  fewer = search rules;
}

pub returns : goal.returns
returns c = record {
  tree = rw c.in_ok-tree.ensures.part (behind_kept (kept c.take.ensures.left c.if-take.false) (joined c.in_ok-value.ensures.tree (mark_taken c.args.end _ _ c.in_ok-expect.ensures.taken c.in_ok-expect.ensures.left)));
  refused = tt {0};
  height = rw c.in_ok-tree.ensures.part c.in_ok-value.ensures.height;
  room = search rules;
  fewer = search rules;
}

pub returns-in_err-allow : goal.returns-in_err-allow
returns-in_err-allow c = part_unread _ c.from_residual-in_err-allow.result c.from_residual-in_err-allow.ensures.1 (fails_as (optional_ways c.args.end c.args.depth _ (not_there c.take.ensures.taken c.if-take.false) c.requires.ends) (first_fails (expression_too_high (omega (arith, c.in_err-allow.ensures.refused)))))

pub returns-in_err-value : goal.returns-in_err-value
returns-in_err-value c =
    part_refused _ c.from_residual-in_err-value.result c.from_residual-in_err-value.ensures.1 c.in_err-value.ensures.refused
    (λ n. fails_as (optional_ways c.args.end c.args.depth _ (not_there c.take.ensures.taken c.if-take.false) c.requires.ends) (first_fails (fails_kept (kept c.take.ensures.left c.if-take.false) n)))

pub returns-in_err-expect : goal.returns-in_err-expect
returns-in_err-expect c =
    part_unread _ c.from_residual-in_err-expect.result c.from_residual-in_err-expect.ensures.1
    (fails_as (optional_ways c.args.end c.args.depth _ (not_there c.take.ensures.taken c.if-take.false) c.requires.ends) (second_fails (only_kept (kept c.take.ensures.left c.if-take.false) c.in_ok-value.ensures.only) (mark_fails c.in_err-expect.ensures.refused)))
