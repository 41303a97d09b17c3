use Rattle.std.proofs.Common.{rules, arith}
use Rattle.c_syntax.specs.declared.token.Punct.TheVariants as mark
use Rattle.c_syntax.specs.SyntaxTree.{Evaluate}
use Rattle.c_syntax.specs.Derives.{Closed}
use Rattle.c_syntax.specs.SyntaxView.{expression_of}
use Rattle.c_cursor.proofs.TakesLemmas.{joined, mark_taken, one_fewer}
use Rattle.c_statements.proofs.StatementRows.{stated, evaluate_row}
use Rattle.c_declarations.proofs.FrontLemmas.{first_fails, second_fails, fails_as, mark_fails}
use Rattle.c_expressions.proofs.Parts.{part_refused, part_unread}
use Rattle.c_statements.proofs.StatementWays.{evaluate_ways}
use Rattle.c_declarations.proofs.FrontMarks.{expression_too_high}
use Rattle.c_statements.proofs.statements.evaluated.Goals as goal

pub returns : goal.returns
returns c =
    let m = mark_taken mark.Semicolon c.whole_expression.new.self.cursor _ c.in_ok-whole.ensures.taken c.in_ok-whole.ensures.left in
    record {
      tree = rw (c.over.ensures, c.in_ok-whole.ensures.part) (stated Closed (Evaluate (expression_of c.in_ok-value.value.tree)) (joined c.in_ok-value.ensures.tree m) (omega (arith, one_fewer m, c.in_ok-value.ensures.fewer))
          (c.place-at.ensures (omega (arith, c.in_ok-value.ensures.fewer))) (tt {0}) (evaluate_row (expression_of c.in_ok-value.value.tree)));
      refused = tt {0};
      height = rw (c.over.ensures, c.in_ok-whole.ensures.part) (omega (arith, c.in_ok-value.ensures.height));
      room = rw (c.over.ensures, c.in_ok-whole.ensures.part) (omega (arith, c.in_ok-value.ensures.room));
      fewer = search rules;
    }

pub returns-in_err-allow : goal.returns-in_err-allow
returns-in_err-allow c =
    part_unread _ c.from_residual.result c.from_residual.ensures.1 (fails_as (evaluate_ways c.args.depth _ c.requires.no_semicolon c.requires.no_brace c.requires.no_word) (first_fails (expression_too_high (omega (arith, c.in_err-allow.ensures.refused)))))

pub returns-in_err-value : goal.returns-in_err-value
returns-in_err-value c =
    part_refused _ c.from_residual-in_err-value.result c.from_residual-in_err-value.ensures.1 c.in_err-value.ensures.refused
    (λ n. fails_as (evaluate_ways c.args.depth _ c.requires.no_semicolon c.requires.no_brace c.requires.no_word) (first_fails n))

pub returns-in_err-whole : goal.returns-in_err-whole
returns-in_err-whole c =
    part_unread _ c.from_residual-in_err-whole.result c.from_residual-in_err-whole.ensures.1 (fails_as (evaluate_ways c.args.depth _ c.requires.no_semicolon c.requires.no_brace c.requires.no_word) (second_fails c.in_ok-value.ensures.only (mark_fails c.in_err-whole.ensures.refused)))

pub over-requires : goal.over-requires
over-requires c = rw c.in_ok-whole.ensures.part (omega (arith, c.in_ok-value.ensures.room))
