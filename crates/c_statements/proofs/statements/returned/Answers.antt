use Rattle.std.proofs.Common.{rules, arith}
use Rattle.c_syntax.specs.declared.token.Keyword.TheVariants as keyword
use Rattle.c_syntax.specs.SyntaxTree.{Return}
use Rattle.c_syntax.specs.Derives.{Closed}
use Rattle.c_syntax.specs.SyntaxView.{optional_of}
use Rattle.c_cursor.proofs.TakesLemmas.{joined, word_taken, one_fewer}
use Rattle.c_statements.proofs.StatementRows.{stated, return_row}
use Rattle.c_declarations.proofs.FrontLemmas.{second_fails, fails_as, one_leads}
use Rattle.c_expressions.proofs.Parts.{part_refused}
use Rattle.c_statements.proofs.StatementWays.{return_ways}
use Rattle.c_statements.proofs.statements.returned.Goals as goal

pub returns : goal.returns
returns c =
    let w = word_taken keyword.Return c.args.parser.now.cursor _ c.in_ok-expect_keyword.ensures.taken c.in_ok-expect_keyword.ensures.left in
    record {
      tree = rw (c.over.ensures, c.into_inner.ensures) (stated Closed (Return (optional_of c.in_ok-value.value.tree.value)) (joined w c.in_ok-value.ensures.tree) (omega (arith, one_fewer w, c.in_ok-value.ensures.fewer))
          (c.place-at.ensures (omega (arith, one_fewer w))) (tt {0}) (return_row (optional_of c.in_ok-value.value.tree.value)));
      refused = tt {0};
      height = search rules;
      room = search rules;
      fewer = search rules;
    }

pub returns-in_err-value : goal.returns-in_err-value
returns-in_err-value c =
    part_refused _ c.from_residual-in_err-value.result c.from_residual-in_err-value.ensures.1 c.in_err-value.ensures.refused
    (λ n. fails_as (return_ways c.args.depth _ c.requires.begun) (second_fails (one_leads c.in_ok-expect_keyword.ensures.left) n))
