use Rattle.std.proofs.Common.{rules}
use Rattle.c_syntax.specs.declared.token.Punct.TheVariants as mark
use Rattle.c_syntax.specs.SyntaxView.{parameters_of}
use Rattle.c_expressions.proofs.Parts.{part_refused, part_unread}
use Rattle.c_declarations.proofs.FrontLemmas.{first_fails, second_fails, fails_as, one_leads, mark_fails}
use Rattle.c_cursor.proofs.TakesLemmas.{mark_taken}
use Rattle.c_declarations.proofs.DeclarationRows.{function_taken}
use Rattle.c_parser.proofs.UnitWays.{listed_ways}
use Rattle.c_parser.proofs.units.listed.Goals as goal

pub returns-in_err-expect : goal.returns-in_err-expect
returns-in_err-expect c = part_unread _ c.from_residual.result c.from_residual.ensures.1 (fails_as (listed_ways c.args.depth _) (first_fails (mark_fails c.in_err-expect.ensures.refused)))

pub returns-in_err-params : goal.returns-in_err-params
returns-in_err-params c =
    part_refused _ c.from_residual-in_err-params.result c.from_residual-in_err-params.ensures.1 c.in_err-params.ensures.refused
    (λ n. fails_as (listed_ways c.args.depth _) (second_fails (one_leads c.in_ok-expect.ensures.left) (first_fails n)))

pub returns-in_err-whole : goal.returns-in_err-whole
returns-in_err-whole c =
    part_unread _ c.from_residual-in_err-whole.result c.from_residual-in_err-whole.ensures.1
    (fails_as (listed_ways c.args.depth _) (second_fails (one_leads c.in_ok-expect.ensures.left) (second_fails c.in_ok-params.ensures.only (mark_fails c.in_err-whole.ensures.refused))))

pub returns : goal.returns
returns c = record {
  tree = rw c.in_ok-whole.ensures.part (function_taken (parameters_of c.in_ok-params.params.tree) (mark_taken mark.OpenParen _ _ c.in_ok-expect.ensures.taken c.in_ok-expect.ensures.left) c.in_ok-params.ensures.tree
      (mark_taken mark.CloseParen _ _ c.in_ok-whole.ensures.taken c.in_ok-whole.ensures.left));
  refused = tt {0};
  height = rw c.in_ok-whole.ensures.part c.in_ok-params.ensures.height;
  room = rw c.in_ok-whole.ensures.part c.in_ok-params.ensures.room;
  fewer = search rules;
}
