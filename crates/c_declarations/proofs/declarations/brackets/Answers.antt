use Rattle.std.proofs.Common.{rules}
use Rattle.c_syntax.specs.declared.token.Punct.TheVariants as mark
use Rattle.c_syntax.specs.SyntaxView.{brackets_of}
use Rattle.c_cursor.proofs.TakesLemmas.{mark_taken}
use Rattle.c_expressions.proofs.Parts.{whole_refused, whole_unread}
use Rattle.c_declarations.proofs.DeclarationRows.{array_taken}
use Rattle.c_declarations.proofs.FrontLemmas.{first_fails, second_fails, both_lead, fails_as, leads_as, one_leads, mark_fails}
use Rattle.c_declarations.proofs.DeclarationWays.{array_ways}
use Rattle.c_declarations.proofs.declarations.brackets.Goals as goal

pub returns : goal.returns
returns c = record {
  tree = rw c.in_ok-whole.ensures.part (array_taken (brackets_of c.in_ok-length.length.tree) (mark_taken mark.OpenBracket _ _ c.in_ok-expect.ensures.taken c.in_ok-expect.ensures.left) c.in_ok-length.ensures.tree
      (mark_taken mark.CloseBracket _ _ c.in_ok-whole.ensures.taken c.in_ok-whole.ensures.left));
  only = leads_as (array_ways c.args.depth _) (both_lead (one_leads c.in_ok-expect.ensures.left) (both_lead c.in_ok-length.ensures.only (one_leads c.in_ok-whole.ensures.left)));
  refused = tt {0};
  height = search rules;
  room = search rules;
  fewer = search rules;
}

pub returns-in_err-expect : goal.returns-in_err-expect
returns-in_err-expect c = whole_unread _ c.from_residual.result c.from_residual.ensures.1 (fails_as (array_ways c.args.depth _) (first_fails (mark_fails c.in_err-expect.ensures.refused)))

pub returns-in_err-length : goal.returns-in_err-length
returns-in_err-length c =
    whole_refused _ c.from_residual-in_err-length.result c.from_residual-in_err-length.ensures.1 c.in_err-length.ensures.refused
    (λ n. fails_as (array_ways c.args.depth _) (second_fails (one_leads c.in_ok-expect.ensures.left) (first_fails n)))

pub returns-in_err-whole : goal.returns-in_err-whole
returns-in_err-whole c =
    whole_unread _ c.from_residual-in_err-whole.result c.from_residual-in_err-whole.ensures.1
    (fails_as (array_ways c.args.depth _) (second_fails (one_leads c.in_ok-expect.ensures.left) (second_fails c.in_ok-length.ensures.only (mark_fails c.in_err-whole.ensures.refused))))
