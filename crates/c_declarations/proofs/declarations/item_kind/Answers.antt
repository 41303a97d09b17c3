use Rattle.std.proofs.Common.{sym, ap, ◌∙◌, rules}
use Rattle.c_syntax.specs.declared.token.Punct.TheVariants as mark
use Rattle.c_syntax.specs.SyntaxView.{parameters_of}
use Rattle.c_syntax.specs.Derives.{PlainRule, ArrayFormRule}
use Rattle.c_cursor.specs.Front.{mark_at}
use Rattle.c_expressions.proofs.Parts.{any_refused, any_unread}
use Rattle.c_declarations.proofs.DeclarationRows.{function_taken}
use Rattle.c_declarations.proofs.FrontLemmas.{first_fails, second_fails, both_lead, fails_as, leads_as, one_leads, mark_fails, fails_kept, only_kept}
use Rattle.c_declarations.proofs.DeclarationWays.{paren_ways, bracket_ways, plain_leads}
use Rattle.c_cursor.proofs.TakesLemmas.{mapped, mark_taken, took, gone, kept, not_there, untaken, behind_kept}
use Rattle.c_declarations.proofs.declarations.item_kind.Goals as goal

pub returns-then-take : goal.returns-then-take
returns-then-take c = record {
  tree = function_taken (parameters_of c.in_ok-params.params.tree) (took c.take.ensures.taken c.take.ensures.left c.if-take.true) c.in_ok-params.ensures.tree
      (mark_taken mark.CloseParen _ _ c.in_ok-expect.ensures.taken c.in_ok-expect.ensures.left);
  only = leads_as (paren_ways c.args.depth _ (c.take.ensures.taken.0 c.if-take.true)) (both_lead (one_leads (gone c.args.parser.now.cursor c.take.ensures.left c.if-take.true)) (both_lead c.in_ok-params.ensures.only (one_leads c.in_ok-expect.ensures.left)));
  refused = tt {0};
  height = search rules;
  room = search rules;
  no_more = search rules;
}

pub returns-then-stands : goal.returns-then-stands
returns-then-stands c = record {
  tree = behind_kept (kept c.take.ensures.left c.if-take.false) (mapped (λ a r. ArrayFormRule r) c.in_ok-brackets.ensures.tree);
  only = only_kept (kept c.take.ensures.left c.if-take.false) (leads_as (bracket_ways c.args.depth _ (c.stands.ensures.0 c.if-stands.true)) c.in_ok-brackets.ensures.only);
  refused = tt {0};
  height = search rules;
  room = search rules;
  no_more = search rules;
}

pub returns : goal.returns
returns c = record {
  tree = untaken _ (kept c.take.ensures.left c.if-take.false) PlainRule;
  only = let same = kept c.take.ensures.left c.if-take.false in
      only_kept same (plain_leads (λ e. not_there c.take.ensures.taken c.if-take.false (sym (ap mark_at same) ∙ e)) (not_there c.stands.ensures c.if-stands.false));
  refused = tt {0};
  height = search rules;
  room = search rules;
  no_more = search rules;
}

pub returns-in_err-params : goal.returns-in_err-params
returns-in_err-params c =
    any_refused _ c.from_residual.result c.from_residual.ensures.1 c.in_err-params.ensures.refused
    (λ n. fails_as (paren_ways c.args.depth _ (c.take.ensures.taken.0 c.if-take.true)) (second_fails (one_leads (gone c.args.parser.now.cursor c.take.ensures.left c.if-take.true)) (first_fails n)))

pub returns-in_err-expect : goal.returns-in_err-expect
returns-in_err-expect c =
    any_unread _ c.from_residual-in_err-expect.result c.from_residual-in_err-expect.ensures.1
    (fails_as (paren_ways c.args.depth _ (c.take.ensures.taken.0 c.if-take.true)) (second_fails (one_leads (gone c.args.parser.now.cursor c.take.ensures.left c.if-take.true)) (second_fails c.in_ok-params.ensures.only (mark_fails c.in_err-expect.ensures.refused))))

pub returns-in_err-brackets : goal.returns-in_err-brackets
returns-in_err-brackets c =
    any_refused _ c.from_residual-in_err-brackets.result c.from_residual-in_err-brackets.ensures.1 c.in_err-brackets.ensures.refused
    (λ n. fails_kept (kept c.take.ensures.left c.if-take.false) (fails_as (bracket_ways c.args.depth _ (c.stands.ensures.0 c.if-stands.true)) n))
