use Rattle.std.proofs.Common.{refl, arith, rules}
use Rattle.c_syntax.specs.Derives.{DerivesDeclarations, NoDeclaration}
use Rattle.c_syntax.specs.Measures.{declaration_height}
use Rattle.c_syntax.specs.SyntaxView.{declaration_of}
use Rattle.c_cursor.proofs.TakesLemmas.{nothing}
use Rattle.c_expressions.proofs.Parts.{any_refused, any_unread}
use Rattle.c_declarations.proofs.Lists.{grown, height_grown, with_next, declarations_more}
use Rattle.c_declarations.proofs.FrontLemmas.{first_fails, fails_as, leads_on, leads_further, fails_on, only_on}
use Rattle.c_statements.proofs.StatementTokens.{spec_stands, spec_wanting}
use Rattle.c_statements.proofs.StatementLists.{declaration_too_high, declarations_ways, declarations_end}
use Rattle.c_statements.proofs.StatementOnly.{declaration_only}
use Rattle.c_statements.proofs.statements.declarations.Goals as goal

pub loop-parser-init : goal.loop-parser-init
loop-parser-init c = record {
  tree = rw c.new-declarations.ensures.items (nothing _ _ NoDeclaration);
  height = rw c.new-declarations.ensures.items refl;
  room = omega arith;
  no_more = omega arith;
  leads = leads_on;
}

pub loop-parser-preserved : goal.loop-parser-preserved
loop-parser-preserved c = record {
  tree = grown declaration_of DerivesDeclarations _ _ c.in_ok-add.ensures.items (with_next (λ a b p r. declarations_more a b _ _ p r) c.loop-parser.invariant.tree c.in_ok-next.ensures.tree);
  height = height_grown declaration_of declaration_height _ _ c.in_ok-add.ensures.items c.loop-parser.invariant.height c.in_ok-next.ensures.height c.max-highest.ensures;
  room = omega (arith, c.loop-parser.invariant.room, c.in_ok-next.ensures.room, c.max-highest.ensures);
  no_more = omega (arith, c.loop-parser.invariant.no_more, c.in_ok-next.ensures.fewer);
  leads = leads_further c.loop-parser.invariant.leads (declarations_ways c.args.depth _ (spec_stands _ c.is_some.ensures c.spec_word.ensures c.loop-parser-test.true)) (declaration_only c.in_ok-next.ensures.tree);
}

pub returns-in_err-allow : goal.returns-in_err-allow
returns-in_err-allow c =
    any_unread _ c.from_residual.result c.from_residual.ensures.1
    (fails_on c.loop-parser.invariant.leads (fails_as (declarations_ways c.args.depth _ (spec_stands _ c.is_some.ensures c.spec_word.ensures c.loop-parser-test.true)) (first_fails (declaration_too_high (omega (arith, c.in_err-allow.ensures.refused))))))

pub returns-in_err-next : goal.returns-in_err-next
returns-in_err-next c =
    any_refused _ c.from_residual-in_err-next.result c.from_residual-in_err-next.ensures.1 c.in_err-next.ensures.refused
    (λ n. fails_on c.loop-parser.invariant.leads (fails_as (declarations_ways c.args.depth _ (spec_stands _ c.is_some.ensures c.spec_word.ensures c.loop-parser-test.true)) (first_fails n)))

pub returns : goal.returns
returns c = record {
  tree = search rules;
  only = only_on c.loop-parser.invariant.leads (declarations_end (spec_wanting _ c.is_some.ensures c.spec_word.ensures c.loop-parser-test.false));
  refused = tt {0};
  height = search rules;
  room = search rules;
  no_more = search rules;
}
