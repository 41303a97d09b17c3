use Rattle.std.proofs.Common.{subst, map, [], ◌∷◌, ◌++◌, sym, arith}
use Rattle.c_syntax.specs.declared.token.Punct.TheVariants as mark
use Rattle.std.proofs.lemmas.List.{append-nil}
use Rattle.c_syntax.specs.SyntaxView.{item_of}
use Rattle.c_syntax.specs.Measures.{item_height}
use Rattle.c_syntax.specs.Derives.{DerivesItem, DerivesItems, LastItem}
use Rattle.c_cursor.specs.Takes.{Behind}
use Rattle.c_declarations.proofs.Lists.{begun, grown, height_begun, height_grown, with_comma, behind_comma, items_more}
use Rattle.c_declarations.proofs.FrontLemmas.{only_stays, leads_on, fails_on, only_on}
use Rattle.c_cursor.proofs.Refusals.{passed_on}
use Rattle.c_declarations.proofs.ListWays.{next_fails, next_leads, list_ends, no_end}
use Rattle.c_declarations.proofs.DeclarationWays.{items_ways}
use Rattle.c_cursor.proofs.TakesLemmas.{nothing, took, gone, kept, not_there, one_fewer}
use Rattle.c_declarations.proofs.declarations.items_from.Goals as goal

pub loop-parser-init : goal.loop-parser-init
loop-parser-init c = record {
  tree = begun item_of (λ all xs. Behind (λ a. DerivesItem a (item_of c.args.first.tree)) (λ v. DerivesItems v xs) all) c.new-items.ensures.items c.in_ok-add.ensures.items
      (nothing _ _ (λ front f. subst (λ v. DerivesItems v (item_of c.args.first.tree ∷ [])) (sym (append-nil front)) (LastItem f)));
  height = height_begun item_of item_height c.new-items.ensures.items c.in_ok-add.ensures.items c.requires.first_height;
  high = omega (arith, c.requires.first_height);
  room = c.requires.first_room;
  no_more = omega arith;
  leads = leads_on;
}

pub loop-parser-preserved : goal.loop-parser-preserved
loop-parser-preserved c = let comma = c.take.ensures.taken.0 c.loop-parser-test.true in record {
  tree = grown item_of (λ all xs. Behind (λ a. DerivesItem a (item_of c.args.first.tree)) (λ v. DerivesItems v xs) all) _ _ c.in_ok-add-2.ensures.items
      (with_comma (behind_comma (λ a. DerivesItem a (item_of c.args.first.tree)) _ _ (λ v. DerivesItems v (map item_of c.loop-parser.items.items ++ item_of c.in_ok-next.next.tree ∷ [])) (λ a b t p m r. items_more a b t _ _ p m r)) c.loop-parser.invariant.tree (took c.take.ensures.taken c.take.ensures.left c.loop-parser-test.true) c.in_ok-next.ensures.tree);
  height = height_grown item_of item_height _ _ c.in_ok-add-2.ensures.items c.loop-parser.invariant.height c.in_ok-next.ensures.height c.max-highest.ensures;
  high = omega (arith, c.max-highest.ensures, c.loop-parser.invariant.high);
  room = omega (arith, c.loop-parser.invariant.room, c.in_ok-next.ensures.room, c.max-highest.ensures);
  no_more = omega (arith, c.loop-parser.invariant.no_more, one_fewer (took c.take.ensures.taken c.take.ensures.left c.loop-parser-test.true), c.in_ok-next.ensures.fewer);
  leads = next_leads c.loop-parser.invariant.leads comma (no_end mark.Semicolon (λ k. cc) comma) (gone c.loop-parser.parser.cursor c.take.ensures.left c.loop-parser-test.true) (items_ways c.args.depth _) c.in_ok-next.ensures.only;
}

pub returns-in_err-next-clause-refused : goal.returns-in_err-next-clause-refused
returns-in_err-next-clause-refused c =
    let comma = c.take.ensures.taken.0 c.loop-parser-test.true in
    passed_on _ c.from_residual-in_err-next.result c.from_residual-in_err-next.ensures.1 c.in_err-next.ensures.refused
    (λ n. fails_on c.loop-parser.invariant.leads (next_fails comma (no_end mark.Semicolon (λ k. cc) comma) (gone c.loop-parser.parser.cursor c.take.ensures.left c.loop-parser-test.true) (items_ways c.args.depth _) n))

pub returns-clause-only : goal.returns-clause-only
returns-clause-only c = only_on c.loop-parser.invariant.leads (only_stays (kept c.take.ensures.left c.loop-parser-test.false) (list_ends (not_there c.take.ensures.taken c.loop-parser-test.false)))
