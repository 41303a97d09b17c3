use Rattle.std.proofs.Common.{◌≡◌, ◌+◌, ◌∙◌, refl, sym, ap, rules, arith}
use Rattle.c_syntax.specs.declared.token.Keyword.TheVariants as keyword
use Rattle.c_syntax.specs.declared.token.Punct.TheVariants as mark
use Rattle.c_syntax.specs.Derives.{NoChoice}
use Rattle.c_syntax.specs.Measures.{statement_height}
use Rattle.c_cursor.proofs.TakesLemmas.{nothing, joined, mark_taken, word_taken, took, took_word, one_fewer, not_there, kept, length_kept, ok_mapped}
use Rattle.c_statements.proofs.StatementTaken.{same_taken, if_taken, if_else_taken, while_taken, for_taken, do_taken, switch_taken, block_taken, body_begun, body_ended, body_grown, body_height, parts_grown, parts_height, chosen_taken}
use Rattle.c_statements.specs.StatementRows.{tree_of}
use Rattle.c_statements.proofs.StatementHeights.{two_heights, three_heights, same_room, two_rooms, three_rooms, fewer_yet, fewer_behind, fewer_both, fewer_kept, fewer_else, fewer_switch}
use Rattle.c_declarations.proofs.FrontLemmas.{first_fails, second_fails, second_never, fails_as, leads_as, one_leads, mark_fails, fails_kept, only_kept, leads_on, leads_from, leads_further, fails_on}
use Rattle.c_expressions.proofs.Parts.{part_refused, part_unread, part_unkept, whole_refused}
use Rattle.c_cursor.proofs.Refusals.{goes_out, memory_alone}
use Rattle.c_statements.proofs.StatementWays.{while_ways, if_ways, else_fails, do_ways, for_ways, switch_ways, block_ways, tested_too_high, statement_too_high}
use Rattle.c_statements.proofs.StatementLists.{body_ways, statements_ways, parts_ways, case_ways, default_ways, chosen_ways}
use Rattle.c_statements.proofs.StatementOnly.{statement_only, for_head_only}
use Rattle.c_statements.proofs.statements.+statements.Goals as goal

pub choice-returns-then-not-takes_else : goal.choice-returns-then-not-takes_else
choice-returns-then-not-takes_else t c =
    record {
      tree = if_taken c.if_alone.ensures.tree c.place-at.ensures (word_taken keyword.If c.args.parser.now.cursor _ c.in_ok-expect_keyword.ensures.taken c.in_ok-expect_keyword.ensures.left) c.in_ok-test.ensures.tree c.in_ok-yes.ensures.tree
          c.in_ok-test.ensures.fewer c.in_ok-yes.ensures.fewer (kept c.takes_else.ensures.left c.if-not-takes_else.true) (not_there c.takes_else.ensures.taken c.if-not-takes_else.true);
      refused = tt {0};
      height = two_heights c.if_alone.ensures.tree c.if_alone.ensures.height c.in_ok-test.ensures.height c.in_ok-yes.ensures.height refl;
      room = two_rooms c.args.depth c.in_ok-test.test.height c.in_ok-yes.yes.height c.if_alone.ensures.height c.in_ok-test.ensures.room c.in_ok-yes.ensures.room;
      fewer = fewer_kept (word_taken keyword.If c.args.parser.now.cursor _ c.in_ok-expect_keyword.ensures.taken c.in_ok-expect_keyword.ensures.left) c.in_ok-test.ensures.tree c.in_ok-yes.ensures.tree (kept c.takes_else.ensures.left c.if-not-takes_else.true) c.in_ok-test.ensures.fewer c.in_ok-yes.ensures.fewer;
    }

pub choice-returns : goal.choice-returns
choice-returns t c =
    record {
      tree = if_else_taken c.if_else.ensures.tree c.place-at.ensures (word_taken keyword.If c.args.parser.now.cursor _ c.in_ok-expect_keyword.ensures.taken c.in_ok-expect_keyword.ensures.left) c.in_ok-test.ensures.tree c.in_ok-yes.ensures.tree
          (c.takes_else.ensures.taken.0 c.if-not-takes_else.false) (took_word c.takes_else.ensures.taken c.takes_else.ensures.left c.if-not-takes_else.false) c.in_ok-no.ensures.tree
          c.in_ok-test.ensures.fewer c.in_ok-yes.ensures.fewer c.in_ok-no.ensures.fewer;
      refused = tt {0};
      height = three_heights c.if_else.ensures.tree c.if_else.ensures.height c.in_ok-test.ensures.height c.in_ok-yes.ensures.height c.in_ok-no.ensures.height refl;
      room = three_rooms c.args.depth c.in_ok-test.test.height c.in_ok-yes.yes.height c.in_ok-no.no.height c.if_else.ensures.height c.in_ok-test.ensures.room c.in_ok-yes.ensures.room c.in_ok-no.ensures.room;
      fewer = fewer_else (word_taken keyword.If c.args.parser.now.cursor _ c.in_ok-expect_keyword.ensures.taken c.in_ok-expect_keyword.ensures.left) c.in_ok-test.ensures.tree c.in_ok-yes.ensures.tree (took_word c.takes_else.ensures.taken c.takes_else.ensures.left c.if-not-takes_else.false) c.in_ok-no.ensures.tree c.in_ok-test.ensures.fewer c.in_ok-yes.ensures.fewer c.in_ok-no.ensures.fewer;
    }

pub do_loop-returns : goal.do_loop-returns
do_loop-returns t c =
    record {
      tree = do_taken c.do_over.ensures.tree c.place-at.ensures (word_taken keyword.Do c.args.parser.now.cursor _ c.in_ok-expect_keyword.ensures.taken c.in_ok-expect_keyword.ensures.left) c.in_ok-body.ensures.tree c.in_ok-test.ensures.tree
          c.in_ok-body.ensures.fewer c.in_ok-test.ensures.fewer;
      refused = tt {0};
      height = two_heights c.do_over.ensures.tree c.do_over.ensures.height c.in_ok-body.ensures.height c.in_ok-test.ensures.height refl;
      room = two_rooms c.args.depth c.in_ok-body.body.height c.in_ok-test.test.height c.do_over.ensures.height c.in_ok-body.ensures.room c.in_ok-test.ensures.room;
      fewer = fewer_both (word_taken keyword.Do c.args.parser.now.cursor _ c.in_ok-expect_keyword.ensures.taken c.in_ok-expect_keyword.ensures.left) c.in_ok-body.ensures.tree c.in_ok-test.ensures.tree c.in_ok-body.ensures.fewer c.in_ok-test.ensures.fewer;
    }

pub while_loop-returns : goal.while_loop-returns
while_loop-returns t c =
    record {
      tree = while_taken c.while_over.ensures.tree c.place-at.ensures (word_taken keyword.While c.args.parser.now.cursor _ c.in_ok-expect_keyword.ensures.taken c.in_ok-expect_keyword.ensures.left) c.in_ok-test.ensures.tree c.in_ok-body.ensures.tree
          c.in_ok-test.ensures.fewer c.in_ok-body.ensures.fewer;
      refused = tt {0};
      height = two_heights c.while_over.ensures.tree c.while_over.ensures.height c.in_ok-test.ensures.height c.in_ok-body.ensures.height refl;
      room = two_rooms c.args.depth c.in_ok-test.test.height c.in_ok-body.body.height c.while_over.ensures.height c.in_ok-test.ensures.room c.in_ok-body.ensures.room;
      fewer = fewer_both (word_taken keyword.While c.args.parser.now.cursor _ c.in_ok-expect_keyword.ensures.taken c.in_ok-expect_keyword.ensures.left) c.in_ok-test.ensures.tree c.in_ok-body.ensures.tree c.in_ok-test.ensures.fewer c.in_ok-body.ensures.fewer;
    }

pub for_loop-returns : goal.for_loop-returns
for_loop-returns t c =
    record {
      tree = for_taken c.for_over.ensures.tree c.place-at.ensures c.in_ok-head.ensures.tree c.in_ok-body.ensures.tree c.in_ok-head.ensures.fewer c.in_ok-body.ensures.fewer;
      refused = tt {0};
      height = two_heights c.for_over.ensures.tree c.for_over.ensures.height c.in_ok-head.ensures.height c.in_ok-body.ensures.height refl;
      room = two_rooms c.args.depth c.in_ok-head.head.height c.in_ok-body.body.height c.for_over.ensures.height c.in_ok-head.ensures.room c.in_ok-body.ensures.room;
      fewer = fewer_yet c.in_ok-head.ensures.tree c.in_ok-body.ensures.tree c.in_ok-head.ensures.fewer c.in_ok-body.ensures.fewer;
    }

pub switch-returns : goal.switch-returns
switch-returns t c =
    record {
      tree = switch_taken c.switch_over.ensures.tree c.place-at.ensures c.place-parts_at.ensures (word_taken keyword.Switch c.args.parser.now.cursor _ c.in_ok-expect_keyword.ensures.taken c.in_ok-expect_keyword.ensures.left) c.in_ok-value.ensures.tree
          (mark_taken mark.OpenBrace c.tested.new.parser.cursor _ c.in_ok-expect.ensures.taken c.in_ok-expect.ensures.left) c.in_ok-parts.ensures.tree c.in_ok-value.ensures.fewer c.in_ok-parts.ensures.fewer;
      refused = tt {0};
      height = two_heights c.switch_over.ensures.tree (c.switch_over.ensures.height ∙ ap (λ g. 1 + g) c.max-highest.ensures) c.in_ok-value.ensures.height c.in_ok-parts.ensures.height refl;
      room = two_rooms c.args.depth c.in_ok-value.value.height c.in_ok-parts.parts.height (c.switch_over.ensures.height ∙ ap (λ g. 1 + g) c.max-highest.ensures) c.in_ok-value.ensures.room c.in_ok-parts.ensures.room;
      fewer = fewer_switch (word_taken keyword.Switch c.args.parser.now.cursor _ c.in_ok-expect_keyword.ensures.taken c.in_ok-expect_keyword.ensures.left) c.in_ok-value.ensures.tree (mark_taken mark.OpenBrace c.tested.new.parser.cursor _ c.in_ok-expect.ensures.taken c.in_ok-expect.ensures.left) c.in_ok-parts.ensures.tree c.in_ok-value.ensures.fewer c.in_ok-parts.ensures.fewer;
    }

pub inner_block-returns : goal.inner_block-returns
inner_block-returns t c =
    record {
      tree = block_taken c.block_over.ensures.tree c.place-at.ensures (mark_taken mark.OpenBrace c.args.parser.now.cursor _ c.in_ok-expect.ensures.taken c.in_ok-expect.ensures.left) c.in_ok-body.ensures.tree c.in_ok-body.ensures.fewer;
      refused = tt {0};
      height = c.block_over.ensures.height ∙ c.in_ok-body.ensures.height ∙ sym (ap statement_height c.block_over.ensures.tree);
      room = same_room c.args.depth c.block_over.ensures.height c.in_ok-body.ensures.room;
      fewer = fewer_behind (mark_taken mark.OpenBrace c.args.parser.now.cursor _ c.in_ok-expect.ensures.taken c.in_ok-expect.ensures.left) c.in_ok-body.ensures.tree c.in_ok-body.ensures.fewer;
    }

pub body-loop-parser-init : goal.body-loop-parser-init
body-loop-parser-init t c = record {
  tree = body_begun c.new-statements.ensures.items c.in_ok-declarations.ensures.tree;
  height = rw c.new-statements.ensures.items (omega (arith, c.in_ok-declarations.ensures.height));
  room = c.in_ok-declarations.ensures.room;
  no_more = c.in_ok-declarations.ensures.no_more;
  leads = leads_from (body_ways c.args.depth _) c.in_ok-declarations.ensures.only;
}

pub body-loop-parser-preserved : goal.body-loop-parser-preserved
body-loop-parser-preserved t c =
    let k : c.take.new.self ≡ c.loop-parser.parser.cursor = kept c.take.ensures.left c.loop-parser-test.true in
    record {
      tree = body_grown _ _ {zs = c.add.new.list.items} c.in_ok-add.ensures.items (kept c.take.ensures.left c.loop-parser-test.true) c.loop-parser.invariant.tree c.in_ok-next.ensures.tree;
      height = body_height _ _ _ c.in_ok-add.ensures.items c.loop-parser.invariant.height c.in_ok-next.ensures.height c.max-highest.ensures;
      room = omega (arith, c.loop-parser.invariant.room, c.in_ok-next.ensures.room, c.max-highest.ensures);
      no_more = omega (arith, c.loop-parser.invariant.no_more, length_kept k, c.in_ok-next.ensures.fewer);
      leads = leads_further c.loop-parser.invariant.leads (statements_ways (c.args.depth + 1) _ (not_there c.take.ensures.taken c.loop-parser-test.true)) (only_kept k (statement_only c.in_ok-next.ensures.tree));
    }

pub body-returns : goal.body-returns
body-returns t c = record {
  tree = body_ended c.loop-parser.invariant.tree (took c.take.ensures.taken c.take.ensures.left c.loop-parser-test.false);
  refused = tt {0};
  height = omega (arith, c.loop-parser.invariant.height);
  room = omega (arith, c.loop-parser.invariant.room);
  fewer = omega (arith, c.loop-parser.invariant.no_more, one_fewer (took c.take.ensures.taken c.take.ensures.left c.loop-parser-test.false));
}

pub switch_parts-loop-parser-init : goal.switch_parts-loop-parser-init
switch_parts-loop-parser-init t c = record {
  tree = rw c.new-parts.ensures.items (nothing _ _ NoChoice);
  height = rw c.new-parts.ensures.items refl;
  room = omega arith;
  no_more = omega arith;
  leads = leads_on;
}

pub switch_parts-loop-parser-preserved : goal.switch_parts-loop-parser-preserved
switch_parts-loop-parser-preserved t c =
    let k : c.take.new.self ≡ c.loop-parser.parser.cursor = kept c.take.ensures.left c.loop-parser-test.true in
    record {
      tree = parts_grown _ _ c.in_ok-add.ensures.items (kept c.take.ensures.left c.loop-parser-test.true) c.loop-parser.invariant.tree c.in_ok-part.ensures.tree;
      height = parts_height _ _ c.in_ok-add.ensures.items c.loop-parser.invariant.height c.in_ok-part.ensures.height c.max-highest.ensures;
      room = omega (arith, c.loop-parser.invariant.room, c.in_ok-part.ensures.room, c.max-highest.ensures);
      no_more = omega (arith, c.loop-parser.invariant.no_more, length_kept k, c.in_ok-part.ensures.fewer);
      leads = leads_further c.loop-parser.invariant.leads (parts_ways c.args.depth _ (not_there c.take.ensures.taken c.loop-parser-test.true)) (only_kept k c.in_ok-part.ensures.only);
    }

pub switch_parts-returns : goal.switch_parts-returns
switch_parts-returns t c = record {
  tree = joined c.loop-parser.invariant.tree (took c.take.ensures.taken c.take.ensures.left c.loop-parser-test.false);
  refused = tt {0};
  height = omega (arith, c.loop-parser.invariant.height);
  room = omega (arith, c.loop-parser.invariant.room);
  fewer = omega (arith, c.loop-parser.invariant.no_more, one_fewer (took c.take.ensures.taken c.take.ensures.left c.loop-parser-test.false));
}

pub inner-returns : goal.inner-returns
inner-returns t c = record {
  tree = ok_mapped c.boxed.result (λ p e. same_taken (ap tree_of e) c.in_ok-read.ensures.tree) c.boxed.ensures.tree;
  refused = memory_alone _ c.boxed.result c.boxed.ensures.memory;
  height = search rules;
  room = search rules;
  fewer = ok_mapped c.boxed.result (λ p e. c.in_ok-read.ensures.fewer) c.boxed.ensures.tree;
}

pub switch_part-returns : goal.switch_part-returns
switch_part-returns t c = record {
  tree = chosen_taken c.part_over.ensures.tree c.in_ok-statement.ensures.tree;
  only = leads_as (chosen_ways c.args.depth _ (not_there c.stands_word-2.ensures c.if-stands_word-2.false) (not_there c.stands_word.ensures c.if-stands_word.false)) (statement_only c.in_ok-statement.ensures.tree);
  refused = tt {0};
  height = search rules;
  room = search rules;
  fewer = search rules;
}

pub choice-returns-in_err-allow : goal.choice-returns-in_err-allow
choice-returns-in_err-allow t c = part_unread _ c.from_residual.result c.from_residual.ensures.1 (fails_as (if_ways c.args.depth _ c.requires.begun) (second_never (λ m. first_fails (tested_too_high (omega (arith, c.in_err-allow.ensures.refused))))))

pub choice-returns-in_err-test : goal.choice-returns-in_err-test
choice-returns-in_err-test t c =
    part_refused _ c.from_residual-in_err-test.result c.from_residual-in_err-test.ensures.1 c.in_err-test.ensures.refused
    (λ n. fails_as (if_ways c.args.depth _ c.requires.begun) (second_fails (one_leads c.in_ok-expect_keyword.ensures.left) (first_fails n)))

pub choice-returns-in_err-yes : goal.choice-returns-in_err-yes
choice-returns-in_err-yes t c =
    part_refused _ c.from_residual-in_err-yes.result c.from_residual-in_err-yes.ensures.1 c.in_err-yes.ensures.refused
    (λ n. fails_as (if_ways c.args.depth _ c.requires.begun) (second_fails (one_leads c.in_ok-expect_keyword.ensures.left) (second_fails c.in_ok-test.ensures.only (first_fails n))))

pub choice-returns-in_err-no : goal.choice-returns-in_err-no
choice-returns-in_err-no t c =
    part_refused _ c.from_residual-in_err-no.result c.from_residual-in_err-no.ensures.1 c.in_err-no.ensures.refused
    (λ n. fails_as (if_ways c.args.depth _ c.requires.begun) (second_fails (one_leads c.in_ok-expect_keyword.ensures.left) (second_fails c.in_ok-test.ensures.only (second_fails (statement_only c.in_ok-yes.ensures.tree)
    (else_fails c.takes_else.ensures.taken c.takes_else.ensures.left c.if-not-takes_else.false n)))))

pub do_loop-returns-in_err-allow : goal.do_loop-returns-in_err-allow
do_loop-returns-in_err-allow t c = part_unread _ c.from_residual.result c.from_residual.ensures.1 (fails_as (do_ways c.args.depth _ c.requires.begun) (second_never (λ m. first_fails (statement_too_high (omega (arith, c.in_err-allow.ensures.refused))))))

pub do_loop-returns-in_err-body : goal.do_loop-returns-in_err-body
do_loop-returns-in_err-body t c =
    part_refused _ c.from_residual-in_err-body.result c.from_residual-in_err-body.ensures.1 c.in_err-body.ensures.refused
    (λ n. fails_as (do_ways c.args.depth _ c.requires.begun) (second_fails (one_leads c.in_ok-expect_keyword.ensures.left) (first_fails n)))

pub do_loop-returns-in_err-test : goal.do_loop-returns-in_err-test
do_loop-returns-in_err-test t c =
    part_refused _ c.from_residual-in_err-test.result c.from_residual-in_err-test.ensures.1 c.in_err-test.ensures.refused
    (λ n. fails_as (do_ways c.args.depth _ c.requires.begun) (second_fails (one_leads c.in_ok-expect_keyword.ensures.left) (second_fails (statement_only c.in_ok-body.ensures.tree) n)))

pub while_loop-returns-in_err-allow : goal.while_loop-returns-in_err-allow
while_loop-returns-in_err-allow t c = part_unread _ c.from_residual.result c.from_residual.ensures.1 (fails_as (while_ways c.args.depth _ c.requires.begun) (second_never (λ m. first_fails (tested_too_high (omega (arith, c.in_err-allow.ensures.refused))))))

pub while_loop-returns-in_err-test : goal.while_loop-returns-in_err-test
while_loop-returns-in_err-test t c =
    part_refused _ c.from_residual-in_err-test.result c.from_residual-in_err-test.ensures.1 c.in_err-test.ensures.refused
    (λ n. fails_as (while_ways c.args.depth _ c.requires.begun) (second_fails (one_leads c.in_ok-expect_keyword.ensures.left) (first_fails n)))

pub while_loop-returns-in_err-body : goal.while_loop-returns-in_err-body
while_loop-returns-in_err-body t c =
    part_refused _ c.from_residual-in_err-body.result c.from_residual-in_err-body.ensures.1 c.in_err-body.ensures.refused
    (λ n. fails_as (while_ways c.args.depth _ c.requires.begun) (second_fails (one_leads c.in_ok-expect_keyword.ensures.left) (second_fails c.in_ok-test.ensures.only n)))

pub for_loop-returns-in_err-allow : goal.for_loop-returns-in_err-allow
for_loop-returns-in_err-allow t c = part_unread _ c.from_residual.result c.from_residual.ensures.1 (fails_as (for_ways c.args.depth _ c.requires.begun) (second_never (λ m. statement_too_high (omega (arith, c.in_err-allow.ensures.refused)))))

pub for_loop-returns-in_err-head : goal.for_loop-returns-in_err-head
for_loop-returns-in_err-head t c =
    part_refused _ c.from_residual-in_err-head.result c.from_residual-in_err-head.ensures.1 c.in_err-head.ensures.refused
    (λ n. fails_as (for_ways c.args.depth _ c.requires.begun) (first_fails n))

pub for_loop-returns-in_err-body : goal.for_loop-returns-in_err-body
for_loop-returns-in_err-body t c =
    part_refused _ c.from_residual-in_err-body.result c.from_residual-in_err-body.ensures.1 c.in_err-body.ensures.refused
    (λ n. fails_as (for_ways c.args.depth _ c.requires.begun) (second_fails (for_head_only _ _ _ c.in_ok-head.ensures.tree) n))

pub switch-returns-in_err-allow : goal.switch-returns-in_err-allow
switch-returns-in_err-allow t c = part_unread _ c.from_residual.result c.from_residual.ensures.1 (fails_as (switch_ways c.args.depth _ c.requires.begun) (second_never (λ m. first_fails (tested_too_high (omega (arith, c.in_err-allow.ensures.refused))))))

pub switch-returns-in_err-value : goal.switch-returns-in_err-value
switch-returns-in_err-value t c =
    part_refused _ c.from_residual-in_err-value.result c.from_residual-in_err-value.ensures.1 c.in_err-value.ensures.refused
    (λ n. fails_as (switch_ways c.args.depth _ c.requires.begun) (second_fails (one_leads c.in_ok-expect_keyword.ensures.left) (first_fails n)))

pub switch-returns-in_err-expect : goal.switch-returns-in_err-expect
switch-returns-in_err-expect t c = part_unread _ c.from_residual-in_err-expect.result c.from_residual-in_err-expect.ensures.1 (
    fails_as (switch_ways c.args.depth _ c.requires.begun) (second_fails (one_leads c.in_ok-expect_keyword.ensures.left) (second_fails c.in_ok-value.ensures.only (first_fails (mark_fails c.in_err-expect.ensures.refused)))))

pub switch-returns-in_err-parts : goal.switch-returns-in_err-parts
switch-returns-in_err-parts t c =
    part_refused _ c.from_residual-in_err-parts.result c.from_residual-in_err-parts.ensures.1 c.in_err-parts.ensures.refused
    (λ n. fails_as (switch_ways c.args.depth _ c.requires.begun) (second_fails (one_leads c.in_ok-expect_keyword.ensures.left) (second_fails c.in_ok-value.ensures.only (second_fails (one_leads c.in_ok-expect.ensures.left) n))))

pub inner_block-returns-in_err-body : goal.inner_block-returns-in_err-body
inner_block-returns-in_err-body t c =
    part_refused _ c.from_residual-in_err-body.result c.from_residual-in_err-body.ensures.1 c.in_err-body.ensures.refused
    (λ n. fails_as (block_ways c.args.depth _ c.requires.begun) (second_fails (one_leads c.in_ok-expect.ensures.left) n))

pub body-returns-in_err-declarations : goal.body-returns-in_err-declarations
body-returns-in_err-declarations t c =
    part_refused _ c.from_residual.result c.from_residual.ensures.1 c.in_err-declarations.ensures.refused
    (λ n. fails_as (body_ways c.args.depth _) (first_fails n))

pub body-returns-in_err-next : goal.body-returns-in_err-next
body-returns-in_err-next t c =
    part_refused _ c.from_residual-in_err-next.result c.from_residual-in_err-next.ensures.1 c.in_err-next.ensures.refused
    (λ n. fails_on c.loop-parser.invariant.leads (fails_as (statements_ways (c.args.depth + 1) _ (not_there c.take.ensures.taken c.loop-parser-test.true)) (first_fails (fails_kept (kept c.take.ensures.left c.loop-parser-test.true) n))))

pub body-returns-in_err-add : goal.body-returns-in_err-add
body-returns-in_err-add t c = part_unkept _ c.from_residual-in_err-add.result c.from_residual-in_err-add.ensures.1 c.in_err-add.ensures.memory

pub switch_parts-returns-in_err-add : goal.switch_parts-returns-in_err-add
switch_parts-returns-in_err-add t c = part_unkept _ c.from_residual-in_err-add.result c.from_residual-in_err-add.ensures.1 c.in_err-add.ensures.memory

pub switch_parts-returns-in_err-part : goal.switch_parts-returns-in_err-part
switch_parts-returns-in_err-part t c =
    part_refused _ c.from_residual.result c.from_residual.ensures.1 c.in_err-part.ensures.refused
    (λ n. fails_on c.loop-parser.invariant.leads (fails_as (parts_ways c.args.depth _ (not_there c.take.ensures.taken c.loop-parser-test.true)) (first_fails (fails_kept (kept c.take.ensures.left c.loop-parser-test.true) n))))

pub switch_part-returns-then-stands_word : goal.switch_part-returns-then-stands_word
switch_part-returns-then-stands_word t c = record {
  tree = c.default_label.ensures.tree;
  only = ok_mapped c.default_label.result (λ p o. leads_as (default_ways c.args.depth _ (c.stands_word.ensures.0 c.if-stands_word.true)) o) c.default_label.ensures.only;
  refused = goes_out c.default_label.result (λ n. fails_as (default_ways c.args.depth _ (c.stands_word.ensures.0 c.if-stands_word.true)) n) c.default_label.ensures.refused;
  height = c.default_label.ensures.height;
  room = c.default_label.ensures.room;
  fewer = c.default_label.ensures.fewer;
}

pub switch_part-returns-then-stands_word-2 : goal.switch_part-returns-then-stands_word-2
switch_part-returns-then-stands_word-2 t c = record {
  tree = c.case_label.ensures.tree;
  only = ok_mapped c.case_label.result (λ p o. leads_as (case_ways c.args.depth _ (c.stands_word-2.ensures.0 c.if-stands_word-2.true)) o) c.case_label.ensures.only;
  refused = goes_out c.case_label.result (λ n. fails_as (case_ways c.args.depth _ (c.stands_word-2.ensures.0 c.if-stands_word-2.true)) n) c.case_label.ensures.refused;
  height = c.case_label.ensures.height;
  room = c.case_label.ensures.room;
  fewer = c.case_label.ensures.fewer;
}

pub switch_part-returns-in_err-statement : goal.switch_part-returns-in_err-statement
switch_part-returns-in_err-statement t c =
    whole_refused _ c.from_residual.result c.from_residual.ensures.1 c.in_err-statement.ensures.refused
    (λ n. fails_as (chosen_ways c.args.depth _ (not_there c.stands_word-2.ensures c.if-stands_word-2.false) (not_there c.stands_word.ensures c.if-stands_word.false)) n)
