use Rattle.std.proofs.Common.{rules, ◌≡◌, ◌≢◌, true, Some, None, sym, arith, subst, ◌+◌, ◌<◌, false, length, refl, ap, ◌∙◌}
use Rattle.std.proofs.lemmas.Result.{IfOk-weaker}
use Rattle.c_syntax.specs.Grammar.{ExpressionRow, CastRow, UnaryRow}
use Rattle.c_syntax.specs.declared.token.Punct.TheVariants as mark
use Rattle.c_syntax.specs.Lookahead.{next_of, going_of, Stops}
use Rattle.c_cursor.specs.Front.{mark_at, opens_type, behind, word_at, name_at}
use Rattle.c_expressions.specs.Operators.{next_assignment, level_row, row_at, step_at, prefix_at}
use Rattle.c_expressions.proofs.Given.{given_refused, given_unread, given_unkept}
use Rattle.c_cursor.proofs.Refusals.{refuses_all, goes_out, memory_alone}
use Rattle.c_expressions.proofs.Rows.{assignment_more, conditional_more, assignment_done, conditional_done, index_behind, behind_done}
use Rattle.c_expressions.proofs.RowsRefuse.{expression_first_refused, expression_read, expression_refused, more_begins, commas_done, comma_too_high, comma_refused, comma_more, assignment_first_refused, assignment_read, assignment_refused, not_assigned_to, assignment_too_high, assigned_refused, conditional_first_refused, conditional_read, conditional_refused, conditional_too_high, chosen_refused, no_colon, other_refused, more_done, level_more, operator_too_high, operand_refused, cast_tightest, is_looser, looser_refused, level_read, level_refused, cast_passes, cast_starts, cast_first_refused, cast_start_refused, cast_too_high, cast_not_closed, cast_operand_refused}
use Rattle.c_expressions.proofs.parser.Parser.+parser.Goals as goal
use Rattle.c_expressions.specs.Parses.{IsParsed, IsNode}
use Rattle.c_syntax.specs.SyntaxView.{type_of}
use Rattle.c_syntax.specs.Measures.{greatest_height}
use Rattle.c_expressions.proofs.Firsts.{cast_parsed, constant_operand, name_operand, call_operand, step_parsed, prefix_parsed, size_parsed, size_type_parsed, unary_starts, unary_passes}
use Rattle.c_syntax.specs.declared.token.Keyword.TheVariants as keyword
use Rattle.c_expressions.proofs.Parens.{opened_length, parens_begin, parens_fewer, parens_measured, parens_more, parens_close}
use Rattle.c_syntax.proofs.Views.{call_form}
use Rattle.c_expressions.proofs.Arguments.{arguments_begin, arguments_none, arguments_done, arguments_more}
use Rattle.c_expressions.proofs.OperandsRefuse.{part_too_high, part_refused, step_part, prefix_part, size_part, size_too_high, size_type_refused, index_too_high, index_refused, index_not_closed, behind_refused, unary_start_refused, unary_no_operand, unary_none_behind, cast_no_operand, other_no_operand, named_not, call_refused, arguments_too_high, argument_refused, arguments_not_closed, parens_refused, parens_not_closed, parens_behind_refused}
use Rattle.c_expressions.proofs.Words.{behind_shorter}

pub expression-returns-in_err-first : goal.expression-returns-in_err-first
expression-returns-in_err-first t c = given_refused _ c.from_residual.result c.from_residual.ensures.1 c.in_err-first.ensures.refused (expression_first_refused c.args.start c.args.self.now.cursor c.args.depth)

pub expression-returns : goal.expression-returns
expression-returns t c = record {
  parsed = IfOk-weaker c.commas.result _ _
      (λ p m. expression_read c.args.start c.args.self.now.cursor c.args.depth c.in_ok-first.first c.assignment.new.self.cursor c.in_ok-first.ensures.parsed p c.commas.new.self.cursor m) c.commas.ensures.parsed;
  refused = goes_out c.commas.result (expression_refused c.args.start c.args.self.now.cursor c.args.depth c.in_ok-first.first c.assignment.new.self.cursor c.in_ok-first.ensures.parsed) c.commas.ensures.refused;
}

pub commas-loop-self-init : goal.commas-loop-self-init
commas-loop-self-init t c = more_begins ExpressionRow c.args.start c.args.self.now.cursor c.args.depth c.requires.start

pub commas-returns-in_err-allow : goal.commas-returns-in_err-allow
commas-returns-in_err-allow t c =
    let e : mark_at c.loop-self.self.cursor ≡ Some mark.Comma = search rules in
    given_unread _ c.from_residual.result c.from_residual.ensures.1 (comma_too_high c.args.start c.args.self.now.cursor c.args.depth c.loop-self.left c.loop-self.self.cursor c.loop-self.invariant e c.in_err-allow.ensures.refused)

pub commas-returns-in_err-right : goal.commas-returns-in_err-right
commas-returns-in_err-right t c =
    let e : mark_at c.loop-self.self.cursor ≡ Some mark.Comma = search rules in
    let q = rw c.skip.ensures.behind at c.in_err-right.ensures.refused in
    given_refused _ c.from_residual-in_err-right.result c.from_residual-in_err-right.ensures.1 q (comma_refused c.args.start c.args.self.now.cursor c.args.depth c.loop-self.left c.loop-self.self.cursor c.loop-self.invariant e)

pub commas-loop-self-preserved : goal.commas-loop-self-preserved
commas-loop-self-preserved t c =
    let e : mark_at c.loop-self.self.cursor ≡ Some mark.Comma = search rules in
    let q = rw c.skip.ensures.behind at c.in_ok-right.ensures.parsed in
    comma_more c.args.start c.args.self.now.cursor c.args.depth c.loop-self.left c.loop-self.self.cursor c.loop-self.invariant e c.in_ok-right.right c.assignment.new.self.cursor c.in_ok-left.left c.in_ok-allow.ensures.low q c.in_ok-left.ensures.node

pub commas-returns : goal.commas-returns
commas-returns t c = record {
  parsed = let h : mark_at c.loop-self.self.cursor ≢ Some mark.Comma = search rules in
      commas_done c.args.start c.args.self.now.cursor c.args.depth c.loop-self.left c.loop-self.self.cursor c.loop-self.invariant h;
  refused = tt {0};
}

pub assignment-returns-in_err-left : goal.assignment-returns-in_err-left
assignment-returns-in_err-left t c = given_refused _ c.from_residual.result c.from_residual.ensures.1 c.in_err-left.ensures.refused (assignment_first_refused c.args.start c.args.self.now.cursor c.args.depth)

pub assignment-returns-in_default : goal.assignment-returns-in_default
assignment-returns-in_default t c = record {
  parsed = let h : next_assignment (next_of c.conditional.new.self.cursor) ≡ None = search rules in
      assignment_done c.args.start c.args.self.now.cursor c.args.depth c.in_ok-left.left c.conditional.new.self.cursor c.in_ok-left.ensures.parsed h;
  refused = tt {0};
}

pub assignment-returns-then-not-left : goal.assignment-returns-then-not-left
assignment-returns-then-not-left t c =
    let u : c.in_ok-left.left.is_unary ≢ true = search rules in
    record {
      parsed = tt {0};
      refused = refuses_all c.refused.result (assignment_refused c.args.start c.args.self.now.cursor c.args.depth c.in_ok-left.left c.conditional.new.self.cursor c.in_ok-left.ensures.parsed
          (not_assigned_to c.args.depth c.in_ok-left.left c.conditional.new.self.cursor c.in-Some.assignment (sym c.in-Some.ensures) u));
    }

pub assignment-returns : goal.assignment-returns
assignment-returns t c = record {
  parsed = IfOk-weaker c.assignment_to.result _ _
      (λ p m. assignment_read c.args.start c.args.self.now.cursor c.args.depth c.in_ok-left.left c.conditional.new.self.cursor c.in_ok-left.ensures.parsed p c.assignment_to.new.self.cursor m) c.assignment_to.ensures.parsed;
  refused = goes_out c.assignment_to.result (assignment_refused c.args.start c.args.self.now.cursor c.args.depth c.in_ok-left.left c.conditional.new.self.cursor c.in_ok-left.ensures.parsed) c.assignment_to.ensures.refused;
}

pub assignment_to-returns-in_err-allow : goal.assignment_to-returns-in_err-allow
assignment_to-returns-in_err-allow t c = given_unread _ c.from_residual.result c.from_residual.ensures.1 (assignment_too_high c.args.depth c.args.left c.args.self.now.cursor c.args.assignment c.requires.assignment c.requires.left c.in_err-allow.ensures.refused)

pub assignment_to-returns-in_err-right : goal.assignment_to-returns-in_err-right
assignment_to-returns-in_err-right t c =
    let q = rw c.skip.ensures.behind at c.in_err-right.ensures.refused in
    given_refused _ c.from_residual-in_err-right.result c.from_residual-in_err-right.ensures.1 q (assigned_refused c.args.depth c.args.left c.args.self.now.cursor c.args.assignment c.requires.assignment)

pub assignment_to-returns : goal.assignment_to-returns
assignment_to-returns t c = record {
  parsed = let q = rw c.skip.ensures.behind at c.in_ok-right.ensures.parsed in
      IfOk-weaker c.assigned.result _ _
      (λ p n. assignment_more c.args.assignment c.args.depth c.args.left c.args.self.now.cursor c.in_ok-right.right c.assignment.new.self.cursor p c.requires.left c.requires.assignment c.requires.unary c.in_ok-allow.ensures.low q n)
      c.assigned.ensures.node;
  refused = memory_alone _ c.assigned.result c.assigned.ensures.memory;
}

pub conditional-returns-in_err-test : goal.conditional-returns-in_err-test
conditional-returns-in_err-test t c = given_refused _ c.from_residual.result c.from_residual.ensures.1 c.in_err-test.ensures.refused (conditional_first_refused c.args.start c.args.self.now.cursor c.args.depth)

pub conditional-returns-then-not-stands : goal.conditional-returns-then-not-stands
conditional-returns-then-not-stands t c = record {
  parsed = let h : mark_at c.levels.new.self.cursor ≢ Some mark.Question = search rules in
      conditional_done c.args.start c.args.self.now.cursor c.args.depth c.in_ok-test.test c.levels.new.self.cursor c.in_ok-test.ensures.parsed h;
  refused = tt {0};
}

pub conditional-returns : goal.conditional-returns
conditional-returns t c = record {
  parsed = IfOk-weaker c.alternatives.result _ _
      (λ p m. conditional_read c.args.start c.args.self.now.cursor c.args.depth c.in_ok-test.test c.levels.new.self.cursor c.in_ok-test.ensures.parsed p c.alternatives.new.self.cursor m) c.alternatives.ensures.parsed;
  refused = goes_out c.alternatives.result (conditional_refused c.args.start c.args.self.now.cursor c.args.depth c.in_ok-test.test c.levels.new.self.cursor c.in_ok-test.ensures.parsed) c.alternatives.ensures.refused;
}

pub alternatives-returns-in_err-allow : goal.alternatives-returns-in_err-allow
alternatives-returns-in_err-allow t c = given_unread _ c.from_residual.result c.from_residual.ensures.1 (conditional_too_high c.args.depth c.args.test c.args.self.now.cursor c.requires.question c.requires.test c.in_err-allow.ensures.refused)

pub alternatives-returns-in_err-yes : goal.alternatives-returns-in_err-yes
alternatives-returns-in_err-yes t c =
    let q = rw c.skip.ensures.behind at c.in_err-yes.ensures.refused in
    given_refused _ c.from_residual-in_err-yes.result c.from_residual-in_err-yes.ensures.1 q (chosen_refused c.args.depth c.args.test c.args.self.now.cursor c.requires.question)

pub alternatives-returns-in_err-expect : goal.alternatives-returns-in_err-expect
alternatives-returns-in_err-expect t c =
    let q = rw c.skip.ensures.behind at c.in_ok-yes.ensures.parsed in
    given_unread _ c.from_residual-in_err-expect.result c.from_residual-in_err-expect.ensures.1 (no_colon c.args.depth c.args.test c.args.self.now.cursor c.requires.question c.in_ok-yes.yes c.expression.new.self.cursor q c.in_err-expect.ensures.refused)

pub alternatives-returns-in_err-no : goal.alternatives-returns-in_err-no
alternatives-returns-in_err-no t c =
    let q = rw c.skip.ensures.behind at c.in_ok-yes.ensures.parsed in
    let s = rw c.in_ok-expect.ensures.left at c.in_err-no.ensures.refused in
    given_refused _ c.from_residual-in_err-no.result c.from_residual-in_err-no.ensures.1 s (other_refused c.args.depth c.args.test c.args.self.now.cursor c.requires.question c.in_ok-yes.yes c.expression.new.self.cursor q)

pub alternatives-returns : goal.alternatives-returns
alternatives-returns t c = record {
  parsed = let q = rw c.skip.ensures.behind at c.in_ok-yes.ensures.parsed in
      let s = rw c.in_ok-expect.ensures.left at c.in_ok-no.ensures.parsed in
      IfOk-weaker c.chosen.result _ _
      (λ p n. conditional_more c.args.depth c.args.test c.args.self.now.cursor c.in_ok-yes.yes c.expression.new.self.cursor c.in_ok-no.no c.conditional.new.self.cursor p c.requires.test c.requires.question c.in_ok-allow.ensures.low q
      c.in_ok-expect.ensures.taken s n)
      c.chosen.ensures.node;
  refused = memory_alone _ c.chosen.result c.chosen.ensures.memory;
}

pub levels-returns-in_err-left : goal.levels-returns-in_err-left
levels-returns-in_err-left t c = given_refused _ c.from_residual.result c.from_residual.ensures.1 c.in_err-left.ensures.refused (looser_refused c.args.start c.args.self.now.cursor c.args.depth None c.args.loosest (cast_tightest c.args.loosest))

pub levels-returns-in_err-left-2 : goal.levels-returns-in_err-left-2
levels-returns-in_err-left-2 t c =
    let s = is_looser c.args.loosest c.loop-loosest.level c.looser-looser.result c.loop-loosest.invariant.tight_enough (search rules) c.looser-looser.ensures in
    given_refused _ c.from_residual-in_err-left-2.result c.from_residual-in_err-left-2.ensures.1 c.in_err-left-2.ensures.refused
    (λ n. looser_refused c.args.start c.args.self.now.cursor c.args.depth (Some c.looser-looser.result) c.args.loosest s.tight_enough
    (level_refused c.args.start c.args.self.now.cursor c.args.depth c.loop-loosest.level c.looser-looser.result c.loop-loosest.left c.loop-loosest.self.cursor s.row c.loop-loosest.invariant.parsed n))

pub levels-loop-loosest-smaller : goal.levels-loop-loosest-smaller
levels-loop-loosest-smaller t c =
    let s = is_looser c.args.loosest c.loop-loosest.level c.looser-looser.result c.loop-loosest.invariant.tight_enough (search rules) c.looser-looser.ensures in
    omega (arith, s.rank, s.tight_enough)

pub levels-loop-loosest-preserved : goal.levels-loop-loosest-preserved
levels-loop-loosest-preserved t c =
    let s = is_looser c.args.loosest c.loop-loosest.level c.looser-looser.result c.loop-loosest.invariant.tight_enough (search rules) c.looser-looser.ensures in
    record {
      parsed = level_read c.args.start c.args.self.now.cursor c.args.depth c.loop-loosest.level c.looser-looser.result c.loop-loosest.left c.loop-loosest.self.cursor s.row c.loop-loosest.invariant.parsed
          c.in_ok-left-2.left c.more_of.new.self.cursor c.in_ok-left-2.ensures.parsed;
      tight_enough = s.tight_enough;
    }

pub levels-returns : goal.levels-returns
levels-returns t c = record {
  parsed = let same : c.loop-loosest.level ≡ c.args.loosest = grind (rules, c.loop-loosest-test.ensures) in
      subst (λ l. IsParsed (row_at l) c.args.start c.args.self.now.cursor c.args.depth c.loop-loosest.left c.loop-loosest.self.cursor) same c.loop-loosest.invariant.parsed;
  refused = tt {0};
}

pub more_of-loop-operator-init : goal.more_of-loop-operator-init
more_of-loop-operator-init t c = more_begins (level_row c.args.level) c.args.start c.args.self.now.cursor c.args.depth c.requires.start

pub more_of-returns-in_err-allow : goal.more_of-returns-in_err-allow
more_of-returns-in_err-allow t c =
    given_unread _ c.from_residual.result c.from_residual.ensures.1
    (operator_too_high c.args.level c.args.start c.args.self.now.cursor c.args.depth c.loop-operator.left c.loop-operator.self.cursor c.loop-operator.invariant c.in-Some.operator c.in-Some.ensures c.in_err-allow.ensures.refused)

pub more_of-returns-in_err-right : goal.more_of-returns-in_err-right
more_of-returns-in_err-right t c =
    let q = rw c.skip.ensures.behind at c.in_err-right.ensures.refused in
    given_refused _ c.from_residual-in_err-right.result c.from_residual-in_err-right.ensures.1 q
    (operand_refused c.args.level c.args.start c.args.self.now.cursor c.args.depth c.loop-operator.left c.loop-operator.self.cursor c.loop-operator.invariant c.in-Some.operator c.in-Some.ensures c.tighter.result c.tighter.ensures)

pub more_of-loop-operator-preserved : goal.more_of-loop-operator-preserved
more_of-loop-operator-preserved t c =
    let q = rw c.skip.ensures.behind at c.in_ok-right.ensures.parsed in
    level_more c.args.level c.args.start c.args.self.now.cursor c.args.depth c.loop-operator.left c.loop-operator.self.cursor c.loop-operator.invariant c.in-Some.operator c.in-Some.ensures c.tighter.result c.tighter.ensures
    c.in_ok-right.right c.levels.new.self.cursor c.in_ok-left.left c.in_ok-allow.ensures.low q c.in_ok-left.ensures.node

pub more_of-returns : goal.more_of-returns
more_of-returns t c = record {
  parsed = let h : going_of (level_row c.args.level) (next_of c.loop-operator.self.cursor) ≡ Stops = search rules in
      more_done (level_row c.args.level) c.args.start c.args.self.now.cursor c.args.depth c.loop-operator.left c.loop-operator.self.cursor c.loop-operator.invariant h;
  refused = tt {0};
}

pub cast-returns-in-Some : goal.cast-returns-in-Some
cast-returns-in-Some t c = record {
  parsed = rw c.in-Some.is (IfOk-weaker c.unary.result _ _ (λ p r. cast_starts c.args.self.now.cursor c.args.depth c.in-Some.start p c.unary.new.self.cursor r) c.unary.ensures.parsed);
  refused = rw c.in-Some.is (goes_out c.unary.result (cast_start_refused c.args.self.now.cursor c.args.depth c.in-Some.start) c.unary.ensures.refused);
}

pub first_cast-returns-then-not-opens_type : goal.first_cast-returns-then-not-opens_type
first_cast-returns-then-not-opens_type t c =
    let o : opens_type c.args.self.now.cursor ≡ false = search rules in
    record {
      parsed = IfOk-weaker c.unary.result _ _ (λ p r. cast_passes c.args.self.now.cursor c.args.depth p c.unary.new.self.cursor o r) c.unary.ensures.parsed;
      refused = goes_out c.unary.result (cast_first_refused c.args.self.now.cursor c.args.depth o) c.unary.ensures.refused;
    }

pub first_cast-returns-then-is_err : goal.first_cast-returns-then-is_err
first_cast-returns-then-is_err t c =
    let o : opens_type c.args.self.now.cursor ≡ true = search rules in
    let high : greatest_height < c.args.depth + 1 + 1 = search rules in
    record { parsed = tt {0}; refused = refuses_all c.refused_behind.result (cast_too_high c.args.self.now.cursor c.args.depth o high) }

pub first_cast-returns-in_err-to : goal.first_cast-returns-in_err-to
first_cast-returns-in_err-to t c =
    let o : opens_type c.args.self.now.cursor ≡ true = search rules in
    given_refused _ c.from_residual.result c.from_residual.ensures.1 c.in_err-to.ensures.refused (cast_not_closed c.args.self.now.cursor c.args.depth o)

pub first_cast-returns-in_err-operand : goal.first_cast-returns-in_err-operand
first_cast-returns-in_err-operand t c =
    let o : opens_type c.args.self.now.cursor ≡ true = search rules in
    given_refused _ c.from_residual-in_err-operand.result c.from_residual-in_err-operand.ensures.1 c.in_err-operand.ensures.refused
    (cast_operand_refused c.args.self.now.cursor c.args.depth o _ c.type_in_parentheses.new.self.cursor c.in_ok-to.ensures.parsed)

pub first_cast-returns : goal.first_cast-returns
first_cast-returns t c = record {
  parsed = let o : opens_type c.args.self.now.cursor ≡ true = search rules in
      IfOk-weaker c.converted.result _ _
      (λ p n. cast_parsed c.args.self.now.cursor c.type_in_parentheses.new.self.cursor c.args.depth _ c.in_ok-operand.operand c.cast.new.self.cursor p c.place-at.result o c.place-at.ensures c.in_ok-to.ensures.parsed c.in_ok-operand.ensures.parsed n)
      c.converted.ensures.node;
  refused = memory_alone _ c.converted.result c.converted.ensures.memory;
}

pub arguments-returns-then-take : goal.arguments-returns-then-take
arguments-returns-then-take t c = record {
  parsed = let h : mark_at c.args.self.now.cursor ≡ Some mark.CloseParen = search rules in
      let k : c.take.new.self ≡ behind c.args.self.now.cursor = search rules in
      rw k (arguments_none c.args.self.now.cursor c.args.depth _ h c.new.ensures.items refl c.requires.room);
  refused = tt {0};
}

pub arguments-returns-then-not-take : goal.arguments-returns-then-not-take
arguments-returns-then-not-take t c = record {
  parsed = let h : mark_at c.args.self.now.cursor ≢ Some mark.CloseParen = search rules in
      let m : c.take-in-loop-arguments.new.self ≡ c.assignment.new.self.cursor = search rules in
      let e : mark_at c.assignment.new.self.cursor ≡ Some mark.CloseParen = sym (ap mark_at m) ∙ c.in_ok-expect.ensures.taken in
      let k : c.expect.new.self ≡ behind c.assignment.new.self.cursor = c.in_ok-expect.ensures.left ∙ ap behind m in
      rw k (arguments_done c.args.self.now.cursor c.args.depth c.loop-arguments.arguments.list.items c.loop-arguments.arguments.height c.loop-arguments.self.cursor c.in_ok-next.next c.assignment.new.self.cursor
      c.add.new.self
      c.loop-arguments.invariant c.in_ok-next.ensures.parsed h e c.in_ok-add.ensures.items c.add.ensures.height);
  refused = tt {0};
}

pub arguments-loop-arguments-init : goal.arguments-loop-arguments-init
arguments-loop-arguments-init t c =
    let k : c.take.new.self ≡ c.args.self.now.cursor = search rules in
    rw (k, c.new.ensures.items) (arguments_begin c.args.self.now.cursor c.args.depth (omega (arith, c.requires.room)))

pub arguments-loop-arguments-preserved : goal.arguments-loop-arguments-preserved
arguments-loop-arguments-preserved t c =
    let e : mark_at c.assignment.new.self.cursor ≡ Some mark.Comma = search rules in
    let k : c.take-in-loop-arguments.new.self ≡ behind c.assignment.new.self.cursor = search rules in
    rw (k, c.in_ok-add.ensures.items, c.add.ensures.height) (arguments_more c.args.self.now.cursor c.args.depth c.loop-arguments.arguments.list.items c.loop-arguments.arguments.height c.loop-arguments.self.cursor c.in_ok-next.next c.assignment.new.self.cursor
    c.loop-arguments.invariant c.in_ok-next.ensures.parsed e)

pub arguments-returns-in_err-allow : goal.arguments-returns-in_err-allow
arguments-returns-in_err-allow t c =
    let h : mark_at c.args.self.now.cursor ≢ Some mark.CloseParen = search rules in
    given_unread _ c.from_residual.result c.from_residual.ensures.1 (arguments_too_high c.args.depth c.args.self.now.cursor h c.in_err-allow.ensures.refused)

pub arguments-returns-in_err-next : goal.arguments-returns-in_err-next
arguments-returns-in_err-next t c =
    let h : mark_at c.args.self.now.cursor ≢ Some mark.CloseParen = search rules in
    given_refused _ c.from_residual-in_err-next.result c.from_residual-in_err-next.ensures.1 c.in_err-next.ensures.refused
    (argument_refused c.args.depth c.args.self.now.cursor h c.loop-arguments.arguments.list.items c.loop-arguments.arguments.height c.loop-arguments.self.cursor c.loop-arguments.invariant)

pub arguments-returns-in_err-expect : goal.arguments-returns-in_err-expect
arguments-returns-in_err-expect t c =
    let h : mark_at c.args.self.now.cursor ≢ Some mark.CloseParen = search rules in
    let m : c.take-in-loop-arguments.new.self ≡ c.assignment.new.self.cursor = search rules in
    let a : mark_at c.assignment.new.self.cursor ≢ Some mark.Comma = search rules in
    let b : mark_at c.assignment.new.self.cursor ≢ Some mark.CloseParen = subst (λ l. mark_at l ≢ Some mark.CloseParen) m c.in_err-expect.ensures.refused in
    given_unread _ c.from_residual-in_err-expect.result c.from_residual-in_err-expect.ensures.1
    (arguments_not_closed c.args.depth c.args.self.now.cursor h c.loop-arguments.arguments.list.items c.loop-arguments.arguments.height c.loop-arguments.self.cursor c.loop-arguments.invariant
    c.in_ok-next.next c.assignment.new.self.cursor c.in_ok-next.ensures.parsed a b)

pub first_unary-returns : goal.first_unary-returns
first_unary-returns t c =
    let h : word_at c.args.self.now.cursor ≢ Some keyword.Sizeof = search rules in
    let e : step_at (mark_at c.args.self.now.cursor) ≡ None = search rules in
    let f : prefix_at (mark_at c.args.self.now.cursor) ≡ None = search rules in
    record {
      parsed = IfOk-weaker c.postfix.result _ _
          (λ p b. unary_passes c.args.self.now.cursor c.args.depth c.in_ok-start.start c.primary.new.self.cursor p c.postfix.new.self.cursor h e f c.in_ok-start.ensures.parsed b)
          c.postfix.ensures.parsed;
      refused = goes_out c.postfix.result (unary_none_behind c.args.depth c.args.self.now.cursor h e f c.in_ok-start.start c.primary.new.self.cursor c.in_ok-start.ensures.parsed) c.postfix.ensures.refused;
    }

pub first_unary-returns-in_err-start : goal.first_unary-returns-in_err-start
first_unary-returns-in_err-start t c =
    let h : word_at c.args.self.now.cursor ≢ Some keyword.Sizeof = search rules in
    let e : step_at (mark_at c.args.self.now.cursor) ≡ None = search rules in
    let f : prefix_at (mark_at c.args.self.now.cursor) ≡ None = search rules in
    given_refused _ c.from_residual.result c.from_residual.ensures.1 c.in_err-start.ensures.refused (unary_no_operand c.args.depth c.args.self.now.cursor h e f)

pub indexed-returns : goal.indexed-returns
indexed-returns t c = record {
  parsed = let q = rw c.skip.ensures.behind at c.in_ok-index.ensures.parsed in
      IfOk-weaker c.element.result _ _
      (λ p n. rw c.in_ok-expect.ensures.left (index_behind c.args.depth c.args.left c.args.self.now.cursor c.requires.left c.in_ok-allow.ensures.low c.in_ok-index.index c.expression.new.self.cursor p c.requires.open q c.in_ok-expect.ensures.taken n))
      c.element.ensures.node;
  refused = memory_alone _ c.element.result c.element.ensures.memory;
}

pub indexed-returns-in_err-allow : goal.indexed-returns-in_err-allow
indexed-returns-in_err-allow t c = given_unread _ c.from_residual.result c.from_residual.ensures.1 (index_too_high c.args.depth c.args.left c.args.self.now.cursor c.requires.open c.requires.left c.in_err-allow.ensures.refused)

pub indexed-returns-in_err-index : goal.indexed-returns-in_err-index
indexed-returns-in_err-index t c =
    let q = rw c.skip.ensures.behind at c.in_err-index.ensures.refused in
    given_refused _ c.from_residual-in_err-index.result c.from_residual-in_err-index.ensures.1 q (index_refused c.args.depth c.args.left c.args.self.now.cursor c.requires.open)

pub indexed-returns-in_err-expect : goal.indexed-returns-in_err-expect
indexed-returns-in_err-expect t c =
    let q = rw c.skip.ensures.behind at c.in_ok-index.ensures.parsed in
    given_unread _ c.from_residual-in_err-expect.result c.from_residual-in_err-expect.ensures.1
    (index_not_closed c.args.depth c.args.left c.args.self.now.cursor c.requires.open c.in_ok-index.index c.expression.new.self.cursor q c.in_err-expect.ensures.refused)

pub named-returns-then-not-take : goal.named-returns-then-not-take
named-returns-then-not-take t c = record {
  parsed = let k : c.take.new.self ≡ behind c.args.self.now.cursor = search rules in
      let h : mark_at c.take_name.new.self ≢ Some mark.OpenParen = search rules in
      let g : mark_at (behind c.args.self.now.cursor) ≢ Some mark.OpenParen = subst (λ l. mark_at l ≢ Some mark.OpenParen) c.in_ok-name.ensures.left h in
      let e : name_at c.args.self.now.cursor ≡ Some c.in_ok-name-2.name = c.in_ok-name.ensures.taken ∙ ap Some (sym c.in_ok-name-2.ensures) in
      rw k (IfOk-weaker c.node.result _ _ (λ p n. name_operand c.args.self.now.cursor c.args.depth p c.in_ok-name-2.name c.place-at.result e g c.place-at.ensures c.requires.room n) c.node.ensures.node);
  refused = memory_alone _ c.node.result c.node.ensures.memory;
}

pub named-returns : goal.named-returns
named-returns t c = record {
  parsed = let k : c.take.new.self ≡ behind c.take_name.new.self = search rules in
      let j : c.take.new.self ≡ behind (behind c.args.self.now.cursor) = k ∙ ap behind c.in_ok-name.ensures.left in
      let h : mark_at c.take_name.new.self ≡ Some mark.OpenParen = search rules in
      let g : mark_at (behind c.args.self.now.cursor) ≡ Some mark.OpenParen = sym (ap mark_at c.in_ok-name.ensures.left) ∙ h in
      let e : name_at c.args.self.now.cursor ≡ Some c.in_ok-name-2.name = c.in_ok-name.ensures.taken ∙ ap Some (sym c.in_ok-name-2.ensures) in
      let q = rw j at c.in_ok-arguments.ensures.parsed in
      let all = c.in_ok-arguments.arguments in
      IfOk-weaker c.node-2.result _ _
      (λ p n. call_operand c.args.self.now.cursor c.args.depth p c.in_ok-name-2.name c.place-at.result all c.arguments.new.self.cursor e g c.place-at.ensures q
      (subst (λ f. IsNode f c.place-at.result true all.height p) (call_form c.in_ok-name-2.name all.list) n))
      c.node-2.ensures.node;
  refused = memory_alone _ c.node-2.result c.node-2.ensures.memory;
}

pub named-returns-in_err-name : goal.named-returns-in_err-name
named-returns-in_err-name t c = given_unread _ c.from_residual.result c.from_residual.ensures.1 (named_not c.args.depth c.args.self.now.cursor c.requires.name c.in_err-name.ensures.refused)

pub named-returns-in_err-arguments : goal.named-returns-in_err-arguments
named-returns-in_err-arguments t c =
    let k : c.take.new.self ≡ behind c.take_name.new.self = search rules in
    let j : c.take.new.self ≡ behind (behind c.args.self.now.cursor) = k ∙ ap behind c.in_ok-name.ensures.left in
    let h : mark_at c.take_name.new.self ≡ Some mark.OpenParen = search rules in
    let g : mark_at (behind c.args.self.now.cursor) ≡ Some mark.OpenParen = sym (ap mark_at c.in_ok-name.ensures.left) ∙ h in
    let q = rw j at c.in_err-arguments.ensures.refused in
    given_refused _ c.from_residual-in_err-arguments.result c.from_residual-in_err-arguments.ensures.1 q (call_refused c.args.depth c.args.self.now.cursor _ c.in_ok-name.ensures.taken g)

pub parenthesised-expression-requires : goal.parenthesised-expression-requires
parenthesised-expression-requires t c =
    let k = opened_length c.args.self.now.cursor c.in_ok-places.places.items c.open_parentheses.new.self.cursor c.in_ok-places.ensures.opened in
    (omega (arith, k, c.in_ok-places.ensures.some, c.decreases), (c.requires.room, tt {0}))

pub parenthesised-loop-at-init : goal.parenthesised-loop-at-init
parenthesised-loop-at-init t c =
    parens_begin c.args.self.now.cursor c.args.depth c.in_ok-places.places.items c.open_parentheses.new.self.cursor c.in_ok-inner.inner c.expression.new.self.cursor c.in_ok-places.ensures.opened c.in_ok-places.ensures.some c.in_ok-inner.ensures.parsed

pub parenthesised-expression-requires-then-not-is_empty : goal.parenthesised-expression-requires-then-not-is_empty
parenthesised-expression-requires-then-not-is_empty t c =
    let some : 0 < length c.loop-at.places.items = search rules in
    let f = parens_fewer c.args.self.now.cursor c.args.depth c.loop-at.places.items c.loop-at.inner c.loop-at.self.cursor c.loop-at.invariant some in
    let m = parens_measured c.args.self.now.cursor c.args.depth c.loop-at.places.items c.loop-at.inner c.loop-at.self.cursor c.loop-at.invariant in
    let le = behind_shorter c.loop-at.self.cursor in
    (omega (arith, f, le, ap length c.in_ok-expect.ensures.left, c.decreases), (c.requires.room, rw c.enclose.ensures (record { height = m.height; fits = m.fits })))

pub parenthesised-loop-at-preserved-then-not-is_empty : goal.parenthesised-loop-at-preserved-then-not-is_empty
parenthesised-loop-at-preserved-then-not-is_empty t c =
    let some : 0 < length c.pop.new.self.items = search rules in
    let q = rw (c.in_ok-expect.ensures.left, c.enclose.ensures) at c.in_ok-inner-2.ensures.parsed in
    parens_more c.args.self.now.cursor c.args.depth c.loop-at.places.items c.pop.new.self.items c.in-Some.at c.loop-at.inner c.loop-at.self.cursor c.in_ok-inner-2.inner c.expression-then-not-is_empty.new.self.cursor
    c.loop-at.invariant c.in-Some.ensures.items c.in_ok-expect.ensures.taken some q

pub parenthesised-loop-at-preserved : goal.parenthesised-loop-at-preserved
parenthesised-loop-at-preserved t c =
    let none : length c.pop.new.self.items ≡ 0 = search rules in
    rw (c.in_ok-expect.ensures.left, c.enclose.ensures) (parens_close c.args.self.now.cursor c.args.depth c.loop-at.places.items c.pop.new.self.items c.in-Some.at c.loop-at.inner c.loop-at.self.cursor c.loop-at.invariant c.in-Some.ensures.items c.in_ok-expect.ensures.taken none)

pub parenthesised-returns-in_err-places : goal.parenthesised-returns-in_err-places
parenthesised-returns-in_err-places t c = given_refused _ c.from_residual.result c.from_residual.ensures.1 c.in_err-places.ensures.refused (cast_no_operand c.args.depth c.args.self.now.cursor)

pub parenthesised-returns-in_err-inner : goal.parenthesised-returns-in_err-inner
parenthesised-returns-in_err-inner t c =
    given_refused _ c.from_residual-in_err-inner.result c.from_residual-in_err-inner.ensures.1 c.in_err-inner.ensures.refused
    (parens_refused c.args.depth c.args.self.now.cursor c.in_ok-places.places.items c.open_parentheses.new.self.cursor c.in_ok-places.ensures.opened c.in_ok-places.ensures.some)

pub parenthesised-returns-in_err-expect : goal.parenthesised-returns-in_err-expect
parenthesised-returns-in_err-expect t c =
    given_unread _ c.from_residual-in_err-expect.result c.from_residual-in_err-expect.ensures.1
    (parens_not_closed c.args.depth c.args.self.now.cursor c.loop-at.places.items c.pop.new.self.items c.in-Some.at c.loop-at.inner c.loop-at.self.cursor c.loop-at.invariant c.in-Some.ensures.items c.in_err-expect.ensures.refused)

pub parenthesised-returns-in_err-inner-2 : goal.parenthesised-returns-in_err-inner-2
parenthesised-returns-in_err-inner-2 t c =
    let some : 0 < length c.pop.new.self.items = search rules in
    let q = rw (c.in_ok-expect.ensures.left, c.enclose.ensures) at c.in_err-inner-2.ensures.refused in
    given_refused _ c.from_residual-in_err-inner-2.result c.from_residual-in_err-inner-2.ensures.1 q
    (parens_behind_refused c.args.depth c.args.self.now.cursor c.loop-at.places.items c.pop.new.self.items c.in-Some.at c.loop-at.inner c.loop-at.self.cursor c.loop-at.invariant c.in-Some.ensures.items some)

pub postfix-returns-in_default : goal.postfix-returns-in_default
postfix-returns-in_default t c = record {
  parsed = let h : mark_at c.loop-self.self.cursor ≢ Some mark.OpenBracket = search rules in
      let e : step_at (mark_at c.loop-self.self.cursor) ≡ None = search rules in
      behind_done c.args.start c.args.self.now.cursor c.args.depth c.loop-self.left c.loop-self.self.cursor c.loop-self.invariant h e;
  refused = tt {0};
}

pub postfix-returns-in_err-left : goal.postfix-returns-in_err-left
postfix-returns-in_err-left t c =
    given_refused _ c.from_residual.result c.from_residual.ensures.1 c.in_err-left.ensures.refused
    (behind_refused c.args.start c.args.self.now.cursor c.args.depth c.loop-self.left c.loop-self.self.cursor c.loop-self.invariant)

pub postfix-returns-in_err-left-2 : goal.postfix-returns-in_err-left-2
postfix-returns-in_err-left-2 t c =
    given_refused _ c.from_residual-in_err-left-2.result c.from_residual-in_err-left-2.ensures.1 c.in_err-left-2.ensures.refused
    (behind_refused c.args.start c.args.self.now.cursor c.args.depth c.loop-self.left c.loop-self.self.cursor c.loop-self.invariant)

pub prefix-returns : goal.prefix-returns
prefix-returns t c = record {
  parsed = let q = rw c.skip.ensures.behind at c.in_ok-operand.ensures.parsed in
      IfOk-weaker c.prefixed.result _ _
      (λ p n. prefix_parsed c.args.self.now.cursor c.args.depth c.args.op c.in_ok-operand.operand c.cast.new.self.cursor p c.place-at.result c.requires.operator c.place-at.ensures q n) c.prefixed.ensures.node;
  refused = memory_alone _ c.prefixed.result c.prefixed.ensures.memory;
}

pub prefix-returns-in_err-allow : goal.prefix-returns-in_err-allow
prefix-returns-in_err-allow t c = given_unread _ c.from_residual.result c.from_residual.ensures.1 (part_too_high UnaryRow CastRow c.args.depth c.args.self.now.cursor (prefix_part c.args.self.now.cursor c.args.op c.requires.operator) c.in_err-allow.ensures.refused)

pub prefix-returns-in_err-operand : goal.prefix-returns-in_err-operand
prefix-returns-in_err-operand t c =
    let q = rw c.skip.ensures.behind at c.in_err-operand.ensures.refused in
    given_refused _ c.from_residual-in_err-operand.result c.from_residual-in_err-operand.ensures.1 q
    (part_refused UnaryRow CastRow c.args.depth c.args.self.now.cursor (prefix_part c.args.self.now.cursor c.args.op c.requires.operator))

pub primary-returns : goal.primary-returns
primary-returns t c = record {
  parsed = IfOk-weaker c.constant.result _ _ (λ p k. constant_operand c.args.self.now.cursor c.args.depth p c.constant.new.self.cursor k c.requires.room) c.constant.ensures.parsed;
  refused = let h : mark_at c.args.self.now.cursor ≢ Some mark.OpenParen = search rules in
      let n : name_at c.args.self.now.cursor ≡ None = search rules in
      goes_out c.constant.result (other_no_operand c.args.depth c.args.self.now.cursor h n) c.constant.ensures.refused;
}

pub size-returns-then-opens_type : goal.size-returns-then-opens_type
size-returns-then-opens_type t c = record {
  parsed = let o : opens_type c.skip.new.self ≡ true = search rules in
      let b : opens_type (behind c.args.self.now.cursor) ≡ true = sym (ap opens_type c.skip.ensures.behind) ∙ o in
      let q = rw c.skip.ensures.behind at c.in_ok-sized.ensures.parsed in
      IfOk-weaker c.node.result _ _
      (λ p n. size_type_parsed c.args.self.now.cursor c.args.depth (type_of c.in_ok-sized.sized) c.type_in_parentheses.new.self.cursor p c.place-at.result c.requires.word b c.place-at.ensures q c.in_ok-allow.ensures.low n)
      c.node.ensures.node;
  refused = memory_alone _ c.node.result c.node.ensures.memory;
}

pub size-returns : goal.size-returns
size-returns t c = record {
  parsed = let o : opens_type c.skip.new.self ≡ false = search rules in
      let b : opens_type (behind c.args.self.now.cursor) ≡ false = sym (ap opens_type c.skip.ensures.behind) ∙ o in
      let q = rw c.skip.ensures.behind at c.in_ok-operand.ensures.parsed in
      IfOk-weaker c.sized.result _ _
      (λ p n. size_parsed c.args.self.now.cursor c.args.depth c.in_ok-operand.operand c.unary.new.self.cursor p c.place-at.result c.requires.word b c.place-at.ensures q n) c.sized.ensures.node;
  refused = memory_alone _ c.sized.result c.sized.ensures.memory;
}

pub size-returns-in_err-allow : goal.size-returns-in_err-allow
size-returns-in_err-allow t c = given_unread _ c.from_residual.result c.from_residual.ensures.1 (size_too_high c.args.depth c.args.self.now.cursor c.requires.word c.in_err-allow.ensures.refused)

pub size-returns-in_err-sized : goal.size-returns-in_err-sized
size-returns-in_err-sized t c =
    let o : opens_type c.skip.new.self ≡ true = search rules in
    let b : opens_type (behind c.args.self.now.cursor) ≡ true = sym (ap opens_type c.skip.ensures.behind) ∙ o in
    let q = rw c.skip.ensures.behind at c.in_err-sized.ensures.refused in
    given_refused _ c.from_residual-in_err-sized.result c.from_residual-in_err-sized.ensures.1 q (size_type_refused c.args.depth c.args.self.now.cursor c.requires.word b)

pub size-returns-in_err-operand : goal.size-returns-in_err-operand
size-returns-in_err-operand t c =
    let o : opens_type c.skip.new.self ≡ false = search rules in
    let b : opens_type (behind c.args.self.now.cursor) ≡ false = sym (ap opens_type c.skip.ensures.behind) ∙ o in
    let q = rw c.skip.ensures.behind at c.in_err-operand.ensures.refused in
    given_refused _ c.from_residual-in_err-operand.result c.from_residual-in_err-operand.ensures.1 q
    (part_refused UnaryRow UnaryRow c.args.depth c.args.self.now.cursor (size_part c.args.self.now.cursor c.requires.word b))

pub step-returns : goal.step-returns
step-returns t c = record {
  parsed = let q = rw c.skip.ensures.behind at c.in_ok-operand.ensures.parsed in
      IfOk-weaker c.stepped_before.result _ _
      (λ p n. step_parsed c.args.self.now.cursor c.args.depth c.args.up c.in_ok-operand.operand c.unary.new.self.cursor p c.place-at.result c.requires.step c.place-at.ensures q n) c.stepped_before.ensures.node;
  refused = memory_alone _ c.stepped_before.result c.stepped_before.ensures.memory;
}

pub step-returns-in_err-allow : goal.step-returns-in_err-allow
step-returns-in_err-allow t c = given_unread _ c.from_residual.result c.from_residual.ensures.1 (part_too_high UnaryRow UnaryRow c.args.depth c.args.self.now.cursor (step_part c.args.self.now.cursor c.args.up c.requires.step) c.in_err-allow.ensures.refused)

pub step-returns-in_err-operand : goal.step-returns-in_err-operand
step-returns-in_err-operand t c =
    let q = rw c.skip.ensures.behind at c.in_err-operand.ensures.refused in
    given_refused _ c.from_residual-in_err-operand.result c.from_residual-in_err-operand.ensures.1 q
    (part_refused UnaryRow UnaryRow c.args.depth c.args.self.now.cursor (step_part c.args.self.now.cursor c.args.up c.requires.step))

pub unary-returns-in-Some : goal.unary-returns-in-Some
unary-returns-in-Some t c = record {
  parsed = rw c.in-Some.is (IfOk-weaker c.postfix.result _ _ (λ p b. unary_starts c.in-Some.start c.args.self.now.cursor c.args.depth p c.postfix.new.self.cursor b) c.postfix.ensures.parsed);
  refused = rw c.in-Some.is (goes_out c.postfix.result (unary_start_refused c.args.depth c.in-Some.start c.args.self.now.cursor) c.postfix.ensures.refused);
}

pub commas-returns-in_err-left : goal.commas-returns-in_err-left
commas-returns-in_err-left t c = given_unkept _ c.from_residual-in_err-left.result c.from_residual-in_err-left.ensures.1 c.in_err-left.ensures.memory

pub more_of-returns-in_err-left : goal.more_of-returns-in_err-left
more_of-returns-in_err-left t c = given_unkept _ c.from_residual-in_err-left.result c.from_residual-in_err-left.ensures.1 c.in_err-left.ensures.memory

pub arguments-returns-in_err-add : goal.arguments-returns-in_err-add
arguments-returns-in_err-add t c = given_unkept _ c.from_residual-in_err-add.result c.from_residual-in_err-add.ensures.1 c.in_err-add.ensures.memory
