-- How a row is read: what it passes on to, and what goes on with it.
use Rattle.std.proofs.Common.{◌≡◌, ◌≢◌, ℕ, ◌+◌, ◌<◌, ◌≤◌, max, Bool, true, false, List, [], ◌∷◌, length, Option, Some, None, refl, sym, ap, ◌∙◌, subst, arith}
use Rattle.c_syntax.specs.declared.token.Token.{Token}
use Rattle.c_syntax.specs.declared.token.Punct.{Punct}
use Rattle.c_syntax.specs.declared.token.Punct.TheVariants as mark
use Rattle.c_syntax.specs.SyntaxTree.{Expression, ExpressionForm, Node, Conditional, Index, StepAfter}
use Rattle.c_syntax.specs.Grammar.{Row, ExpressionRow, AssignmentRow, ConditionalRow, OrRow, PostfixRow, tighter}
use Rattle.c_syntax.specs.Lookahead.{next_of, Stops, going_of, start_of}
use Rattle.c_syntax.specs.Reads.{Reading, reading, PassTo, first_of, Both, Starts, PassFirst, More, Stop}
use Rattle.c_syntax.specs.Measures.{expression_height, form_height, greatest_height}
use Rattle.c_syntax.specs.SyntaxView.{expression_of}
use Rattle.c_expressions.specs.declared.parser.Parsed.{Parsed}
use Rattle.c_expressions.specs.declared.operators.Infix.{Infix}
use Rattle.c_expressions.specs.declared.operators.Infix.TheVariants as between
use Rattle.c_expressions.specs.declared.operators.Assignment.{Assignment}
use Rattle.c_expressions.specs.declared.operators.Assignment.TheVariants as assignment
use Rattle.c_cursor.specs.Front.{behind, mark_at}
use Rattle.c_expressions.specs.Operators.{infix_form, next_assignment, assignment_form, step_at}
use Rattle.c_syntax.proofs.Parsing.ReadsOne.{one_reading}
use Rattle.c_expressions.proofs.Insides.{Indexed, index_inside, step_inside}
use Rattle.c_expressions.specs.Parses.{Up, read, ReadBy, place_from, IsMeasured, IsParsed, IsMore, IsBehind, IsOneBehind, IsNode}
use Rattle.c_expressions.proofs.Nexts.{no_question, no_assignment, no_postfix, question_goes, index_goes, step_goes, assign_goes}
use Rattle.c_expressions.proofs.Words.{behind_shorter}

-- ---- passing on

abbrev pub PassesOn : Row → Row → Option Parsed → List Token → Type 0
PassesOn row next None before = first_of row (start_of before) ≡ PassTo next
PassesOn row next (Some s) before = Unit {0}

pass_reads : (row next : Row) (start : Option Parsed) (before : List Token) (at : ℕ) (mid all : Reading) → tighter row ≡ Some next → PassesOn row next start before
    → at ≡ place_from start before → ReadBy next start before mid → More row at (going_of row (next_of mid.rest)) mid.tree mid.unary mid.rest all → ReadBy row start before all
pass_reads row next None before at mid all e pass place r m =
    Both (subst (λ f. Starts row f before mid) (sym pass) (PassFirst e r)) (subst (λ p. More row p (going_of row (next_of mid.rest)) mid.tree mid.unary mid.rest all) place m)
pass_reads row next (Some s) before at mid all e pass place r m =
    Up e r (subst (λ p. More row p (going_of row (next_of mid.rest)) mid.tree mid.unary mid.rest all) place m)

pub passing : (row next : Row) (start : Option Parsed) (before : List Token) → first_of row (start_of before) ≡ PassTo next → PassesOn row next start before
passing row next None before e = e
passing row next (Some s) before e = tt {0}

-- nothing goes on
none_more : (row : Row) (left : Parsed) (after : List Token) (depth : ℕ) → going_of row (next_of after) ≡ Stops → IsMeasured depth left → IsMore row left after depth left after
none_more row left after depth g m = record {
  more = subst (λ n. More row left.at n (expression_of left.tree.value) left.is_unary after (read left after)) (sym g) Stop;
  place = refl;
  measured = m;
  shorter = omega arith;
}

module _ (row next : Row) (start : Option Parsed) (before : List Token) (depth : ℕ) (left : Parsed) (after : List Token) (e : tighter row ≡ Some next) (pass : PassesOn row next start before) (r : IsParsed next start before depth left after) where
  -- what was read by the tighter row, and what goes on with it
  pub read_on : (p : Parsed) (rest : List Token) → IsMore row left after depth p rest → IsParsed row start before depth p rest
  read_on p rest m = record {
    reads = pass_reads row next start before left.at (read left after) (read p rest) e pass r.place r.reads m.more;
    place = m.place ∙ r.place;
    measured = m.measured;
    shorter = let k = r.shorter in let j = m.shorter in omega arith;
  }

  pub stops : going_of row (next_of after) ≡ Stops → IsParsed row start before depth left after
  stops g = read_on left after (none_more row left after depth g r.measured)

-- ---- ends and nodes

-- a node in the place of its parts
pub node_more : (row : Row) (at : ℕ) (form : ExpressionForm) (unary : Bool) (parts : ℕ) (p : Parsed) (rest : List Token) (all : Reading) → IsNode form at unary parts p
    → More row p.at (going_of row (next_of rest)) (expression_of p.tree.value) p.is_unary rest all → More row at (going_of row (next_of rest)) (Node form at) unary rest all
node_more row at form unary parts p rest all n k =
    subst (λ a. More row a (going_of row (next_of rest)) (Node form at) unary rest all) n.place
    (subst (λ t. More row p.at (going_of row (next_of rest)) t unary rest all) n.tree
    (subst (λ u. More row p.at (going_of row (next_of rest)) (expression_of p.tree.value) u rest all) n.unary_is k))

node_less : (row : Row) (at : ℕ) (form : ExpressionForm) (unary : Bool) (parts : ℕ) (p : Parsed) (rest : List Token) (all : Reading) → IsNode form at unary parts p
    → More row at (going_of row (next_of rest)) (Node form at) unary rest all → More row p.at (going_of row (next_of rest)) (expression_of p.tree.value) p.is_unary rest all
node_less row at form unary parts p rest all n k =
    subst (λ u. More row p.at (going_of row (next_of rest)) (expression_of p.tree.value) u rest all) (sym n.unary_is)
    (subst (λ t. More row p.at (going_of row (next_of rest)) t unary rest all) (sym n.tree)
    (subst (λ a. More row a (going_of row (next_of rest)) (Node form at) unary rest all) (sym n.place) k))

-- a node that is the last
ends : (row : Row) (left : Parsed) (before : List Token) (depth : ℕ) (form : ExpressionForm) (unary : Bool) (parts : ℕ) (p : Parsed) (rest : List Token) → IsNode form left.at unary parts p → IsMeasured depth p → length rest ≤ length before
    → More row left.at (going_of row (next_of before)) (expression_of left.tree.value) left.is_unary before (reading (Node form left.at) unary rest) → IsMore row left before depth p rest
ends row left before depth form unary parts p rest n m lt last = record {
  more = subst (λ t. More row left.at (going_of row (next_of before)) (expression_of left.tree.value) left.is_unary before (reading t p.is_unary rest)) (sym n.tree)
      (subst (λ u. More row left.at (going_of row (next_of before)) (expression_of left.tree.value) left.is_unary before (reading (Node form left.at) u rest)) (sym n.unary_is) last);
  place = n.place;
  measured = m;
  shorter = lt;
}

-- the height of a node
pub node_measured : (form : ExpressionForm) (at : ℕ) (unary : Bool) (parts depth : ℕ) (p : Parsed) → IsNode form at unary parts p → parts ≡ form_height form → depth + parts + 1 ≤ greatest_height → IsMeasured depth p
node_measured form at unary parts depth p n e le = record {
  height = let k : expression_height (expression_of p.tree.value) ≡ 1 + form_height form = ap expression_height n.tree in omega (arith, n.height, k, e);
  fits = omega (arith, n.height);
}

pub two_measured : (depth : ℕ) (left right : Parsed) (form : ExpressionForm) (at : ℕ) (unary : Bool) (p : Parsed) → IsMeasured depth left → IsMeasured (depth + 1) right → depth + left.height + 1 ≤ greatest_height
    → form_height form ≡ max (expression_height (expression_of left.tree.value)) (expression_height (expression_of right.tree.value)) → IsNode form at unary (max left.height right.height) p → IsMeasured depth p
two_measured depth left right form at unary p l r le e n =
    node_measured form at unary (max left.height right.height) depth p n
    (ap (λ h. max h right.height) l.height ∙ ap (λ h. max (expression_height (expression_of left.tree.value)) h) r.height ∙ sym e)
    (let k = r.fits in omega arith)

-- ---- the rows

pub infix_height : (i : Infix) (left right : Expression) → form_height (infix_form i left right) ≡ max (expression_height left) (expression_height right)
infix_height between.Or left right = refl
infix_height i left right = refl

pub assignment_height : (a : Assignment) (left right : Expression) → form_height (assignment_form a left right) ≡ max (expression_height left) (expression_height right)
assignment_height assignment.Plain left right = refl
assignment_height a left right = refl

pub assignment_more : (a : Assignment) (depth : ℕ) (left : Parsed) (before : List Token) (right : Parsed) (rest : List Token) (p : Parsed) → IsMeasured depth left → next_assignment (next_of before) ≡ Some a → left.is_unary ≡ true
    → depth + left.height + 1 ≤ greatest_height → IsParsed AssignmentRow None (behind before) (depth + 1) right rest
    → IsNode (assignment_form a (expression_of left.tree.value) (expression_of right.tree.value)) left.at false (max left.height right.height) p → IsMore AssignmentRow left before depth p rest
assignment_more a depth left before right rest p l e u le r n =
    ends AssignmentRow left before depth _ false _ p rest n (two_measured depth left right _ left.at false p l r.measured le (assignment_height a (expression_of left.tree.value) (expression_of right.tree.value)) n)
    (let k = r.shorter in omega (arith, behind_shorter before))
    (subst (λ v. More AssignmentRow left.at (going_of AssignmentRow (next_of before)) (expression_of left.tree.value) v before (reading (Node (assignment_form a (expression_of left.tree.value) (expression_of right.tree.value)) left.at) false rest)) (sym u)
    (assign_goes left.at (expression_of left.tree.value) before a (read right rest) e r.reads))

three_measured : (depth : ℕ) (test chosen other : Parsed) (at : ℕ) (p : Parsed) → IsMeasured depth test → IsMeasured (depth + 1) chosen → IsMeasured (depth + 1) other → depth + test.height + 1 ≤ greatest_height
    → IsNode (Conditional (expression_of test.tree.value) (expression_of chosen.tree.value) (expression_of other.tree.value)) at false (max test.height (max chosen.height other.height)) p → IsMeasured depth p
three_measured depth test chosen other at p a b c le n =
    node_measured _ at false (max test.height (max chosen.height other.height)) depth p n
    (ap (λ h. max h (max chosen.height other.height)) a.height ∙ ap (λ h. max (expression_height (expression_of test.tree.value)) (max h other.height)) b.height
    ∙ ap (λ h. max (expression_height (expression_of test.tree.value)) (max (expression_height (expression_of chosen.tree.value)) h)) c.height)
    (let k = b.fits in let j = c.fits in omega arith)

pub conditional_more : (depth : ℕ) (test : Parsed) (before : List Token) (chosen : Parsed) (mid : List Token) (other : Parsed) (rest : List Token) (p : Parsed) → IsMeasured depth test → mark_at before ≡ Some mark.Question
    → depth + test.height + 1 ≤ greatest_height → IsParsed ExpressionRow None (behind before) (depth + 1) chosen mid → mark_at mid ≡ Some mark.Colon → IsParsed ConditionalRow None (behind mid) (depth + 1) other rest
    → IsNode (Conditional (expression_of test.tree.value) (expression_of chosen.tree.value) (expression_of other.tree.value)) test.at false (max test.height (max chosen.height other.height)) p → IsMore ConditionalRow test before depth p rest
conditional_more depth test before chosen mid other rest p l e le r f s n =
    ends ConditionalRow test before depth _ false _ p rest n (three_measured depth test chosen other test.at p l r.measured s.measured le n)
    (let k = r.shorter in let j = s.shorter in omega (arith, behind_shorter before, behind_shorter mid))
    (question_goes test.at (expression_of test.tree.value) test.is_unary before mid (expression_of chosen.tree.value) chosen.is_unary (read other rest) e r.reads f s.reads)

-- ---- where nothing goes on

module _ (start : Option Parsed) (before : List Token) (depth : ℕ) (left : Parsed) (after : List Token) where
  pub assignment_done : IsParsed ConditionalRow start before depth left after → next_assignment (next_of after) ≡ None → IsParsed AssignmentRow start before depth left after
  assignment_done r h = stops AssignmentRow ConditionalRow start before depth left after refl (passing AssignmentRow ConditionalRow start before refl) r (no_assignment (next_of after) h)

  pub conditional_done : IsParsed OrRow start before depth left after → mark_at after ≢ Some mark.Question → IsParsed ConditionalRow start before depth left after
  conditional_done r h = stops ConditionalRow OrRow start before depth left after refl (passing ConditionalRow OrRow start before refl) r (no_question after h)

-- ---- behind an operand

behind_fewer : (tokens : List Token) (m : Punct) → mark_at tokens ≡ Some m → length (behind tokens) < length tokens
behind_fewer [] m e = absurd cc
behind_fewer (t ∷ more) m e = omega arith

step_fewer : (tokens : List Token) (up : Bool) → step_at (mark_at tokens) ≡ Some up → length (behind tokens) < length tokens
step_fewer [] up e = absurd cc
step_fewer (t ∷ more) up e = omega arith

module _ (depth : ℕ) (left : Parsed) (before : List Token) (m : IsMeasured depth left) (le : depth + left.height + 1 ≤ greatest_height) where
  -- what goes on behind an index goes on behind the one that was read
  index_only : (index : Parsed) (mid : List Token) (p : Parsed) → IsParsed ExpressionRow None (behind before) (depth + 1) index mid
      → IsNode (Index (expression_of left.tree.value) (expression_of index.tree.value)) left.at true (max left.height index.height) p
      → (all : Reading) → Indexed left.at (expression_of left.tree.value) before all → More PostfixRow p.at (going_of PostfixRow (next_of (behind mid))) (expression_of p.tree.value) p.is_unary (behind mid) all
  index_only index mid p r n all i =
      node_less PostfixRow left.at _ true _ p (behind mid) all n
      (subst (λ o. More PostfixRow left.at (going_of PostfixRow (next_of (behind o.rest))) (Node (Index (expression_of left.tree.value) o.tree) left.at) true (behind o.rest) all)
      (one_reading ExpressionRow (behind before) i.index (read index mid) i.reads r.reads) i.goes)

  pub index_behind : (index : Parsed) (mid : List Token) (p : Parsed) → mark_at before ≡ Some mark.OpenBracket → IsParsed ExpressionRow None (behind before) (depth + 1) index mid → mark_at mid ≡ Some mark.CloseBracket
      → IsNode (Index (expression_of left.tree.value) (expression_of index.tree.value)) left.at true (max left.height index.height) p → IsOneBehind left before depth p (behind mid)
  index_behind index mid p e r f n = record {
    more = λ all k. index_goes left.at (expression_of left.tree.value) left.is_unary before mid (expression_of index.tree.value) index.is_unary all e r.reads f (node_more PostfixRow left.at _ true _ p (behind mid) all n k);
    only = λ all k. index_only index mid p r n all (index_inside left.at (expression_of left.tree.value) left.is_unary before all e k);
    place = n.place;
    measured = two_measured depth left index _ left.at true p m r.measured le refl n;
    shorter = let k = r.shorter in omega (arith, behind_shorter mid, behind_fewer before mark.OpenBracket e);
  }

  pub step_behind : (up : Bool) (p : Parsed) → step_at (mark_at before) ≡ Some up → IsNode (StepAfter up (expression_of left.tree.value)) left.at true left.height p → IsOneBehind left before depth p (behind before)
  step_behind up p e n = record {
    more = λ all k. step_goes left.at (expression_of left.tree.value) left.is_unary before up all e (node_more PostfixRow left.at _ true _ p (behind before) all n k);
    only = λ all k. node_less PostfixRow left.at _ true _ p (behind before) all n (step_inside left.at (expression_of left.tree.value) left.is_unary before up all e k);
    place = n.place;
    measured = node_measured _ left.at true left.height depth p n m.height le;
    shorter = step_fewer before up e;
  }

pub record BehindSoFar (start : Parsed) (before : List Token) (depth : ℕ) (left : Parsed) (after : List Token) : Type 0 where
  pub goes : (all : Reading) → More PostfixRow left.at (going_of PostfixRow (next_of after)) (expression_of left.tree.value) left.is_unary after all
      → More PostfixRow start.at (going_of PostfixRow (next_of before)) (expression_of start.tree.value) start.is_unary before all
  pub only : (all : Reading) → More PostfixRow start.at (going_of PostfixRow (next_of before)) (expression_of start.tree.value) start.is_unary before all
      → More PostfixRow left.at (going_of PostfixRow (next_of after)) (expression_of left.tree.value) left.is_unary after all
  pub place : left.at ≡ start.at
  pub measured : IsMeasured depth left
  pub shorter : length after ≤ length before

pub behind_begins : (start : Parsed) (before : List Token) (depth : ℕ) → IsMeasured depth start → BehindSoFar start before depth start before
behind_begins start before depth m = record { goes = λ all k. k; only = λ all k. k; place = refl; measured = m; shorter = omega arith }

pub behind_more : (start : Parsed) (before : List Token) (depth : ℕ) (left : Parsed) (after : List Token) (p : Parsed) (rest : List Token) → BehindSoFar start before depth left after → IsOneBehind left after depth p rest → BehindSoFar start before depth p rest
behind_more start before depth left after p rest s o = record {
  goes = λ all k. s.goes all (o.more all k);
  only = λ all k. o.only all (s.only all k);
  place = o.place ∙ s.place;
  measured = o.measured;
  shorter = let k = s.shorter in let j = o.shorter in omega arith;
}

pub behind_done : (start : Parsed) (before : List Token) (depth : ℕ) (left : Parsed) (after : List Token) → BehindSoFar start before depth left after → mark_at after ≢ Some mark.OpenBracket → step_at (mark_at after) ≡ None → IsBehind start before depth left after
behind_done start before depth left after s h e = record {
  more = s.goes (read left after) (subst (λ n. More PostfixRow left.at n (expression_of left.tree.value) left.is_unary after (read left after)) (sym (no_postfix after h e)) Stop);
  place = s.place;
  measured = s.measured;
  shorter = s.shorter;
}
