-- Why a row of operators has no reading: each reading goes through what was read so far, and on from there.
use Rattle.std.proofs.Common.{◌≡◌, ◌≢◌, ℕ, ◌+◌, ◌<◌, ◌≤◌, ⊎_elim, ◌-◌, zero, suc, max, Bool, true, false, List, ◌∷◌, length, Option, Some, None, refl, sym, ap, ◌∙◌, subst, arith}
use Rattle.std.proofs.Math.Nat.{eq-or-lt_of_le}
use Rattle.c_syntax.specs.declared.token.Token.{Token}
use Rattle.c_syntax.specs.declared.token.Punct.TheVariants as mark
use Rattle.c_syntax.specs.declared.operator.BinaryOp.{BinaryOp}
use Rattle.c_syntax.specs.SyntaxTree.{TypeTree, Expression, ExpressionForm, Node, Index, StepAfter, Cast, Binary, And, Or, Conditional, Comma}
use Rattle.c_syntax.specs.Grammar.{Row, ExpressionRow, AssignmentRow, ConditionalRow, OrRow, AndRow, BitOrRow, CastRow, UnaryRow, PostfixRow, tighter, place_of, IsMark}
use Rattle.c_syntax.specs.Lookahead.{row_rank, Next, CommaNext, AssignNext, AssignOpNext, QuestionNext, OrNext, AndNext, BinaryNext, next_of, Going, Stops, Goes, going_of, kind_spec, CastStart, start_of}
use Rattle.c_syntax.specs.Reads.{Reading, reading, or_primary, tight, PassTo, Takes, first_of, Reads, Both, Starts, PassFirst, CastFirst, More, Stop, CommaMore, AssignMore, AssignOpMore, QuestionMore, OrMore, AndMore, BinaryMore, IndexMore, StepMore}
use Rattle.c_syntax.specs.Measures.{expression_height, form_height, greatest_height}
use Rattle.c_syntax.specs.SyntaxView.{expression_of}
use Rattle.c_syntax.proofs.Parsing.Lookahead.{is_next, going_goes}
use Rattle.c_syntax.proofs.Parsing.Types.{NoSpec, NoStarNext, no_star_other, type_one}
use Rattle.c_syntax.proofs.Parsing.ReadsOne.{one_reading, one_more}
use Rattle.c_expressions.specs.declared.parser.Parsed.{Parsed}
use Rattle.c_expressions.specs.declared.operators.Level.{Level}
use Rattle.c_expressions.specs.declared.operators.Level.TheVariants as level
use Rattle.c_expressions.specs.declared.operators.Infix.{Infix}
use Rattle.c_expressions.specs.declared.operators.Infix.TheVariants as between
use Rattle.c_expressions.specs.declared.operators.Assignment.{Assignment}
use Rattle.c_expressions.specs.declared.operators.Assignment.TheVariants as assignment
use Rattle.c_cursor.specs.Front.{behind, kind_mark, mark_at, opens_type}
use Rattle.c_expressions.specs.Operators.{level_row, row_at, binary_level, infix_form, next_assignment, assignment_form, IsInfix}
use Rattle.c_expressions.specs.Parses.{Climbs, AtPrimary, Up, read, ReadBy, place_from, IsMeasured, IsParsed, IsMore, IsNode, ReadsClosed, NoReading, NoMore, NotClosed}
use Rattle.c_expressions.proofs.Nexts.{next_at, next_is, binary_row, pair_of, level_passes, same_level, assignment_back, level_goes, no_cast, no_comma, comma_goes}
use Rattle.c_expressions.proofs.Firsts.{opens_cast, cast_is, cast_passes_by}
use Rattle.c_expressions.proofs.Rows.{PassesOn, passing, read_on, stops, node_more, two_measured, infix_height, assignment_height}
use Rattle.c_expressions.proofs.Words.{behind_shorter}

-- ---- one reading, with a start too

one_climb : (row : Row) (at : ℕ) (first o p : Reading) → Climbs row at first o → Climbs row at first p → o ≡ p
one_climb row at first o p AtPrimary AtPrimary = refl
one_climb row at first o p AtPrimary (Up e c m) = absurd cc
one_climb row at first o p (Up e c m) AtPrimary = absurd cc
one_climb row at first o p (Up {next = n} {mid = x} e c m) (Up {next = k} {mid = y} e' c' m') =
    let same : k ≡ n = ap or_primary (sym e' ∙ e) in
    let mids : x ≡ y = one_climb n at first x y c (subst (λ q. Climbs q at first y) same c') in
    one_more row at (going_of row (next_of x.rest)) x.tree x.unary x.rest o p m (subst (λ z. More row at (going_of row (next_of z.rest)) z.tree z.unary z.rest p) (sym mids) m')

pub one_by : (row : Row) (start : Option Parsed) (before : List Token) (o p : Reading) → ReadBy row start before o → ReadBy row start before p → o ≡ p
one_by row None before o p r q = one_reading row before o p r q
one_by row (Some s) before o p r q = one_climb row s.at (read s before) o p r q

-- ---- heights grow

pub grows : (row : Row) (at : ℕ) (going : Going) (left : Expression) (unary : Bool) (rest : List Token) (all : Reading) → More row at going left unary rest all → expression_height left ≤ expression_height all.tree
grows row at going left unary rest all Stop = omega arith
grows row at going left unary rest all (CommaMore {o = o} is r m) = let k = grows ExpressionRow at _ (Node (Comma left o.tree) at) false o.rest all m in omega (arith, k)
grows row at going left unary rest all (AssignMore is r) = omega arith
grows row at going left unary rest all (AssignOpMore q e is r) = omega arith
grows row at going left unary rest all (QuestionMore is r n s) = omega arith
grows row at going left unary rest all (OrMore {o = o} is r m) = let k = grows OrRow at _ (Node (Or left o.tree) at) false o.rest all m in omega (arith, k)
grows row at going left unary rest all (AndMore {o = o} is r m) = let k = grows AndRow at _ (Node (And left o.tree) at) false o.rest all m in omega (arith, k)
grows row at going left unary rest all (BinaryMore {operator = op} {o = o} e is r m) = let k = grows row at _ (Node (Binary op left o.tree) at) false o.rest all m in omega (arith, k)
grows row at going left unary rest all (IndexMore {index = i} {more = more} is r n m) = let k = grows PostfixRow at _ (Node (Index left i) at) true more all m in omega (arith, k)
grows row at going left unary rest all (StepMore {up = up} {input = l} is m) = let k = grows PostfixRow at _ (Node (StepAfter up left) at) true l all m in omega (arith, k)

-- ---- passing on

pub record Passed (row next : Row) (start : Option Parsed) (before : List Token) (all : Reading) : Type 0 where
  pub mid : Reading
  pub reads : ReadBy next start before mid
  pub more : More row (place_from start before) (going_of row (next_of mid.rest)) mid.tree mid.unary mid.rest all

pass_first : (row next : Row) (before : List Token) (mid : Reading) → Starts row (PassTo next) before mid → Reads next before mid
pass_first row next before mid (PassFirst e r) = r

passed_by : (row next : Row) (start : Option Parsed) (before : List Token) (all : Reading) → tighter row ≡ Some next → PassesOn row next start before → ReadBy row start before all → Passed row next start before all
passed_by row next None before all e pass (Both {first = x} s m) = record { mid = x; reads = pass_first row next before x (subst (λ f. Starts row f before x) pass s); more = m }
passed_by row next (Some s) before all e pass AtPrimary = absurd cc
passed_by row next (Some s) before all e pass (Up {mid = x} f c m) =
    record { mid = x; reads = subst (λ q. Climbs q s.at (read s before) x) (ap or_primary (sym f ∙ e)) c; more = m }

-- where the tighter row has no reading, the row has none
pub first_refused : (row next : Row) (start : Option Parsed) (depth : ℕ) (before : List Token) → tighter row ≡ Some next → PassesOn row next start before → NoReading next start depth before → NoReading row start depth before
first_refused row next start depth before e pass n = record {
  never = λ all r h.
      let q = passed_by row next start before all e pass r in
      n.never q.mid q.reads (let k = grows row _ _ q.mid.tree q.mid.unary q.mid.rest all q.more in omega (arith, k, h));
}

-- ---- what was read so far

abbrev pub MoreOf : Row → Parsed → List Token → Reading → Type 0
MoreOf row left after all = More row left.at (going_of row (next_of after)) (expression_of left.tree.value) left.is_unary after all

module _ (row next : Row) (start : Option Parsed) (before : List Token) (depth : ℕ) (left : Parsed) (after : List Token) (e : tighter row ≡ Some next) (pass : PassesOn row next start before) (r : IsParsed next start before depth left after) where
  goes_through : (all : Reading) → ReadBy row start before all → MoreOf row left after all
  goes_through all k =
      let q = passed_by row next start before all e pass k in
      let same : q.mid ≡ read left after = one_by next start before q.mid (read left after) q.reads r.reads in
      subst (λ a. More row a (going_of row (next_of after)) (expression_of left.tree.value) left.is_unary after all) (sym r.place)
      (subst (λ z. More row (place_from start before) (going_of row (next_of z.rest)) z.tree z.unary z.rest all) same q.more)

  -- where nothing goes on from there that fits, the row has no reading
  pub more_refused : NoMore row left depth after → NoReading row start depth before
  more_refused n = record { never = λ all k h. n.never all (goes_through all k) h }

-- what was read so far goes on as the whole does
pub record MoreSoFar (row : Row) (start : Parsed) (before : List Token) (depth : ℕ) (left : Parsed) (after : List Token) : Type 0 where
  pub goes : (all : Reading) → MoreOf row left after all → MoreOf row start before all
  pub only : (all : Reading) → MoreOf row start before all → MoreOf row left after all
  pub place : left.at ≡ start.at
  pub measured : IsMeasured depth left
  pub shorter : length after ≤ length before

pub more_begins : (row : Row) (start : Parsed) (before : List Token) (depth : ℕ) → IsMeasured depth start → MoreSoFar row start before depth start before
more_begins row start before depth m = record { goes = λ all k. k; only = λ all k. k; place = refl; measured = m; shorter = omega arith }

pub more_done : (row : Row) (start : Parsed) (before : List Token) (depth : ℕ) (left : Parsed) (after : List Token) → MoreSoFar row start before depth left after → going_of row (next_of after) ≡ Stops → IsMore row start before depth left after
more_done row start before depth left after s e = record {
  more = s.goes (read left after) (subst (λ g. More row left.at g (expression_of left.tree.value) left.is_unary after (read left after)) (sym e) Stop);
  place = s.place;
  measured = s.measured;
  shorter = s.shorter;
}

-- ---- one more operand

pub record Joined (row next : Row) (form : Expression → Expression → ExpressionForm) (at : ℕ) (left : Expression) (tokens : List Token) (all : Reading) : Type 0 where
  pub right : Reading
  pub reads : Reads next (behind tokens) right
  pub more : More row at (going_of row (next_of right.rest)) (Node (form left right.tree) at) false right.rest all

-- what goes on with a node goes on with it where it stands
node_stands : (row : Row) (form : ExpressionForm) (at : ℕ) (unary : Bool) (parts : ℕ) (p : Parsed) (rest : List Token) (all : Reading) → IsNode form at unary parts p
    → More row at (going_of row (next_of rest)) (Node form at) unary rest all → MoreOf row p rest all
node_stands row form at unary parts p rest all n m =
    subst (λ u. More row p.at (going_of row (next_of rest)) (expression_of p.tree.value) u rest all) (sym n.unary_is)
    (subst (λ t. More row p.at (going_of row (next_of rest)) t unary rest all) (sym n.tree)
    (subst (λ a. More row a (going_of row (next_of rest)) (Node form at) unary rest all) (sym n.place) m))

module _ (row next : Row) (form : Expression → Expression → ExpressionForm) (tall : (l r : Expression) → form_height (form l r) ≡ max (expression_height l) (expression_height r))
    (start : Parsed) (before : List Token) (depth : ℕ) (left : Parsed) (after : List Token) (s : MoreSoFar row start before depth left after)
    (joins : (all : Reading) → MoreOf row left after all → Joined row next form left.at (expression_of left.tree.value) after all) where
  joined_high : (all : Reading) (j : Joined row next form left.at (expression_of left.tree.value) after all)
      → (expression_height (expression_of left.tree.value) + 1 ≤ expression_height all.tree) × (expression_height j.right.tree + 1 ≤ expression_height all.tree)
  joined_high all j =
      let k = grows row left.at _ (Node (form (expression_of left.tree.value) j.right.tree) left.at) false j.right.rest all j.more in
      let e = tall (expression_of left.tree.value) j.right.tree in
      (omega (arith, k, e), omega (arith, k, e))

  join_too_high : greatest_height < depth + left.height + 1 → NoMore row start depth before
  join_too_high h = record {
    never = λ all m low.
        let k = (joined_high all (joins all (s.only all m))).0 in
        let e = s.measured.height in
        omega (arith, k, e, h, low);
  }

  right_refused : NoReading next None (depth + 1) (behind after) → NoMore row start depth before
  right_refused n = record {
    never = λ all m low.
        let j = joins all (s.only all m) in
        let k = (joined_high all j).1 in
        n.never j.right j.reads (omega (arith, k, low));
  }

  joined_more : ((o all : Reading) → Reads next (behind after) o → More row left.at (going_of row (next_of o.rest)) (Node (form (expression_of left.tree.value) o.tree) left.at) false o.rest all → MoreOf row left after all)
      → (right : Parsed) (rest : List Token) (p : Parsed) → depth + left.height + 1 ≤ greatest_height → IsParsed next None (behind after) (depth + 1) right rest
      → IsNode (form (expression_of left.tree.value) (expression_of right.tree.value)) left.at false (max left.height right.height) p → MoreSoFar row start before depth p rest
  joined_more goes right rest p le r n = record {
    goes = λ all m. s.goes all (goes (read right rest) all r.reads (node_more row left.at _ false _ p rest all n m));
    only = λ all m.
        let j = joins all (s.only all m) in
        let same : j.right ≡ read right rest = one_reading next (behind after) j.right (read right rest) j.reads r.reads in
        node_stands row (form (expression_of left.tree.value) (expression_of right.tree.value)) left.at false (max left.height right.height) p rest all n
        (subst (λ z. More row left.at (going_of row (next_of z.rest)) (Node (form (expression_of left.tree.value) z.tree) left.at) false z.rest all) same j.more);
    place = n.place ∙ s.place;
    measured = two_measured depth left right _ left.at false p s.measured r.measured le (tall (expression_of left.tree.value) (expression_of right.tree.value)) n;
    shorter = let k = r.shorter in omega (arith, behind_shorter after, s.shorter);
  }

-- ---- the row `expression`

next_by : (tokens : List Token) (m : _) → mark_at tokens ≡ Some m → next_of tokens ≡ next_at (Some m)
next_by tokens m e = next_is tokens ∙ ap next_at e

comma_joins_by : (at : ℕ) (left : Expression) (unary : Bool) (tokens : List Token) (all : Reading) → More ExpressionRow at (Goes CommaNext) left unary tokens all → Joined ExpressionRow AssignmentRow Comma at left tokens all
comma_joins_by at left unary tokens all (CommaMore {o = o} is r m) = record { right = o; reads = r; more = m }

comma_joins : (left : Parsed) (after : List Token) → mark_at after ≡ Some mark.Comma → (all : Reading) → MoreOf ExpressionRow left after all → Joined ExpressionRow AssignmentRow Comma left.at (expression_of left.tree.value) after all
comma_joins left after e all m =
    comma_joins_by left.at (expression_of left.tree.value) left.is_unary after all
    (subst (λ n. More ExpressionRow left.at (going_of ExpressionRow n) (expression_of left.tree.value) left.is_unary after all) (next_by after mark.Comma e) m)

comma_tall : (l r : Expression) → form_height (Comma l r) ≡ max (expression_height l) (expression_height r)
comma_tall l r = refl

module _ (start : Parsed) (before : List Token) (depth : ℕ) (left : Parsed) (after : List Token) (s : MoreSoFar ExpressionRow start before depth left after) where
  pub commas_done : mark_at after ≢ Some mark.Comma → IsMore ExpressionRow start before depth left after
  commas_done h = more_done ExpressionRow start before depth left after s (no_comma after h)

  module _ (e : mark_at after ≡ Some mark.Comma) where
    pub comma_too_high : greatest_height < depth + left.height + 1 → NoMore ExpressionRow start depth before
    comma_too_high = join_too_high ExpressionRow AssignmentRow Comma comma_tall start before depth left after s (comma_joins left after e)

    pub comma_refused : NoReading AssignmentRow None (depth + 1) (behind after) → NoMore ExpressionRow start depth before
    comma_refused = right_refused ExpressionRow AssignmentRow Comma comma_tall start before depth left after s (comma_joins left after e)

    pub comma_more : (right : Parsed) (rest : List Token) (p : Parsed) → depth + left.height + 1 ≤ greatest_height → IsParsed AssignmentRow None (behind after) (depth + 1) right rest
        → IsNode (Comma (expression_of left.tree.value) (expression_of right.tree.value)) left.at false (max left.height right.height) p → MoreSoFar ExpressionRow start before depth p rest
    comma_more =
        joined_more ExpressionRow AssignmentRow Comma comma_tall start before depth left after s (comma_joins left after e)
        (λ o all r m. comma_goes left.at (expression_of left.tree.value) left.is_unary after o all e r m)

-- ---- a level

or_joins : (at : ℕ) (left : Expression) (unary : Bool) (tokens : List Token) (all : Reading) → More OrRow at (Goes OrNext) left unary tokens all → Joined OrRow AndRow Or at left tokens all
or_joins at left unary tokens all (OrMore {o = o} is r m) = record { right = o; reads = r; more = m }

and_joins : (at : ℕ) (left : Expression) (unary : Bool) (tokens : List Token) (all : Reading) → More AndRow at (Goes AndNext) left unary tokens all → Joined AndRow BitOrRow And at left tokens all
and_joins at left unary tokens all (AndMore {o = o} is r m) = record { right = o; reads = r; more = m }

binary_joins : (row : Row) (op : BinaryOp) (at : ℕ) (left : Expression) (unary : Bool) (tokens : List Token) (all : Reading) → More row at (Goes (BinaryNext op)) left unary tokens all → Joined row (tight row) (Binary op) at left tokens all
binary_joins row op at left unary tokens all (BinaryMore {o = o} e is r m) = record { right = o; reads = r; more = m }

module _ (at : ℕ) (left : Expression) (unary : Bool) (tokens : List Token) (all : Reading) where
  abbrev LevelJoins : Next → Level × Infix → Type 0
  LevelJoins n p = More (level_row p.0) at (going_of (level_row p.0) n) left unary tokens all → Joined (level_row p.0) (tight (level_row p.0)) (infix_form p.1) at left tokens all

  level_joins_by : (l : Level) (i : Infix) (n : Next) → IsInfix l n i → LevelJoins n (l, i)
  level_joins_by l i OrNext is = subst (LevelJoins OrNext) (ap pair_of is) (or_joins at left unary tokens all)
  level_joins_by l i AndNext is = subst (LevelJoins AndNext) (ap pair_of is) (and_joins at left unary tokens all)
  level_joins_by l i (BinaryNext op) is =
      let goes = going_goes (level_row (binary_level op)) (BinaryNext op) (ap row_rank (binary_row op)) in
      let one : LevelJoins (BinaryNext op) (binary_level op, between.Value op) = λ m. binary_joins (level_row (binary_level op)) op at left unary tokens all (subst (λ g. More (level_row (binary_level op)) at g left unary tokens all) goes m) in
      subst (LevelJoins (BinaryNext op)) (ap pair_of is) one
  level_joins_by l i n is = absurd cc

pub level_joins : (l : Level) (i : Infix) (left : Parsed) (after : List Token) → IsInfix l (next_of after) i → (all : Reading) → MoreOf (level_row l) left after all
    → Joined (level_row l) (tight (level_row l)) (infix_form i) left.at (expression_of left.tree.value) after all
level_joins l i left after is all m = level_joins_by left.at (expression_of left.tree.value) left.is_unary after all l i (next_of after) is m

module _ (l : Level) (start : Parsed) (before : List Token) (depth : ℕ) (left : Parsed) (after : List Token) (s : MoreSoFar (level_row l) start before depth left after) (i : Infix) (is : IsInfix l (next_of after) i) where
  pub operator_too_high : greatest_height < depth + left.height + 1 → NoMore (level_row l) start depth before
  operator_too_high = join_too_high (level_row l) (tight (level_row l)) (infix_form i) (infix_height i) start before depth left after s (level_joins l i left after is)

  -- the operand is of the row of the next tighter level
  module _ (next : Option Level) (e : tighter (level_row l) ≡ Some (row_at next)) where
    pub operand_refused : NoReading (row_at next) None (depth + 1) (behind after) → NoMore (level_row l) start depth before
    operand_refused n =
        right_refused (level_row l) (tight (level_row l)) (infix_form i) (infix_height i) start before depth left after s (level_joins l i left after is)
        (subst (λ row. NoReading row None (depth + 1) (behind after)) (sym (ap or_primary e)) n)

    pub level_more : (right : Parsed) (rest : List Token) (p : Parsed) → depth + left.height + 1 ≤ greatest_height → IsParsed (row_at next) None (behind after) (depth + 1) right rest
        → IsNode (infix_form i (expression_of left.tree.value) (expression_of right.tree.value)) left.at false (max left.height right.height) p → MoreSoFar (level_row l) start before depth p rest
    level_more right rest p le r n =
        joined_more (level_row l) (tight (level_row l)) (infix_form i) (infix_height i) start before depth left after s (level_joins l i left after is)
        (λ o all q m. level_goes left.at (expression_of left.tree.value) left.is_unary after l i o all is q m) right rest p le
        (subst (λ row. IsParsed row None (behind after) (depth + 1) right rest) (sym (ap or_primary e)) r) n

-- ---- the loop over the levels

pub record LevelsSoFar (loosest : Option Level) (start : Option Parsed) (before : List Token) (depth : ℕ) (l : Option Level) (left : Parsed) (after : List Token) : Type 0 where
  pub parsed : IsParsed (row_at l) start before depth left after
  pub tight_enough : row_rank (row_at loosest) ≤ row_rank (row_at l)

loosest_level : (l : Option Level) → 4 ≤ row_rank (row_at l)
loosest_level None = omega arith
loosest_level (Some level.Or) = omega arith
loosest_level (Some l) = omega arith

level_above : (l : Level) → row_rank (level_row l) < 14
level_above level.Or = omega arith
level_above l = omega arith

same_rank : (k l : Option Level) → row_rank (row_at k) ≡ row_rank (row_at l) → k ≡ l
same_rank None None e = refl
same_rank None (Some l) e = absurd (omega (arith, e, level_above l))
same_rank (Some k) None e = absurd (omega (arith, e, level_above k))
same_rank (Some k) (Some l) e = ap Some (same_level k l e)

pub cast_tightest : (l : Option Level) → row_rank (row_at l) ≤ 14
cast_tightest None = omega arith
cast_tightest (Some l) = omega (arith, level_above l)

tight_rank : (l : Level) → row_rank (tight (level_row l)) ≡ row_rank (level_row l) + 1
tight_rank level.Or = refl
tight_rank l = refl

no_loosest : (low loosest : Option Level) → row_rank (row_at loosest) < row_rank (row_at low) → low ≢ Some level.Or
no_loosest low loosest h e = let k = ap (λ l. row_rank (row_at l)) e in omega (arith, h, k, loosest_level loosest)

-- the row of a level is one looser than that to which it passes on
one_looser : (low : Option Level) (l : Level) → tighter (level_row l) ≡ Some (row_at low) → row_rank (row_at low) ≡ row_rank (level_row l) + 1
one_looser low l e = ap (λ r. row_rank (or_primary r)) (sym e) ∙ tight_rank l

-- the next looser level, where the loosest of all isn't reached
pub record IsLooser (loosest low : Option Level) (l : Level) : Type 0 where
  pub row : tighter (level_row l) ≡ Some (row_at low)
  pub rank : row_rank (row_at low) ≡ row_rank (level_row l) + 1
  pub tight_enough : row_rank (row_at loosest) ≤ row_rank (level_row l)

pub is_looser : (loosest low : Option Level) (l : Level) → row_rank (row_at loosest) ≤ row_rank (row_at low) → low ≢ loosest → (low ≢ Some level.Or → tighter (level_row l) ≡ Some (row_at low)) → IsLooser loosest low l
is_looser loosest low l h n next =
    let less : row_rank (row_at loosest) < row_rank (row_at low) = ⊎_elim (λ e. absurd (n (same_rank low loosest (sym e)))) (λ k. k) (eq-or-lt_of_le h) in
    let row = next (no_loosest low loosest less) in
    let rank = one_looser low l row in
    record { row = row; rank = rank; tight_enough = omega (arith, less, rank) }

looser_of : (low : Option Level) → low ≢ Some level.Or → (l : Level) × (tighter (level_row l) ≡ Some (row_at low))
looser_of None h = (level.Product, refl)
looser_of (Some level.Product) h = (level.Sum, refl)
looser_of (Some level.Sum) h = (level.Shift, refl)
looser_of (Some level.Shift) h = (level.Relation, refl)
looser_of (Some level.Relation) h = (level.Equality, refl)
looser_of (Some level.Equality) h = (level.BitAnd, refl)
looser_of (Some level.BitAnd) h = (level.BitXor, refl)
looser_of (Some level.BitXor) h = (level.BitOr, refl)
looser_of (Some level.BitOr) h = (level.And, refl)
looser_of (Some level.And) h = (level.Or, refl)
looser_of (Some level.Or) h = absurd (h refl)

module _ (start : Option Parsed) (before : List Token) (depth : ℕ) where
  level_first : (low : Option Level) (l : Level) → tighter (level_row l) ≡ Some (row_at low) → PassesOn (level_row l) (row_at low) start before
  level_first low l e = passing (level_row l) (row_at low) start before (level_passes l (start_of before) ∙ ap PassTo (ap or_primary e))

  level_first_refused : (low : Option Level) (l : Level) → tighter (level_row l) ≡ Some (row_at low) → NoReading (row_at low) start depth before → NoReading (level_row l) start depth before
  level_first_refused low l e = first_refused (level_row l) (row_at low) start depth before e (level_first low l e)

  refused_by : (n : ℕ) (low loosest : Option Level) → row_rank (row_at low) ≡ row_rank (row_at loosest) + n → NoReading (row_at low) start depth before → NoReading (row_at loosest) start depth before
  refused_by zero low loosest e r = subst (λ l. NoReading (row_at l) start depth before) (same_rank low loosest (omega (arith, e))) r
  refused_by (suc n) low loosest e r =
      let next = looser_of low (no_loosest low loosest (omega (arith, e))) in
      refused_by n (Some next.0) loosest (omega (arith, e, one_looser low next.0 next.1)) (level_first_refused low next.0 next.1 r)

  -- where a level has no reading, no looser one has
  pub looser_refused : (low loosest : Option Level) → row_rank (row_at loosest) ≤ row_rank (row_at low) → NoReading (row_at low) start depth before → NoReading (row_at loosest) start depth before
  looser_refused low loosest h r = refused_by (row_rank (row_at low) - row_rank (row_at loosest)) low loosest (omega (arith, h)) r

  module _ (low : Option Level) (l : Level) (left : Parsed) (after : List Token) (e : tighter (level_row l) ≡ Some (row_at low)) (r : IsParsed (row_at low) start before depth left after) where
    pub level_read : (p : Parsed) (rest : List Token) → IsMore (level_row l) left after depth p rest → IsParsed (level_row l) start before depth p rest
    level_read = read_on (level_row l) (row_at low) start before depth left after e (level_first low l e) r

    pub level_refused : NoMore (level_row l) left depth after → NoReading (level_row l) start depth before
    level_refused = more_refused (level_row l) (row_at low) start before depth left after e (level_first low l e) r

-- ---- the rows from `expression` to `conditional`, which pass on to the next tighter one

module _ (start : Option Parsed) (before : List Token) (depth : ℕ) where
  pub expression_first_refused : NoReading AssignmentRow start depth before → NoReading ExpressionRow start depth before
  expression_first_refused = first_refused ExpressionRow AssignmentRow start depth before refl (passing ExpressionRow AssignmentRow start before refl)

  pub assignment_first_refused : NoReading ConditionalRow start depth before → NoReading AssignmentRow start depth before
  assignment_first_refused = first_refused AssignmentRow ConditionalRow start depth before refl (passing AssignmentRow ConditionalRow start before refl)

  pub conditional_first_refused : NoReading OrRow start depth before → NoReading ConditionalRow start depth before
  conditional_first_refused = first_refused ConditionalRow OrRow start depth before refl (passing ConditionalRow OrRow start before refl)

  module _ (left : Parsed) (after : List Token) where
    pub expression_read : IsParsed AssignmentRow start before depth left after → (p : Parsed) (rest : List Token) → IsMore ExpressionRow left after depth p rest → IsParsed ExpressionRow start before depth p rest
    expression_read = read_on ExpressionRow AssignmentRow start before depth left after refl (passing ExpressionRow AssignmentRow start before refl)

    pub expression_refused : IsParsed AssignmentRow start before depth left after → NoMore ExpressionRow left depth after → NoReading ExpressionRow start depth before
    expression_refused = more_refused ExpressionRow AssignmentRow start before depth left after refl (passing ExpressionRow AssignmentRow start before refl)

    pub assignment_read : IsParsed ConditionalRow start before depth left after → (p : Parsed) (rest : List Token) → IsMore AssignmentRow left after depth p rest → IsParsed AssignmentRow start before depth p rest
    assignment_read = read_on AssignmentRow ConditionalRow start before depth left after refl (passing AssignmentRow ConditionalRow start before refl)

    pub assignment_refused : IsParsed ConditionalRow start before depth left after → NoMore AssignmentRow left depth after → NoReading AssignmentRow start depth before
    assignment_refused = more_refused AssignmentRow ConditionalRow start before depth left after refl (passing AssignmentRow ConditionalRow start before refl)

    pub conditional_read : IsParsed OrRow start before depth left after → (p : Parsed) (rest : List Token) → IsMore ConditionalRow left after depth p rest → IsParsed ConditionalRow start before depth p rest
    conditional_read = read_on ConditionalRow OrRow start before depth left after refl (passing ConditionalRow OrRow start before refl)

    pub conditional_refused : IsParsed OrRow start before depth left after → NoMore ConditionalRow left depth after → NoReading ConditionalRow start depth before
    conditional_refused = more_refused ConditionalRow OrRow start before depth left after refl (passing ConditionalRow OrRow start before refl)

-- ---- the row `assignment`

-- only a unary is assigned to
pub record Assigned (a : Assignment) (at : ℕ) (left : Expression) (unary : Bool) (tokens : List Token) (all : Reading) : Type 0 where
  pub only : unary ≡ true
  pub right : Reading
  pub reads : Reads AssignmentRow (behind tokens) right
  pub is : all.tree ≡ Node (assignment_form a left right.tree) at

assigned_plain : (at : ℕ) (left : Expression) (unary : Bool) (tokens : List Token) (all : Reading) → More AssignmentRow at (Goes AssignNext) left unary tokens all → Assigned assignment.Plain at left unary tokens all
assigned_plain at left unary tokens all (AssignMore {o = o} is r) = record { only = refl; right = o; reads = r; is = refl }

assigned_with : (op : BinaryOp) (at : ℕ) (left : Expression) (unary : Bool) (tokens : List Token) (all : Reading) → More AssignmentRow at (Goes (AssignOpNext op)) left unary tokens all
    → Assigned (assignment.With op) at left unary tokens all
assigned_with op at left unary tokens all (AssignOpMore {o = o} k e is r) = record { only = refl; right = o; reads = r; is = refl }

assigned_by : (a : Assignment) (n : Next) (at : ℕ) (left : Expression) (unary : Bool) (tokens : List Token) (all : Reading) → next_assignment n ≡ Some a → More AssignmentRow at (going_of AssignmentRow n) left unary tokens all
    → Assigned a at left unary tokens all
assigned_by a AssignNext at left unary tokens all e m = subst (λ b. Assigned b at left unary tokens all) (ap assignment_back e) (assigned_plain at left unary tokens all m)
assigned_by a (AssignOpNext op) at left unary tokens all e m = subst (λ b. Assigned b at left unary tokens all) (ap assignment_back e) (assigned_with op at left unary tokens all m)
assigned_by a n at left unary tokens all e m = absurd cc

module _ (depth : ℕ) (left : Parsed) (before : List Token) (a : Assignment) (e : next_assignment (next_of before) ≡ Some a) where
  assigns : (all : Reading) → MoreOf AssignmentRow left before all → Assigned a left.at (expression_of left.tree.value) left.is_unary before all
  assigns all m = assigned_by a (next_of before) left.at (expression_of left.tree.value) left.is_unary before all e m

  assigned_high : (all : Reading) (k : Assigned a left.at (expression_of left.tree.value) left.is_unary before all)
      → (expression_height (expression_of left.tree.value) + 1 ≤ expression_height all.tree) × (expression_height k.right.tree + 1 ≤ expression_height all.tree)
  assigned_high all k =
      let high = ap expression_height k.is in
      let tall = assignment_height a (expression_of left.tree.value) k.right.tree in
      (omega (arith, high, tall), omega (arith, high, tall))

  pub not_assigned_to : left.is_unary ≢ true → NoMore AssignmentRow left depth before
  not_assigned_to h = record { never = λ all m low. h (assigns all m).only }

  pub assignment_too_high : IsMeasured depth left → greatest_height < depth + left.height + 1 → NoMore AssignmentRow left depth before
  assignment_too_high l h = record { never = λ all m low. let j = (assigned_high all (assigns all m)).0 in let q = l.height in omega (arith, j, q, h, low) }

  pub assigned_refused : NoReading AssignmentRow None (depth + 1) (behind before) → NoMore AssignmentRow left depth before
  assigned_refused n = record { never = λ all m low. let s = assigns all m in let j = (assigned_high all s).1 in n.never s.right s.reads (omega (arith, j, low)) }

-- ---- the row `conditional`

pub record Chosen (at : ℕ) (left : Expression) (tokens : List Token) (all : Reading) : Type 0 where
  pub first : Reading
  pub reads_first : Reads ExpressionRow (behind tokens) first
  pub colon : mark_at first.rest ≡ Some mark.Colon
  pub second : Reading
  pub reads_second : Reads ConditionalRow (behind first.rest) second
  pub is : all.tree ≡ Node (Conditional left first.tree second.tree) at

chosen_by : (at : ℕ) (left : Expression) (unary : Bool) (tokens : List Token) (all : Reading) → More ConditionalRow at (Goes QuestionNext) left unary tokens all → Chosen at left tokens all
chosen_by at left unary tokens all (QuestionMore {chosen = chosen} {same = same} {u = u} {more = more} {o = o} is r colon s) =
    record { first = reading chosen same (u ∷ more); reads_first = r; colon = ap kind_mark colon; second = o; reads_second = s; is = refl }

module _ (depth : ℕ) (test : Parsed) (before : List Token) (e : mark_at before ≡ Some mark.Question) where
  chooses : (all : Reading) → MoreOf ConditionalRow test before all → Chosen test.at (expression_of test.tree.value) before all
  chooses all m =
      chosen_by test.at (expression_of test.tree.value) test.is_unary before all
      (subst (λ n. More ConditionalRow test.at (going_of ConditionalRow n) (expression_of test.tree.value) test.is_unary before all) (next_by before mark.Question e) m)

  pub conditional_too_high : IsMeasured depth test → greatest_height < depth + test.height + 1 → NoMore ConditionalRow test depth before
  conditional_too_high l h = record { never = λ all m low. let j = ap expression_height (chooses all m).is in let q = l.height in omega (arith, j, q, h, low) }

  pub chosen_refused : NoReading ExpressionRow None (depth + 1) (behind before) → NoMore ConditionalRow test depth before
  chosen_refused n = record { never = λ all m low. let s = chooses all m in let j = ap expression_height s.is in n.never s.first s.reads_first (omega (arith, j, low)) }

  module _ (chosen : Parsed) (mid : List Token) (q : IsParsed ExpressionRow None (behind before) (depth + 1) chosen mid) where
    chosen_first : (all : Reading) (m : MoreOf ConditionalRow test before all) → (chooses all m).first.rest ≡ mid
    chosen_first all m = let s = chooses all m in ap (λ o. o.rest) (one_reading ExpressionRow (behind before) s.first (read chosen mid) s.reads_first q.reads)

    pub no_colon : mark_at mid ≢ Some mark.Colon → NoMore ConditionalRow test depth before
    no_colon h = record { never = λ all m low. h (sym (ap mark_at (chosen_first all m)) ∙ (chooses all m).colon) }

    pub other_refused : NoReading ConditionalRow None (depth + 1) (behind mid) → NoMore ConditionalRow test depth before
    other_refused n = record {
      never = λ all m low.
          let s = chooses all m in
          let j = ap expression_height s.is in
          n.never s.second (subst (λ l. Reads ConditionalRow (behind l) s.second) (chosen_first all m) s.reads_second) (omega (arith, j, low));
    }

-- ---- the row `cast`

pub record CastTaken (before : List Token) (all : Reading) : Type 0 where
  pub type : TypeTree
  pub mid : List Token
  pub closed : ReadsClosed before type mid
  pub operand : Reading
  pub reads : Reads CastRow mid operand
  pub is : all.tree ≡ Node (Cast type operand.tree) (place_of before)

nothing_behind : (row : Row) (at : ℕ) (left : Expression) (unary : Bool) (rest : List Token) (all : Reading) → More row at Stops left unary rest all → all ≡ reading left unary rest
nothing_behind row at left unary rest all Stop = refl

cast_taken_by : (before : List Token) (first : Reading) → Starts CastRow (Takes CastStart) before first → CastTaken before first
cast_taken_by before first (CastFirst {t = t} {input = l} a rest u {type = type} {o = o} opens cut is closes r) = record {
  type = type;
  mid = rest;
  closed = record { opening = t; taken = a; close = u; cut = ap (λ k. t ∷ k) cut; opens = opens; is = is; closes = closes };
  operand = o;
  reads = r;
  is = refl;
}

cast_taken : (before : List Token) (all : Reading) → opens_type before ≡ true → Reads CastRow before all → CastTaken before all
cast_taken before all opened (Both {first = x} s m) =
    let same = nothing_behind CastRow (place_of before) x.tree x.unary x.rest all (subst (λ g. More CastRow (place_of before) g x.tree x.unary x.rest all) (no_cast (next_of x.rest)) m) in
    let start = cast_is (start_of before) (opens_cast before ∙ opened) in
    subst (CastTaken before) (sym same) (cast_taken_by before x (subst (λ f. Starts CastRow f before x) (ap (first_of CastRow) start) s))

cast_high : (type : TypeTree) (operand : Expression) → (2 ≤ 1 + form_height (Cast type operand)) × (expression_height operand + 1 ≤ 1 + form_height (Cast type operand))
cast_high type operand = (omega arith, omega arith)

-- a type is closed in one place
close_no_spec : (u : Token) (rest : List Token) → IsMark mark.CloseParen u → NoSpec (u ∷ rest)
close_no_spec u rest m = ap kind_spec m

close_no_star : (u : Token) (rest : List Token) → IsMark mark.CloseParen u → NoStarNext (u ∷ rest)
close_no_star u rest m = no_star_other (u ∷ rest) (is_next mark.CloseParen u m)

closed_once : (before r s : List Token) (x y : TypeTree) → ReadsClosed before x r → ReadsClosed before y s → r ≡ s
closed_once before r s x y a b =
    let same = type_one a.taken b.taken (a.close ∷ r) (b.close ∷ s) x y a.is b.is (close_no_spec a.close r a.closes) (close_no_spec b.close s b.closes) (close_no_star a.close r a.closes) (close_no_star b.close s b.closes)
    (ap behind (sym a.cut ∙ b.cut)) in
    ap behind same.2

-- whether a cast passes on to a unary
cast_passing : (before : List Token) → opens_type before ≡ false → PassesOn CastRow UnaryRow None before
cast_passing before opened = passing CastRow UnaryRow None before (cast_passes_by (start_of before) (opens_cast before ∙ opened))

module _ (before : List Token) (depth : ℕ) where
  pub cast_passes : (p : Parsed) (after : List Token) → opens_type before ≡ false → IsParsed UnaryRow None before depth p after → IsParsed CastRow None before depth p after
  cast_passes p after opened r = stops CastRow UnaryRow None before depth p after refl (cast_passing before opened) r (no_cast (next_of after))

  pub cast_first_refused : opens_type before ≡ false → NoReading UnaryRow None depth before → NoReading CastRow None depth before
  cast_first_refused opened = first_refused CastRow UnaryRow None depth before refl (cast_passing before opened)

  pub cast_starts : (s p : Parsed) (after : List Token) → IsParsed UnaryRow (Some s) before depth p after → IsParsed CastRow (Some s) before depth p after
  cast_starts s p after r = stops CastRow UnaryRow (Some s) before depth p after refl (tt {0}) r (no_cast (next_of after))

  pub cast_start_refused : (s : Parsed) → NoReading UnaryRow (Some s) depth before → NoReading CastRow (Some s) depth before
  cast_start_refused s = first_refused CastRow UnaryRow (Some s) depth before refl (tt {0})

  module _ (opened : opens_type before ≡ true) where
    pub cast_too_high : greatest_height < depth + 1 + 1 → NoReading CastRow None depth before
    cast_too_high h = record {
      never = λ all r low.
          let k = cast_taken before all opened r in
          let high = ap expression_height k.is in
          let two = (cast_high k.type k.operand.tree).0 in
          omega (arith, high, two, h, low);
    }

    pub cast_not_closed : NotClosed before → NoReading CastRow None depth before
    cast_not_closed n = record { never = λ all r low. let k = cast_taken before all opened r in n.never k.type k.mid k.closed }

    pub cast_operand_refused : (type : TypeTree) (mid : List Token) → ReadsClosed before type mid → NoReading CastRow None (depth + 1) mid → NoReading CastRow None depth before
    cast_operand_refused type mid c n = record {
      never = λ all r low.
          let k = cast_taken before all opened r in
          let high = ap expression_height k.is in
          let more = (cast_high k.type k.operand.tree).1 in
          n.never k.operand (subst (λ l. Reads CastRow l k.operand) (closed_once before k.mid mid k.type type k.closed c) k.reads) (omega (arith, high, more, low));
    }
