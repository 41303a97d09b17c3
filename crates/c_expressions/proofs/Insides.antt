-- What a reading holds: the parts from which it was read.
use Rattle.std.proofs.Common.{◌≡◌, ℕ, ◌≤◌, Bool, true, false, List, [], ◌∷◌, Some, refl, sym, ap, ◌∙◌, subst, arith}
use Rattle.c_syntax.specs.declared.token.Token.{Token}
use Rattle.c_syntax.specs.declared.token.Punct.TheVariants as mark
use Rattle.c_syntax.specs.SyntaxTree.{Expression, Node, Index, StepAfter, Binary, And, Or, Comma}
use Rattle.c_syntax.specs.Grammar.{Row, ExpressionRow, OrRow, AndRow, PostfixRow, step_mark, IsMark, place_of}
use Rattle.c_syntax.specs.Lookahead.{IndexNext, StepNext, next_mark, next_kind, next_of, Going, Stops, Goes, going_of, Next, start_of}
use Rattle.c_syntax.specs.Reads.{Reading, reading, PassTo, first_of, Reads, Both, Starts, PassFirst, More, Stop, CommaMore, AssignMore, AssignOpMore, QuestionMore, OrMore, AndMore, BinaryMore, IndexMore, StepMore}
use Rattle.c_syntax.specs.Measures.{expression_height}
use Rattle.c_syntax.proofs.Parsing.ReadsOne.{one_more}
use Rattle.c_cursor.specs.Front.{behind, kind_mark, mark_at}
use Rattle.c_expressions.specs.Operators.{step_at}
use Rattle.c_expressions.proofs.Words.{is_first}
use Rattle.c_expressions.proofs.Nexts.{step_stands}

-- ---- heights

pub expression_some : (e : Expression) → 1 ≤ expression_height e
expression_some (Node form at) = omega arith

-- what goes on with a tree is no lower
pub more_higher : (row : Row) (at : ℕ) (going : Going) (left : Expression) (unary : Bool) (input : List Token) (all : Reading) → More row at going left unary input all → expression_height left ≤ expression_height all.tree
more_higher row at going left unary input all Stop = omega arith
more_higher row at going left unary input all (CommaMore {o = o} m r k) = let h = more_higher ExpressionRow at (going_of ExpressionRow (next_of o.rest)) (Node (Comma left o.tree) at) false o.rest all k in omega (arith, h)
more_higher row at going left unary input all (AssignMore m r) = omega arith
more_higher row at going left unary input all (AssignOpMore k e m r) = omega arith
more_higher row at going left unary input all (QuestionMore m r n s) = omega arith
more_higher row at going left unary input all (OrMore {o = o} m r k) = let h = more_higher OrRow at (going_of OrRow (next_of o.rest)) (Node (Or left o.tree) at) false o.rest all k in omega (arith, h)
more_higher row at going left unary input all (AndMore {o = o} m r k) = let h = more_higher AndRow at (going_of AndRow (next_of o.rest)) (Node (And left o.tree) at) false o.rest all k in omega (arith, h)
more_higher row at going left unary input all (BinaryMore {operator = operator} {o = o} e m r k) =
    let h = more_higher row at (going_of row (next_of o.rest)) (Node (Binary operator left o.tree) at) false o.rest all k in omega (arith, h)
more_higher row at going left unary input all (IndexMore {index = index} {more = rest} m r n k) =
    let h = more_higher PostfixRow at (going_of PostfixRow (next_of rest)) (Node (Index left index) at) true rest all k in omega (arith, h)
more_higher row at going left unary input all (StepMore {up = up} {input = rest} m k) =
    let h = more_higher PostfixRow at (going_of PostfixRow (next_of rest)) (Node (StepAfter up left) at) true rest all k in omega (arith, h)

-- ---- rows that nothing goes on with

pub alone_same : (row : Row) (at : ℕ) (first all : Reading) → ((n : Next) → going_of row n ≡ Stops) → More row at (going_of row (next_of first.rest)) first.tree first.unary first.rest all → first ≡ all
alone_same row at first all stops m =
    one_more row at (going_of row (next_of first.rest)) first.tree first.unary first.rest first all (subst (λ g. More row at g first.tree first.unary first.rest first) (sym (stops (next_of first.rest))) Stop) m

pub stands_alone : (row : Row) (before : List Token) (all : Reading) → ((n : Next) → going_of row n ≡ Stops) → Reads row before all → Starts row (first_of row (start_of before)) before all
stands_alone row before all stops (Both {first = first} s m) = subst (λ o. Starts row (first_of row (start_of before)) before o) (alone_same row (place_of before) first all stops m) s

pub passes_to : (row next : Row) (before : List Token) (all : Reading) → Starts row (PassTo next) before all → Reads next before all
passes_to row next before all (PassFirst e r) = r

-- ---- behind an operand

-- an index, and what goes on behind it
pub record Indexed (at : ℕ) (left : Expression) (before : List Token) (all : Reading) : Type 0 where
  pub index : Reading
  pub reads : Reads ExpressionRow (behind before) index
  pub closes : mark_at index.rest ≡ Some mark.CloseBracket
  pub goes : More PostfixRow at (going_of PostfixRow (next_of (behind index.rest))) (Node (Index left index.tree) at) true (behind index.rest) all

index_in : (at : ℕ) (left : Expression) (unary : Bool) (before : List Token) (all : Reading) → More PostfixRow at (Goes IndexNext) left unary before all → Indexed at left before all
index_in at left unary before all (IndexMore {index = index} {same = same} {u = u} {more = rest} m r n k) = record { index = reading index same (u ∷ rest); reads = r; closes = ap kind_mark n; goes = k }

pub index_inside : (at : ℕ) (left : Expression) (unary : Bool) (before : List Token) (all : Reading) → mark_at before ≡ Some mark.OpenBracket → More PostfixRow at (going_of PostfixRow (next_of before)) left unary before all → Indexed at left before all
index_inside at left unary [] all e m = absurd cc
index_inside at left unary (t ∷ rest) all e m =
    index_in at left unary (t ∷ rest) all (subst (λ n. More PostfixRow at (going_of PostfixRow n) left unary (t ∷ rest) all) (ap next_kind (is_first t rest mark.OpenBracket e)) m)

step_going : (up : Bool) → going_of PostfixRow (next_mark (step_mark up)) ≡ Goes (StepNext up)
step_going true = refl
step_going false = refl

step_in : (at : ℕ) (left : Expression) (unary : Bool) (before : List Token) (up : Bool) (all : Reading) → More PostfixRow at (Goes (StepNext up)) left unary before all
    → More PostfixRow at (going_of PostfixRow (next_of (behind before))) (Node (StepAfter up left) at) true (behind before) all
step_in at left unary before up all (StepMore m k) = k

-- what goes on behind a step
pub step_inside : (at : ℕ) (left : Expression) (unary : Bool) (before : List Token) (up : Bool) (all : Reading) → step_at (mark_at before) ≡ Some up → More PostfixRow at (going_of PostfixRow (next_of before)) left unary before all
    → More PostfixRow at (going_of PostfixRow (next_of (behind before))) (Node (StepAfter up left) at) true (behind before) all
step_inside at left unary [] up all e m = absurd cc
step_inside at left unary (t ∷ rest) up all e m =
    let is : IsMark (step_mark up) t = is_first t rest (step_mark up) (step_stands (mark_at (t ∷ rest)) up e) in
    step_in at left unary (t ∷ rest) up all (subst (λ g. More PostfixRow at g left unary (t ∷ rest) all) (ap (λ k. going_of PostfixRow (next_kind k)) is ∙ step_going up) m)
