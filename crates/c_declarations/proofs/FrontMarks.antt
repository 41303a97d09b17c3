-- Marks at the front of the tokens, and the heights of lists.
use Rattle.std.proofs.Common.{◌≡◌, ◌≢◌, ◌<◌, ◌≤◌, ◌+◌, ◌∷◌, [], ℕ, List, Some, map, refl, sym, ap, ◌∙◌, arith}
use Rattle.c_syntax.specs.declared.token.Token.{Token}
use Rattle.c_syntax.specs.declared.token.Punct.{Punct}
use Rattle.c_syntax.specs.Grammar.{Row, IsMark}
use Rattle.c_syntax.specs.Lookahead.{row_rank, next_mark, next_rank, Ends}
use Rattle.c_syntax.specs.Measures.{greatest, greatest_height}
use Rattle.c_syntax.proofs.Parsing.ExpressionOne.{ends_mark}
use Rattle.c_syntax.proofs.Rows.Fronts.{Sort, mark_sort, first}
use Rattle.c_cursor.specs.Front.{kind_mark, mark_at}
use Rattle.c_expressions.specs.Fronts.{NoFront, ExpressionFront}
use Rattle.c_cursor.proofs.TakesLemmas.{greatest_first}
use Rattle.c_declarations.proofs.FrontTokens.{mark_sorted, mark_is}
use Rattle.c_expressions.proofs.Insides.{expression_some}

-- heights of lists
pub first_low : {T : Type 0} (h : T → ℕ) (x : T) (xs : List T) (depth limit : ℕ) → depth + greatest (map h (x ∷ xs)) ≤ limit → depth + h x ≤ limit
first_low h x xs depth limit low = let e = greatest_first (h x) (map h xs) in omega (arith, low, e)

pub others_low : {T : Type 0} (h : T → ℕ) (x : T) (xs : List T) (depth limit : ℕ) → depth + greatest (map h (x ∷ xs)) ≤ limit → depth + greatest (map h xs) ≤ limit
others_low h x xs depth limit low = let e = greatest_first (h x) (map h xs) in omega (arith, low, e)

pub expression_too_high : {row : Row} {depth : ℕ} {b : List Token} → greatest_height ≤ depth + 0 → NoFront (ExpressionFront row depth) b
expression_too_high h = record { never = λ after f. let some = expression_some f.tree in omega (arith, h, f.low, some) }

-- marks at the front
pub mark_here : {m : Punct} (t : Token) (more : List Token) → IsMark m t → mark_at (t ∷ more) ≡ Some m
mark_here t more h = ap kind_mark h

pub not_mark : (r : List Token) (k : Sort) (m : Punct) → first r ≡ k → k ≢ mark_sort m → mark_at r ≢ Some m
not_mark r k m e n h = n (sym e ∙ mark_sorted m r h)

pub other_mark : (r : List Token) (m n : Punct) → mark_sort m ≢ mark_sort n → mark_at r ≡ Some m → mark_at r ≢ Some n
other_mark r m n d e = not_mark r (mark_sort m) n (mark_sorted m r e) d

pub ends_at_mark : (row : Row) (m : Punct) (r : List Token) → mark_at r ≡ Some m → next_rank (next_mark m) < row_rank row → Ends row r
ends_at_mark row m [] e lt = absurd cc
ends_at_mark row m (t ∷ more) e lt = ends_mark row t more m (mark_is {more = more} {t = t} e refl) lt
