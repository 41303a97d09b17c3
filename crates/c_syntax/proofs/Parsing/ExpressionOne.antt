-- Tokens are an expression in one way: at the front of one text, and so as a whole.
use Rattle.std.proofs.Common.{◌≡◌, ◌<◌, List, [], ◌∷◌, ◌++◌, refl, sym, ap, ◌∙◌, subst, arith}
use Rattle.std.proofs.lemmas.List.{append_cancel_right}
use Rattle.c_syntax.specs.declared.token.Token.{Token}
use Rattle.c_syntax.specs.declared.token.Punct.{Punct}
use Rattle.c_syntax.specs.SyntaxTree.{Expression}
use Rattle.c_syntax.specs.Grammar.{Row, ExpressionRow, IsMark, Derives}
use Rattle.c_syntax.specs.Lookahead.{row_rank, EndNext, next_mark, next_of, next_rank, Ends}
use Rattle.c_syntax.proofs.Parsing.Lookahead.{is_next}
use Rattle.c_syntax.specs.Reads.{reading, Reads}
use Rattle.c_syntax.proofs.Parsing.ReadsOne.{one_reading}
use Rattle.c_syntax.proofs.Parsing.ExpressionReads.{derives_read}

-- where no token stands, no row goes on
pub ends_nothing : (row : Row) → Ends row []
ends_nothing ExpressionRow = omega arith
ends_nothing row = omega arith

-- a mark that goes on with looser rows at most: `,` ends all rows but that of expressions
pub ends_mark : (row : Row) (t : Token) (rest : List Token) (m : Punct) → IsMark m t → next_rank (next_mark m) < row_rank row → Ends row (t ∷ rest)
ends_mark row t rest m e lt = subst (λ n. next_rank n < row_rank row) (sym (is_next m t e)) lt

-- a token that goes on with no expression, as a name, a keyword, `)`, `]`, `;`, `:` and `}`
pub ends_other : (row : Row) (rest : List Token) → next_of rest ≡ EndNext → Ends row rest
ends_other row rest e = subst (λ n. next_rank n < row_rank row) (sym e) (ends_nothing row)

-- what is derived at the front of one text, with the rests
pub expression_front : (row : Row) (a b r s : List Token) (x y : Expression) → Derives row a x → Derives row b y → Ends row r → Ends row s → a ++ r ≡ b ++ s → (a ≡ b) × (x ≡ y) × (r ≡ s)
expression_front row a b r s x y d e g h same =
    let left = derives_read row a x d in
    let right = derives_read row b y e in
    let k = one_reading row (a ++ r) (reading x left.unary r) (reading y right.unary s) (left.ends r g)
    (subst (λ l. Reads row l (reading y right.unary s)) (sym same) (right.ends s h)) in
    let rests = ap (λ z. z.rest) k in
    (append_cancel_right a b s (ap (λ l. a ++ l) (sym rests) ∙ same), ap (λ z. z.tree) k, rests)

pub expression_one : (row : Row) (a b r s : List Token) (x y : Expression) → Derives row a x → Derives row b y → Ends row r → Ends row s → a ++ r ≡ b ++ s → (a ≡ b) × (x ≡ y)
expression_one row a b r s x y d e g h same = let f = expression_front row a b r s x y d e g h same in (f.0, f.1)

pub one_expression : (row : Row) (tokens : List Token) (x y : Expression) → Derives row tokens x → Derives row tokens y → x ≡ y
one_expression row tokens x y d e = (expression_one row tokens tokens [] [] x y d e (ends_nothing row) (ends_nothing row) refl).1
