-- What is known of expressions, and with it: a list of tokens has at most one tree by the rows of a unit.
use Rattle.std.proofs.Common.{◌≡◌, ◌<◌, true, List, [], ◌∷◌, refl, ap, ◌∙◌, arith}
use Rattle.c_syntax.specs.declared.token.Token.{Token}
use Rattle.c_syntax.specs.declared.token.TokenKind.{TokenKind}
use Rattle.c_syntax.specs.declared.token.TokenKind.TheVariants as token
use Rattle.c_syntax.specs.declared.token.Keyword.{Keyword}
use Rattle.c_syntax.specs.declared.token.Keyword.TheVariants as keyword
use Rattle.c_syntax.specs.declared.token.Punct.{Punct}
use Rattle.c_syntax.specs.declared.token.Punct.TheVariants as mark
use Rattle.c_syntax.specs.SyntaxTree.{Expression, UnitTree}
use Rattle.c_syntax.specs.Grammar.{Row, ExpressionRow, AssignmentRow, ConditionalRow, Derives}
use Rattle.c_syntax.specs.Derives.{DerivesUnit}
use Rattle.c_syntax.proofs.Rows.Fronts.{keyword_sort, mark_sort, kind_sort, first}
use Rattle.c_syntax.proofs.Rows.Given.{may_begin, may_end, is_outer, OneExpression}
use Rattle.c_syntax.proofs.Rows.OneTree.{one_unit}
use Rattle.c_syntax.specs.Lookahead.{row_rank, next_mark, next_rank, Ends}
use Rattle.c_syntax.proofs.Parsing.Begins as starts
use Rattle.c_syntax.proofs.Parsing.ExpressionOne.{ends_nothing, ends_mark, expression_one}

keyword_begins : (k : Keyword) → starts.keyword_may_begin k ≡ true → may_begin (keyword_sort k) ≡ true
keyword_begins keyword.Sizeof h = refl
keyword_begins k h = absurd cc

mark_begins : (m : Punct) → starts.mark_may_begin m ≡ true → may_begin (mark_sort m) ≡ true
mark_begins mark.OpenParen h = refl
mark_begins mark.PlusPlus h = refl
mark_begins mark.MinusMinus h = refl
mark_begins mark.Ampersand h = refl
mark_begins mark.Star h = refl
mark_begins mark.Plus h = refl
mark_begins mark.Minus h = refl
mark_begins mark.Tilde h = refl
mark_begins mark.Exclamation h = refl
mark_begins m h = absurd cc

kind_begins : (kind : TokenKind) → starts.may_begin kind ≡ true → may_begin (kind_sort kind) ≡ true
kind_begins (token.Word k) h = keyword_begins k h
kind_begins (token.Mark m) h = mark_begins m h
kind_begins kind h = refl

begins : (row : Row) (a : List Token) (x : Expression) → Derives row a x → may_begin (first a) ≡ true
begins row a x d =
    let (t, more, is, h) = starts.expression_begins row a x d in
    ap (λ l. may_begin (first l)) is ∙ kind_begins t.kind h

-- a mark that an outer row doesn't take in
abbrev Stands : Row → Punct → Type 0
Stands row m = next_rank (next_mark m) < row_rank row

mark_stands : (row : Row) (m : Punct) → is_outer row ≡ true → may_end row (mark_sort m) ≡ true → Stands row m
mark_stands ExpressionRow mark.CloseParen o h = omega arith
mark_stands ExpressionRow mark.CloseBracket o h = omega arith
mark_stands ExpressionRow mark.CloseBrace o h = omega arith
mark_stands ExpressionRow mark.Semicolon o h = omega arith
mark_stands ExpressionRow mark.Colon o h = omega arith
mark_stands AssignmentRow mark.CloseParen o h = omega arith
mark_stands AssignmentRow mark.CloseBracket o h = omega arith
mark_stands AssignmentRow mark.CloseBrace o h = omega arith
mark_stands AssignmentRow mark.Semicolon o h = omega arith
mark_stands AssignmentRow mark.Colon o h = omega arith
mark_stands AssignmentRow mark.Comma o h = omega arith
mark_stands ConditionalRow mark.CloseParen o h = omega arith
mark_stands ConditionalRow mark.CloseBracket o h = omega arith
mark_stands ConditionalRow mark.CloseBrace o h = omega arith
mark_stands ConditionalRow mark.Semicolon o h = omega arith
mark_stands ConditionalRow mark.Colon o h = omega arith
mark_stands ConditionalRow mark.Comma o h = omega arith
mark_stands row m o h = absurd cc

sort_of_word : (row : Row) (k : Keyword) → may_end row (keyword_sort k) ≡ true → ⊥
sort_of_word row keyword.Auto h = cc
sort_of_word row k h = cc

kind_ends : (row : Row) (t : Token) (more : List Token) (kind : TokenKind) → t.kind ≡ kind → is_outer row ≡ true → may_end row (kind_sort kind) ≡ true → Ends row (t ∷ more)
kind_ends row t more (token.Mark m) e o h = ends_mark row t more m e (mark_stands row m o h)
kind_ends row t more (token.Word k) e o h = absurd (sort_of_word row k h)
kind_ends row t more (token.Name name) e o h = absurd cc
kind_ends row t more (token.Number value marked decimal) e o h = absurd cc
kind_ends row t more (token.Char value) e o h = absurd cc

ends : (row : Row) (r : List Token) → is_outer row ≡ true → may_end row (first r) ≡ true → Ends row r
ends row [] o h = ends_nothing row
ends row (t ∷ more) o h = kind_ends row t more t.kind refl o h

pub known : OneExpression
known = record {
  begins = begins;
  same = λ row a b r s x y o g h p q e. expression_one row a b r s x y g h (ends row r o p) (ends row s o q) e;
}

pub one_source : (tokens : List Token) (xs ys : UnitTree) → DerivesUnit tokens xs → DerivesUnit tokens ys → xs ≡ ys
one_source tokens xs ys g h = one_unit known tokens xs ys g h
