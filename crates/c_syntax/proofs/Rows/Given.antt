-- What is known of expressions: where a rest may stand behind a front of a row, the front has one tree.
use Rattle.std.proofs.Common.{◌≡◌, ◌≢◌, Bool, true, false, List, [], ◌∷◌, ◌++◌, Option, Some, None, refl, sym, ap, ◌∙◌}
use Rattle.c_syntax.specs.declared.token.Token.{Token}
use Rattle.c_syntax.specs.declared.token.Punct.{Punct}
use Rattle.c_syntax.specs.declared.token.Keyword.{Keyword}
use Rattle.c_syntax.specs.SyntaxTree.{Expression}
use Rattle.c_syntax.specs.Grammar.{Row, ExpressionRow, AssignmentRow, ConditionalRow, IsMark, IsKeyword, Derives}
use Rattle.c_syntax.specs.Derives.{DerivesOptional}
use Rattle.c_syntax.proofs.Rows.Fronts.{Sort, NoToken, AnyName, StarMark, ParenOpens, ParenCloses, BracketOpens, BracketCloses, BraceCloses, CommaMark, SemicolonMark, ColonMark, Others, keyword_sort, mark_sort, kind_sort, first, Agree, agree}

-- what an expression may begin with: a list without tokens doesn't
abbrev pub may_begin : Sort → Bool
may_begin AnyName = true
may_begin StarMark = true
may_begin ParenOpens = true
may_begin BracketOpens = true
may_begin Others = true
may_begin sort = false

-- what may stand behind a front of a row
abbrev pub may_end : Row → Sort → Bool
may_end row NoToken = true
may_end row ParenCloses = true
may_end row BracketCloses = true
may_end row SemicolonMark = true
may_end row ColonMark = true
may_end row BraceCloses = true
may_end AssignmentRow CommaMark = true
may_end ConditionalRow CommaMark = true
may_end row sort = false

-- the rows that the other rows name
abbrev pub is_outer : Row → Bool
is_outer ExpressionRow = true
is_outer AssignmentRow = true
is_outer ConditionalRow = true
is_outer row = false

pub record OneExpression : Type 0 where
  pub begins : (row : Row) (a : List Token) (x : Expression) → Derives row a x → may_begin (first a) ≡ true
  pub same : (row : Row) (a b r s : List Token) (x y : Expression) → is_outer row ≡ true → Derives row a x → Derives row b y
      → may_end row (first r) ≡ true → may_end row (first s) ≡ true → a ++ r ≡ b ++ s → (a ≡ b) × (x ≡ y)

-- a sort that a test tells from another
pub differs : (f : Sort → Bool) (j k : Sort) → f j ≡ true → f k ≡ false → j ≢ k
differs f j k g h e = let both = ap f e in cc

pub ends_at : (row : Row) (r : List Token) (k : Sort) → first r ≡ k → may_end row k ≡ true → may_end row (first r) ≡ true
ends_at row r k e h = ap (may_end row) e ∙ h

pub mark_first : (m : Punct) (t : Token) (more : List Token) → IsMark m t → first (t ∷ more) ≡ mark_sort m
mark_first m t more g = ap kind_sort g

pub word_first : (k : Keyword) (t : Token) (more : List Token) → IsKeyword k t → first (t ∷ more) ≡ keyword_sort k
word_first k t more g = ap kind_sort g

pub begins_front : (a r : List Token) → may_begin (first a) ≡ true → may_begin (first (a ++ r)) ≡ true
begins_front [] r h = absurd cc
begins_front (t ∷ a) r h = h

module _ (known : OneExpression) where
  -- where an expression begins, no token of another sort stands
  pub expression_first : (row : Row) (a r : List Token) (x : Expression) (k : Sort) → Derives row a x → may_begin k ≡ false → first (a ++ r) ≢ k
  expression_first row a r x k d never = differs may_begin (first (a ++ r)) k (begins_front a r (known.begins row a x d)) never

  pub expression_one : (row : Row) (a b r s : List Token) (x y : Expression) → is_outer row ≡ true → Derives row a x → Derives row b y
      → may_end row (first r) ≡ true → may_end row (first s) ≡ true → a ++ r ≡ b ++ s → Agree a b r s x y
  expression_one row a b r s x y outer g h p q e =
      let found = known.same row a b r s x y outer g h p q e in
      agree a b r s x y found.0 found.1 e

  -- an expression, where there is one, before a mark that none begins with
  pub optional_one : (row : Row) (k : Sort) (a b r s : List Token) (x y : Option Expression) → is_outer row ≡ true → may_begin k ≡ false → may_end row k ≡ true
      → DerivesOptional row a x → DerivesOptional row b y → first r ≡ k → first s ≡ k → a ++ r ≡ b ++ s → Agree a b r s x y
  optional_one row k a b r s None None outer never ends g h p q e = agree a b r s None None (g ∙ sym h) refl e
  optional_one row k a b r s None (Some y) outer never ends g h p q e = absurd (expression_first row b s y k h never (ap first (sym e ∙ ap (λ l. l ++ r) g) ∙ p))
  optional_one row k a b r s (Some x) None outer never ends g h p q e = absurd (expression_first row a r x k g never (ap first (e ∙ ap (λ l. l ++ s) h) ∙ q))
  optional_one row k a b r s (Some x) (Some y) outer never ends g h p q e =
      let found = expression_one row a b r s x y outer g h (ends_at row r k p ends) (ends_at row s k q ends) e in
      agree a b r s (Some x) (Some y) found.front (ap Some found.tree) e
