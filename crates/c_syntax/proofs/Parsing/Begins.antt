-- How the tokens of an expression begin.
use Rattle.std.proofs.Common.{◌≡◌, ℕ, ◌<◌, ◌≤◌, Bool, true, false, List, [], ◌∷◌, ◌++◌, length, Option, Some, refl, sym, ap, ◌∙◌, subst, arith, append_assoc}
use Rattle.c_syntax.specs.declared.token.Token.{Token}
use Rattle.c_syntax.specs.declared.token.TokenKind.{TokenKind}
use Rattle.c_syntax.specs.declared.token.TokenKind.TheVariants as token
use Rattle.c_syntax.specs.declared.token.Keyword.{Keyword}
use Rattle.c_syntax.specs.declared.token.Keyword.TheVariants as keyword
use Rattle.c_syntax.specs.declared.syntax.SpecWord.{SpecWord}
use Rattle.c_syntax.specs.declared.token.Punct.{Punct}
use Rattle.c_syntax.specs.declared.token.Punct.TheVariants as mark
use Rattle.c_syntax.specs.declared.operator.BinaryOp.{BinaryOp}
use Rattle.c_syntax.specs.declared.operator.BinaryOp.TheVariants as binary
use Rattle.c_syntax.specs.declared.syntax.PrefixOp.{PrefixOp}
use Rattle.c_syntax.specs.SyntaxTree.{TypeTree, Expression}
use Rattle.c_syntax.specs.Grammar.{Row, ExpressionRow, AssignmentRow, ConditionalRow, OrRow, AndRow, CastRow, UnaryRow, PostfixRow, PrimaryRow, tighter, level_of, operator_mark, prefix_mark, step_mark, IsMark, IsKeyword, IsType, Derives, Passes, CommaRule, AssignRule, AssignOpRule, ConditionalRule, OrRule, AndRule, BinaryRule, CastRule, StepBeforeRule, PrefixRule, SizeofValueRule, SizeofTypeRule, IndexRule, StepAfterRule, CallRule, NameRule, NumberRule, CharacterRule, ParenRule}
use Rattle.c_syntax.specs.Lookahead.{row_rank, Next, CommaNext, AssignNext, AssignOpNext, QuestionNext, OrNext, AndNext, BinaryNext, IndexNext, StepNext, EndNext, next_mark, next_kind, next_of, next_rank, spec_of, Start, NameStart, CallStart, NumberStart, CharacterStart, ParenStart, CastStart, StepStart, PrefixStart, SizeofValueStart, SizeofTypeStart, keyword_start, mark_start, kind_start, start_of, start_rank, row_start}
use Rattle.c_syntax.proofs.Parsing.Lookahead.{is_next, operator_next, step_next, assignment_next, start_no_spec, name_starts, call_starts, number_starts, character_starts, paren_starts, cast_starts, step_starts, prefix_starts, sizeof_value_starts, sizeof_type_starts}
use Rattle.c_syntax.proofs.Parsing.Types.{specs_begin}

-- there is a first token, and before what makes no call it begins the row
pub record Begins (row : Row) (tokens : List Token) : Type 0 where
  pub first : Token
  pub more : List Token
  pub is : tokens ≡ first ∷ more
  pub start : (rest : List Token) → next_rank (next_of rest) ≤ 17 → start_rank (start_of (tokens ++ rest)) ≤ row_start row

row_start_bound : (row : Row) → row_start row ≤ 3
row_start_bound PrimaryRow = omega arith
row_start_bound row = omega arith

-- a row that passes on begins as the tighter one
pub tighter_start : (row next : Row) → tighter row ≡ Some next → row_start next ≤ row_start row
tighter_start UnaryRow next e = let k : next ≡ PostfixRow = cc in subst (λ n. row_start n ≤ 2) (sym k) (omega arith)
tighter_start PostfixRow next e = let k : next ≡ PrimaryRow = cc in subst (λ n. row_start n ≤ 1) (sym k) (omega arith)
tighter_start PrimaryRow next e = absurd cc
tighter_start row next e = row_start_bound next

pub level_bound : (operator : BinaryOp) → row_rank (level_of operator) ≤ 13
level_bound binary.Or = omega arith
level_bound operator = omega arith

pub level_start : (operator : BinaryOp) → row_start (level_of operator) ≡ 3
level_start binary.Or = refl
level_start operator = refl

pub mark_rank : (m : Punct) (t : Token) (n : Next) → IsMark m t → next_mark m ≡ n → next_rank n ≤ 17 → next_rank (next_kind t.kind) ≤ 17
mark_rank m t n e is le = subst (λ k. next_rank k ≤ 17) (sym (is_next m t e ∙ is)) le

module _ (tokens : List Token) (row wider : Row) (g : Begins row tokens) where
  pub begins_wider : row_start row ≤ row_start wider → Begins wider tokens
  begins_wider le = record { first = g.first; more = g.more; is = g.is; start = λ rest h. let k = g.start rest h in omega arith }

  -- more tokens behind
  begins_more : row_start row ≤ row_start wider → (t : Token) (b : List Token) → next_rank (next_kind t.kind) ≤ 17 → Begins wider (tokens ++ t ∷ b)
  begins_more le t b h = record {
    first = g.first;
    more = g.more ++ t ∷ b;
    is = ap (λ l. l ++ t ∷ b) g.is;
    start = λ rest _. subst (λ l. start_rank (start_of l) ≤ row_start wider) (sym (append_assoc tokens (t ∷ b) rest))
        (let k = g.start (t ∷ b ++ rest) h in omega arith);
  }

-- one token tells
begins_by : (row : Row) (t : Token) (a : List Token) (start : Start) → ((rest : List Token) → next_rank (next_of rest) ≤ 17 → start_of (t ∷ a ++ rest) ≡ start) → start_rank start ≤ row_start row → Begins row (t ∷ a)
begins_by row t a start e le = record {
  first = t;
  more = a;
  is = refl;
  start = λ rest h. subst (λ s. start_rank s ≤ row_start row) (sym (e rest h)) le;
}

-- `(` with a type behind it
pub type_starts : (t : Token) (a b : List Token) (type : TypeTree) → IsMark mark.OpenParen t → IsType a type → start_of (t ∷ a ++ b) ≡ CastStart
type_starts t a b type m h =
    let w = specs_begin h.words (h.stars ++ b) type.specs.words h.are_specs in
    cast_starts t (a ++ b) w.0 m (ap (λ l. spec_of (l ++ b)) h.cut ∙ ap spec_of (append_assoc h.words h.stars b) ∙ w.1)

pub sizeof_starts : (t u : Token) (a b : List Token) (type : TypeTree) → IsKeyword keyword.Sizeof t → IsMark mark.OpenParen u → IsType a type → start_of (t ∷ u ∷ a ++ b) ≡ SizeofTypeStart
sizeof_starts t u a b type k m h = sizeof_type_starts t (u ∷ a ++ b) k (type_starts u a b type m h)

begins_cast : (a b : List Token) (t u : Token) (type : TypeTree) → IsMark mark.OpenParen t → IsType a type → Begins CastRow (t ∷ a ++ u ∷ b)
begins_cast a b t u type m h =
    begins_by CastRow t (a ++ u ∷ b) CastStart (λ rest _. ap (λ l. start_of (t ∷ l)) (append_assoc a (u ∷ b) rest) ∙ type_starts t a (u ∷ b ++ rest) type m h) (omega arith)

begins_sizeof_type : (a b : List Token) (t u v : Token) (type : TypeTree) → IsKeyword keyword.Sizeof t → IsMark mark.OpenParen u → IsType a type → Begins UnaryRow (t ∷ u ∷ a ++ v ∷ b)
begins_sizeof_type a b t u v type k m h =
    begins_by UnaryRow t (u ∷ a ++ v ∷ b) SizeofTypeStart (λ rest _. ap (λ l. start_of (t ∷ u ∷ l)) (append_assoc a (v ∷ b) rest) ∙ sizeof_starts t u a (v ∷ b ++ rest) type k m h) (omega arith)

begins_step : (a : List Token) (t : Token) (up : Bool) → IsMark (step_mark up) t → Begins UnaryRow (t ∷ a)
begins_step a t up m = begins_by UnaryRow t a (StepStart up) (λ rest _. step_starts t (a ++ rest) up m) (omega arith)

begins_prefix : (a : List Token) (t : Token) (operator : PrefixOp) → IsMark (prefix_mark operator) t → Begins UnaryRow (t ∷ a)
begins_prefix a t operator m = begins_by UnaryRow t a (PrefixStart operator) (λ rest _. prefix_starts t (a ++ rest) operator m) (omega arith)

begins_sizeof_value : (a : List Token) (t : Token) → IsKeyword keyword.Sizeof t → Begins UnaryRow a → Begins UnaryRow (t ∷ a)
begins_sizeof_value a t k g = begins_by UnaryRow t a SizeofValueStart (λ rest h. sizeof_value_starts t (a ++ rest) k (g.start rest h)) (omega arith)

begins_call : (a : List Token) (t u : Token) (name : List ℕ) → t.kind ≡ token.Name name → IsMark mark.OpenParen u → Begins PostfixRow (t ∷ u ∷ a)
begins_call a t u name k m = begins_by PostfixRow t (u ∷ a) (CallStart name) (λ rest _. call_starts t (u ∷ a ++ rest) name k (is_next mark.OpenParen u m)) (omega arith)

begins_name : (t : Token) (name : List ℕ) → t.kind ≡ token.Name name → Begins PrimaryRow (t ∷ [])
begins_name t name k = begins_by PrimaryRow t [] (NameStart name) (λ rest h. name_starts t rest name k h) (omega arith)

begins_number : (t : Token) (value : ℕ) (marked decimal : Bool) → t.kind ≡ token.Number value marked decimal → Begins PrimaryRow (t ∷ [])
begins_number t value marked decimal k = begins_by PrimaryRow t [] (NumberStart value marked decimal) (λ rest _. number_starts t rest value marked decimal k) (omega arith)

begins_character : (t : Token) (value : ℕ) → t.kind ≡ token.Char value → Begins PrimaryRow (t ∷ [])
begins_character t value k = begins_by PrimaryRow t [] (CharacterStart value) (λ rest _. character_starts t rest value k) (omega arith)

begins_paren : (a b : List Token) (t u : Token) → IsMark mark.OpenParen t → Begins ExpressionRow a → IsMark mark.CloseParen u → Begins PrimaryRow (t ∷ a ++ u ∷ b)
begins_paren a b t u m g n =
    begins_by PrimaryRow t (a ++ u ∷ b) ParenStart
    (λ rest _. ap (λ l. start_of (t ∷ l)) (append_assoc a (u ∷ b) rest)
    ∙ paren_starts t (a ++ (u ∷ b ++ rest)) m (start_no_spec (a ++ (u ∷ b ++ rest)) (g.start (u ∷ b ++ rest) (mark_rank mark.CloseParen u EndNext n refl (omega arith)))))
    (omega arith)

pub begins : (row : Row) (tokens : List Token) (tree : Expression) → Derives row tokens tree → Begins row tokens
begins row tokens tree (Passes next e d) = begins_wider tokens next row (begins next tokens tree d) (tighter_start row next e)
begins row tokens tree (CommaRule a b t {left = left} cut l m r) =
    subst (Begins ExpressionRow) (sym cut) (begins_more a ExpressionRow ExpressionRow (begins ExpressionRow a left l) (omega arith) t b (mark_rank mark.Comma t CommaNext m refl (omega arith)))
begins row tokens tree (AssignRule a b t {left = left} cut l m r) =
    subst (Begins AssignmentRow) (sym cut) (begins_more a UnaryRow AssignmentRow (begins UnaryRow a left l) (omega arith) t b (mark_rank mark.Assign t AssignNext m refl (omega arith)))
begins row tokens tree (AssignOpRule a b t p {operator = operator} {left = left} cut l is m r) =
    subst (Begins AssignmentRow) (sym cut) (begins_more a UnaryRow AssignmentRow (begins UnaryRow a left l) (omega arith) t b (mark_rank p t (AssignOpNext operator) m (assignment_next operator p is) (omega arith)))
begins row tokens tree (ConditionalRule a b c t u {test = test} cut l m y n z) =
    subst (Begins ConditionalRow) (sym (cut ∙ append_assoc a (t ∷ b) (u ∷ c))) (begins_more a OrRow ConditionalRow (begins OrRow a test l) (omega arith) t (b ++ u ∷ c) (mark_rank mark.Question t QuestionNext m refl (omega arith)))
begins row tokens tree (OrRule a b t {left = left} cut l m r) =
    subst (Begins OrRow) (sym cut) (begins_more a OrRow OrRow (begins OrRow a left l) (omega arith) t b (mark_rank mark.OrOr t OrNext m refl (omega arith)))
begins row tokens tree (AndRule a b t {left = left} cut l m r) =
    subst (Begins AndRow) (sym cut) (begins_more a AndRow AndRow (begins AndRow a left l) (omega arith) t b (mark_rank mark.AndAnd t AndNext m refl (omega arith)))
begins row tokens tree (BinaryRule a b t next {operator = operator} {left = left} cut level e l m r) =
    subst (Begins row) (sym cut) (begins_more a row row (begins row a left l) (omega arith) t b (mark_rank (operator_mark operator) t (BinaryNext operator) m (operator_next operator) (let k = level_bound operator in omega arith)))
begins row tokens tree (CastRule a b t u {type = type} cut m h n r) = subst (Begins CastRow) (sym cut) (begins_cast a b t u type m h)
begins row tokens tree (StepBeforeRule a t {up = up} cut m r) = subst (Begins UnaryRow) (sym cut) (begins_step a t up m)
begins row tokens tree (PrefixRule a t {operator = operator} cut m r) = subst (Begins UnaryRow) (sym cut) (begins_prefix a t operator m)
begins row tokens tree (SizeofValueRule a t {operand = operand} cut k r) = subst (Begins UnaryRow) (sym cut) (begins_sizeof_value a t k (begins UnaryRow a operand r))
begins row tokens tree (SizeofTypeRule a t u v {type = type} cut k m h n) = subst (Begins UnaryRow) (sym cut) (begins_sizeof_type a [] t u v type k m h)
begins row tokens tree (IndexRule a b t u {operand = operand} cut l m r n) =
    subst (Begins PostfixRow) (sym (cut ∙ append_assoc a (t ∷ b) (u ∷ []))) (begins_more a PostfixRow PostfixRow (begins PostfixRow a operand l) (omega arith) t (b ++ u ∷ []) (mark_rank mark.OpenBracket t IndexNext m refl (omega arith)))
begins row tokens tree (StepAfterRule a t {up = up} {operand = operand} cut l m) =
    subst (Begins PostfixRow) (sym cut) (begins_more a PostfixRow PostfixRow (begins PostfixRow a operand l) (omega arith) t [] (mark_rank (step_mark up) t (StepNext up) m (step_next up) (omega arith)))
begins row tokens tree (CallRule a t u v {name = name} cut k m r n) = subst (Begins PostfixRow) (sym cut) (begins_call (a ++ v ∷ []) t u name k m)
begins row tokens tree (NameRule {t = t} {name = name} k) = begins_name t name k
begins row tokens tree (NumberRule {t = t} {value = value} {marked = marked} {decimal = decimal} k) = begins_number t value marked decimal k
begins row tokens tree (CharacterRule {t = t} {value = value} k) = begins_character t value k
begins row tokens tree (ParenRule a t u {tree = inner} cut m r n) = subst (Begins PrimaryRow) (sym cut) (begins_paren a [] t u m (begins ExpressionRow a inner r) n)

pub derives_some : (row : Row) (tokens : List Token) (tree : Expression) → Derives row tokens tree → 0 < length tokens
derives_some row tokens tree d = let g = begins row tokens tree d in omega (arith, ap length g.is)

-- ---- the first token

abbrev pub mark_may_begin : Punct → Bool
mark_may_begin mark.OpenParen = true
mark_may_begin mark.PlusPlus = true
mark_may_begin mark.MinusMinus = true
mark_may_begin mark.Ampersand = true
mark_may_begin mark.Star = true
mark_may_begin mark.Plus = true
mark_may_begin mark.Minus = true
mark_may_begin mark.Tilde = true
mark_may_begin mark.Exclamation = true
mark_may_begin m = false

abbrev pub keyword_may_begin : Keyword → Bool
keyword_may_begin keyword.Sizeof = true
keyword_may_begin k = false

-- whether a token of a kind may begin an expression
abbrev pub may_begin : TokenKind → Bool
may_begin (token.Word k) = keyword_may_begin k
may_begin (token.Mark m) = mark_may_begin m
may_begin kind = true

keyword_start-begins : (k : Keyword) (behind : Start) → start_rank (keyword_start k behind) ≤ 3 → keyword_may_begin k ≡ true
keyword_start-begins keyword.Sizeof behind le = refl
keyword_start-begins k behind le = absurd (omega arith)

mark_start-begins : (m : Punct) (spec : Option SpecWord) → start_rank (mark_start m spec) ≤ 3 → mark_may_begin m ≡ true
mark_start-begins mark.OpenParen spec le = refl
mark_start-begins mark.PlusPlus spec le = refl
mark_start-begins mark.MinusMinus spec le = refl
mark_start-begins mark.Ampersand spec le = refl
mark_start-begins mark.Star spec le = refl
mark_start-begins mark.Plus spec le = refl
mark_start-begins mark.Minus spec le = refl
mark_start-begins mark.Tilde spec le = refl
mark_start-begins mark.Exclamation spec le = refl
mark_start-begins m spec le = absurd (omega arith)

kind_start-begins : (kind : TokenKind) (next : Next) (spec : Option SpecWord) (behind : Start) → start_rank (kind_start kind next spec behind) ≤ 3 → may_begin kind ≡ true
kind_start-begins (token.Word k) next spec behind le = keyword_start-begins k behind le
kind_start-begins (token.Mark m) next spec behind le = mark_start-begins m spec le
kind_start-begins kind next spec behind le = refl

pub expression_begins : (row : Row) (tokens : List Token) (tree : Expression) → Derives row tokens tree → (t : Token) × (more : List Token) × (tokens ≡ t ∷ more) × (may_begin t.kind ≡ true)
expression_begins row tokens tree d =
    let g = begins row tokens tree d in
    let le = g.start [] (omega arith) in
    let wide = row_start_bound row in
    let k : start_rank (start_of (g.first ∷ g.more ++ [])) ≤ 3 = subst (λ l. start_rank (start_of (l ++ [])) ≤ 3) g.is (omega arith) in
    (g.first, g.more, g.is, kind_start-begins g.first.kind (next_of (g.more ++ [])) (spec_of (g.more ++ [])) (start_of (g.more ++ [])) k)

pub first_may_begin : (row : Row) (t : Token) (more : List Token) (tree : Expression) → Derives row (t ∷ more) tree → may_begin t.kind ≡ true
first_may_begin row t more tree d =
    let f = expression_begins row (t ∷ more) tree d in
    let same : f.0 ≡ t = cc in
    subst (λ (u : Token). may_begin u.kind ≡ true) same f.3
