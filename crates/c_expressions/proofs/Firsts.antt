-- What stands before an operand, and operands themselves.
use Rattle.std.proofs.Common.{◌≡◌, ◌≢◌, ℕ, ◌+◌, ◌<◌, ◌≤◌, Bool, true, false, List, [], ◌∷◌, ◌++◌, length, Option, Some, None, refl, sym, ap, ◌∙◌, subst, arith, length-append}
use Rattle.c_syntax.specs.declared.token.Token.{Token}
use Rattle.c_syntax.specs.declared.token.TokenKind.{TokenKind}
use Rattle.c_syntax.specs.declared.token.TokenKind.TheVariants as token
use Rattle.c_syntax.specs.declared.token.Keyword.{Keyword}
use Rattle.c_syntax.specs.declared.token.Keyword.TheVariants as keyword
use Rattle.c_syntax.specs.declared.token.Punct.{Punct}
use Rattle.c_syntax.specs.declared.token.Punct.TheVariants as mark
use Rattle.c_syntax.specs.declared.syntax.SpecWord.{SpecWord}
use Rattle.c_syntax.specs.declared.syntax.PrefixOp.{PrefixOp}
use Rattle.c_syntax.specs.declared.syntax.PrefixOp.TheVariants as prefix
use Rattle.c_syntax.specs.declared.expr.ExprKind.{ExprKind}
use Rattle.c_syntax.specs.SyntaxTree.{TypeTree, Expression, ExpressionForm, Node, Name, Number, Character, Call, StepBefore, Prefix, SizeofValue, SizeofType, Cast}
use Rattle.c_syntax.specs.Grammar.{Row, CastRow, UnaryRow, PostfixRow, PrimaryRow, prefix_mark, step_mark, IsMark, IsKeyword, IsType, place_of}
use Rattle.c_syntax.specs.Lookahead.{Next, CallNext, next_of, going_of, spec_of, Start, NameStart, CallStart, NumberStart, CharacterStart, CastStart, StepStart, PrefixStart, SizeofValueStart, SizeofTypeStart, name_start, paren_start, sizeof_start, keyword_start, mark_start, kind_start, start_of}
use Rattle.c_syntax.specs.Reads.{Reading, reading, PassTo, Takes, first_of, postfix_first, unary_first, cast_first, Reads, Both, Starts, PassFirst, NameFirst, NumberFirst, CharacterFirst, CallFirst, StepFirst, PrefixFirst, SizeofValueFirst, SizeofTypeFirst, CastFirst, More, Stop}
use Rattle.c_syntax.specs.Measures.{expression_height, form_height, greatest_height}
use Rattle.c_syntax.specs.SyntaxView.{expression_of, form_of, trees_of}
use Rattle.c_expressions.specs.declared.parser.Parsed.{Parsed}
use Rattle.c_expressions.specs.declared.parser.Arguments.{Arguments}
use Rattle.c_cursor.specs.Front.{behind, kind_at, kind_mark, kind_word, mark_at, word_at, name_at, is_open, is_there, opens, opens_type}
use Rattle.c_expressions.specs.Operators.{step_at, prefix_at}
use Rattle.c_expressions.specs.Parses.{AtPrimary, Up, read, IsMeasured, IsParsed, IsOperand, IsBehind, IsNode, IsConstant, constant_form, constant_at, ReadsType, ReadsClosed, AreRead}
use Rattle.c_expressions.proofs.Words.{is_first, behind_shorter}
use Rattle.c_expressions.proofs.Nexts.{next_at, next_is, no_cast, no_unary, no_primary, step_stands}
use Rattle.c_expressions.proofs.Rows.{node_measured}
use Rattle.c_expressions.proofs.Parens.{operand_by}
use Rattle.c_cursor.proofs.TakesLemmas.{kind_worded, kind_named}

-- ---- a type in parentheses

abbrev pub is_cast : Start → Bool
is_cast CastStart = true
is_cast start = false

name_cast : (next : Next) (name : List ℕ) → is_cast (name_start next name) ≡ false
name_cast CallNext name = refl
name_cast next name = refl

sizeof_cast : (s : Start) → is_cast (sizeof_start s) ≡ false
sizeof_cast CastStart = refl
sizeof_cast s = refl

keyword_cast : (k : Keyword) (s : Start) → is_cast (keyword_start k s) ≡ false
keyword_cast keyword.Sizeof s = sizeof_cast s
keyword_cast k s = refl

mark_cast : (m : Punct) (spec : Option SpecWord) → is_cast (mark_start m spec) ≡ opens (is_open (Some m)) (is_there spec)
mark_cast mark.OpenParen None = refl
mark_cast mark.OpenParen (Some w) = refl
mark_cast m spec = refl

kind_cast : (k : TokenKind) (next : Next) (spec : Option SpecWord) (s : Start) → is_cast (kind_start k next spec s) ≡ opens (is_open (kind_mark k)) (is_there spec)
kind_cast (token.Name name) next spec s = name_cast next name
kind_cast (token.Word k) next spec s = keyword_cast k s
kind_cast (token.Mark m) next spec s = mark_cast m spec
kind_cast k next spec s = refl

pub opens_cast : (tokens : List Token) → is_cast (start_of tokens) ≡ opens_type tokens
opens_cast [] = refl
opens_cast (t ∷ more) = kind_cast t.kind (next_of more) (spec_of more) (start_of more)

pub cast_is : (s : Start) → is_cast s ≡ true → s ≡ CastStart
cast_is CastStart e = refl
cast_is s e = absurd cc

pub cast_passes_by : (s : Start) → is_cast s ≡ false → cast_first s ≡ PassTo UnaryRow
cast_passes_by CastStart e = absurd cc
cast_passes_by s e = refl

pub sizeof_value_by : (s : Start) → is_cast s ≡ false → sizeof_start s ≡ SizeofValueStart
sizeof_value_by CastStart e = absurd cc
sizeof_value_by s e = refl

open_mark : (o : Option Punct) (spec : Bool) → opens (is_open o) spec ≡ true → o ≡ Some mark.OpenParen
open_mark (Some mark.OpenParen) spec e = refl
open_mark o spec e = absurd cc

open_is : (t : Token) (more : List Token) → opens_type (t ∷ more) ≡ true → IsMark mark.OpenParen t
open_is t more e = is_first t more mark.OpenParen (open_mark (kind_mark t.kind) (is_there (spec_of more)) e)

pub type_closed : (before mid : List Token) (tree : TypeTree) → opens_type before ≡ true → ReadsType (behind before) tree mid → mark_at mid ≡ Some mark.CloseParen → ReadsClosed before tree (behind mid)
type_closed [] mid tree o r e = absurd cc
type_closed before [] tree o r e = absurd cc
type_closed (t ∷ more) (u ∷ rest) tree o r e = record {
  opening = t;
  taken = r.taken;
  close = u;
  cut = ap (λ l. t ∷ l) r.cut;
  opens = open_is t more o;
  is = r.is;
  closes = is_first u rest mark.CloseParen e;
}

closed_shorter : (before after : List Token) (tree : TypeTree) → ReadsClosed before tree after → length after < length before
closed_shorter before after tree r = omega (arith, ap length r.cut, length-append r.taken (r.close ∷ after))

-- ---- forms that stand first

module _ (row : Row) (before : List Token) (depth : ℕ) (p : Parsed) (rest : List Token) (form : ExpressionForm) (at : ℕ) (unary : Bool) (parts : ℕ) (n : IsNode form at unary parts p) (m : IsMeasured depth p)
    (place : 0 < length before → at ≡ place_of before) (lt : length rest < length before) where
  first_parsed : Reads row before (reading (Node form (place_of before)) unary rest) → IsParsed row None before depth p rest
  first_parsed r =
      let here = place (omega (arith, lt)) in
      record {
        reads = subst (λ o. Reads row before o) (sym (ap (λ t. reading t p.is_unary rest) (n.tree ∙ ap (Node form) here) ∙ ap (λ u. reading (Node form (place_of before)) u rest) n.unary_is)) r;
        place = n.place ∙ here;
        measured = m;
        shorter = omega (arith, lt);
      }

-- a row whose own form stands first, with which nothing goes on
own : (row : Row) (before : List Token) (s : Start) (o : Reading) → start_of before ≡ s → first_of row s ≡ Takes s → Starts row (Takes s) before o → going_of row (next_of o.rest) ≡ going_of PrimaryRow (next_of o.rest) → Reads row before o
own row before s o e f r g =
    Both (subst (λ k. Starts row k before o) (sym (ap (first_of row) e ∙ f)) r) (subst (λ k. More row (place_of before) k o.tree o.unary o.rest o) (sym (g ∙ no_primary (next_of o.rest))) Stop)

-- the height of a node over one part
one_measured : (depth : ℕ) (operand : Parsed) (form : ExpressionForm) (at : ℕ) (unary : Bool) (p : Parsed) → IsMeasured (depth + 1) operand → expression_height (expression_of operand.tree.value) ≡ form_height form
    → IsNode form at unary operand.height p → IsMeasured depth p
one_measured depth operand form at unary p m e n = node_measured form at unary operand.height depth p n (m.height ∙ e) (let k = m.fits in omega arith)

step_start : (up : Bool) (spec : Option SpecWord) → mark_start (step_mark up) spec ≡ StepStart up
step_start true spec = refl
step_start false spec = refl

prefix_start : (op : PrefixOp) (spec : Option SpecWord) → mark_start (prefix_mark op) spec ≡ PrefixStart op
prefix_start prefix.Address spec = refl
prefix_start op spec = refl

abbrev prefix_back : Option PrefixOp → Option Punct
prefix_back (Some op) = Some (prefix_mark op)
prefix_back None = None

pub prefix_stands : (o : Option Punct) (op : PrefixOp) → prefix_at o ≡ Some op → o ≡ Some (prefix_mark op)
prefix_stands (Some mark.Ampersand) op e = ap prefix_back e
prefix_stands (Some mark.Star) op e = ap prefix_back e
prefix_stands (Some mark.Plus) op e = ap prefix_back e
prefix_stands (Some mark.Minus) op e = ap prefix_back e
prefix_stands (Some mark.Tilde) op e = ap prefix_back e
prefix_stands (Some mark.Exclamation) op e = ap prefix_back e
prefix_stands (Some mark.OpenParen) op e = absurd cc
prefix_stands o op e = absurd cc

-- how a token of a kind starts
pub starts_by : (t : Token) (more : List Token) (k : TokenKind) → t.kind ≡ k → start_of (t ∷ more) ≡ kind_start k (next_of more) (spec_of more) (start_of more)
starts_by t more k e = ap (λ q. kind_start q (next_of more) (spec_of more) (start_of more)) e

pub step_parsed : (before : List Token) (depth : ℕ) (up : Bool) (operand : Parsed) (rest : List Token) (p : Parsed) (at : ℕ) → step_at (mark_at before) ≡ Some up → (0 < length before → at ≡ place_of before)
    → IsParsed UnaryRow None (behind before) (depth + 1) operand rest → IsNode (StepBefore up (expression_of operand.tree.value)) at true operand.height p → IsParsed UnaryRow None before depth p rest
step_parsed [] depth up operand rest p at e place r n = absurd cc
step_parsed (t ∷ more) depth up operand rest p at e place r n =
    let is : IsMark (step_mark up) t = is_first t more (step_mark up) (step_stands (mark_at (t ∷ more)) up e) in
    first_parsed UnaryRow (t ∷ more) depth p rest _ at true _ n (one_measured depth operand _ at true p r.measured refl n) place (let k = r.shorter in omega arith)
    (own UnaryRow (t ∷ more) (StepStart up) _ (starts_by t more (token.Mark (step_mark up)) is ∙ step_start up (spec_of more)) refl (StepFirst is r.reads) (no_unary (next_of rest) ∙ sym (no_primary (next_of rest))))

pub prefix_parsed : (before : List Token) (depth : ℕ) (op : PrefixOp) (operand : Parsed) (rest : List Token) (p : Parsed) (at : ℕ) → prefix_at (mark_at before) ≡ Some op → (0 < length before → at ≡ place_of before)
    → IsParsed CastRow None (behind before) (depth + 1) operand rest → IsNode (Prefix op (expression_of operand.tree.value)) at true operand.height p → IsParsed UnaryRow None before depth p rest
prefix_parsed [] depth op operand rest p at e place r n = absurd cc
prefix_parsed (t ∷ more) depth op operand rest p at e place r n =
    let is : IsMark (prefix_mark op) t = is_first t more (prefix_mark op) (prefix_stands (mark_at (t ∷ more)) op e) in
    first_parsed UnaryRow (t ∷ more) depth p rest _ at true _ n (one_measured depth operand _ at true p r.measured refl n) place (let k = r.shorter in omega arith)
    (own UnaryRow (t ∷ more) (PrefixStart op) _ (starts_by t more (token.Mark (prefix_mark op)) is ∙ prefix_start op (spec_of more)) refl (PrefixFirst is r.reads) (no_unary (next_of rest) ∙ sym (no_primary (next_of rest))))

pub size_parsed : (before : List Token) (depth : ℕ) (operand : Parsed) (rest : List Token) (p : Parsed) (at : ℕ) → word_at before ≡ Some keyword.Sizeof → opens_type (behind before) ≡ false → (0 < length before → at ≡ place_of before)
    → IsParsed UnaryRow None (behind before) (depth + 1) operand rest → IsNode (SizeofValue (expression_of operand.tree.value)) at true operand.height p → IsParsed UnaryRow None before depth p rest
size_parsed [] depth operand rest p at e o place r n = absurd cc
size_parsed (t ∷ more) depth operand rest p at e o place r n =
    let is : IsKeyword keyword.Sizeof t = kind_worded t.kind keyword.Sizeof e in
    first_parsed UnaryRow (t ∷ more) depth p rest _ at true _ n (one_measured depth operand _ at true p r.measured refl n) place (let k = r.shorter in omega arith)
    (own UnaryRow (t ∷ more) SizeofValueStart _ (starts_by t more (token.Word keyword.Sizeof) is ∙ sizeof_value_by (start_of more) (opens_cast more ∙ o)) refl (SizeofValueFirst is r.reads) (no_unary (next_of rest) ∙ sym (no_primary (next_of rest))))

size_type_reads : (t u v : Token) (taken rest more : List Token) (tree : TypeTree) → IsKeyword keyword.Sizeof t → more ≡ u ∷ taken ++ v ∷ rest → IsMark mark.OpenParen u → IsType taken tree → IsMark mark.CloseParen v → opens_type more ≡ true
    → Reads UnaryRow (t ∷ more) (reading (Node (SizeofType tree) t.at) true rest)
size_type_reads t u v taken rest more tree is cut m h n o =
    let start = starts_by t more (token.Word keyword.Sizeof) is ∙ ap sizeof_start (cast_is (start_of more) (opens_cast more ∙ o)) in
    let first : Starts UnaryRow (Takes SizeofTypeStart) (t ∷ u ∷ taken ++ v ∷ rest) (reading (Node (SizeofType tree) t.at) true rest) = SizeofTypeFirst taken rest v is m refl h n in
    own UnaryRow (t ∷ more) SizeofTypeStart (reading (Node (SizeofType tree) t.at) true rest) start refl (subst (λ l. Starts UnaryRow (Takes SizeofTypeStart) (t ∷ l) (reading (Node (SizeofType tree) t.at) true rest)) (sym cut) first)
    (no_unary (next_of rest) ∙ sym (no_primary (next_of rest)))

pub size_type_parsed : (before : List Token) (depth : ℕ) (tree : TypeTree) (rest : List Token) (p : Parsed) (at : ℕ) → word_at before ≡ Some keyword.Sizeof → opens_type (behind before) ≡ true → (0 < length before → at ≡ place_of before)
    → ReadsClosed (behind before) tree rest → depth + 1 + 1 ≤ greatest_height → IsNode (SizeofType tree) at true 1 p → IsParsed UnaryRow None before depth p rest
size_type_parsed [] depth tree rest p at e o place r le n = absurd cc
size_type_parsed (t ∷ more) depth tree rest p at e o place r le n =
    first_parsed UnaryRow (t ∷ more) depth p rest _ at true _ n (node_measured _ at true 1 depth p n refl le) place (omega (arith, closed_shorter more rest tree r))
    (size_type_reads t r.opening r.close r.taken rest more tree (kind_worded t.kind keyword.Sizeof e) r.cut r.opens r.is r.closes o)

cast_reads : (before mid : List Token) (tree : TypeTree) (o : Reading) → opens_type before ≡ true → ReadsClosed before tree mid → Reads CastRow mid o → Reads CastRow before (reading (Node (Cast tree o.tree) (place_of before)) false o.rest)
cast_reads before mid tree o opened r q =
    let a = reading (Node (Cast tree o.tree) (place_of before)) false o.rest in
    let first : Starts CastRow (Takes CastStart) (r.opening ∷ r.taken ++ r.close ∷ mid) (reading (Node (Cast tree o.tree) r.opening.at) false o.rest) = CastFirst r.taken mid r.close r.opens refl r.is r.closes q in
    own CastRow before CastStart a (cast_is (start_of before) (opens_cast before ∙ opened)) refl
    (subst (λ l. Starts CastRow (Takes CastStart) l (reading (Node (Cast tree o.tree) (place_of l)) false o.rest)) (sym r.cut) first) (no_cast (next_of o.rest) ∙ sym (no_primary (next_of o.rest)))

cast_height : (tree : TypeTree) (operand : Expression) → expression_height operand ≡ form_height (Cast tree operand)
cast_height tree (Node form at) = omega arith

pub cast_parsed : (before mid : List Token) (depth : ℕ) (tree : TypeTree) (operand : Parsed) (rest : List Token) (p : Parsed) (at : ℕ) → opens_type before ≡ true → (0 < length before → at ≡ place_of before) → ReadsClosed before tree mid
    → IsParsed CastRow None mid (depth + 1) operand rest → IsNode (Cast tree (expression_of operand.tree.value)) at false operand.height p → IsParsed CastRow None before depth p rest
cast_parsed before mid depth tree operand rest p at o place r q n =
    first_parsed CastRow before depth p rest _ at false _ n (one_measured depth operand _ at false p q.measured (cast_height tree (expression_of operand.tree.value)) n) place (let k = q.shorter in omega (arith, closed_shorter before mid tree r))
    (cast_reads before mid tree (read operand rest) o r q.reads)

-- ---- passing on

pub unary_starts : (start : Parsed) (before : List Token) (depth : ℕ) (p : Parsed) (after : List Token) → IsBehind start before depth p after → IsParsed UnaryRow (Some start) before depth p after
unary_starts start before depth p after b = record {
  reads = Up refl (Up refl AtPrimary b.more) (subst (λ g. More UnaryRow start.at g (expression_of p.tree.value) p.is_unary after (read p after)) (sym (no_unary (next_of after))) Stop);
  place = b.place;
  measured = b.measured;
  shorter = b.shorter;
}

name_passes : (next : Next) (name : List ℕ) → unary_first (name_start next name) ≡ PassTo PostfixRow
name_passes CallNext name = refl
name_passes next name = refl

paren_passes : (spec : Option SpecWord) → unary_first (paren_start spec) ≡ PassTo PostfixRow
paren_passes None = refl
paren_passes (Some w) = refl

word_passes : (k : Keyword) (s : Start) → Some k ≢ Some keyword.Sizeof → unary_first (keyword_start k s) ≡ PassTo PostfixRow
word_passes keyword.Sizeof s h = absurd (h refl)
word_passes k s h = refl

mark_passes : (m : Punct) (spec : Option SpecWord) → step_at (Some m) ≡ None → prefix_at (Some m) ≡ None → unary_first (mark_start m spec) ≡ PassTo PostfixRow
mark_passes mark.OpenParen spec e f = paren_passes spec
mark_passes mark.PlusPlus spec e f = absurd cc
mark_passes mark.MinusMinus spec e f = absurd cc
mark_passes mark.Ampersand spec e f = absurd cc
mark_passes mark.Star spec e f = absurd cc
mark_passes mark.Plus spec e f = absurd cc
mark_passes mark.Minus spec e f = absurd cc
mark_passes mark.Tilde spec e f = absurd cc
mark_passes mark.Exclamation spec e f = absurd cc
mark_passes m spec e f = refl

kind_passes : (k : TokenKind) (next : Next) (spec : Option SpecWord) (s : Start) → kind_word k ≢ Some keyword.Sizeof → step_at (kind_mark k) ≡ None → prefix_at (kind_mark k) ≡ None → unary_first (kind_start k next spec s) ≡ PassTo PostfixRow
kind_passes (token.Name name) next spec s h e f = name_passes next name
kind_passes (token.Word k) next spec s h e f = word_passes k s h
kind_passes (token.Mark m) next spec s h e f = mark_passes m spec e f
kind_passes k next spec s h e f = refl

pub unary_passes_by : (before : List Token) → word_at before ≢ Some keyword.Sizeof → step_at (mark_at before) ≡ None → prefix_at (mark_at before) ≡ None → unary_first (start_of before) ≡ PassTo PostfixRow
unary_passes_by [] h e f = refl
unary_passes_by (t ∷ more) h e f = kind_passes t.kind (next_of more) (spec_of more) (start_of more) h e f

pub unary_passes : (before : List Token) (depth : ℕ) (s : Parsed) (mid : List Token) (p : Parsed) (after : List Token) → word_at before ≢ Some keyword.Sizeof → step_at (mark_at before) ≡ None → prefix_at (mark_at before) ≡ None
    → IsOperand before depth s mid → IsBehind s mid depth p after → IsParsed UnaryRow None before depth p after
unary_passes before depth s mid p after h e f a b =
    let postfix : Reads PostfixRow before (read p after) = Both a.starts (subst (λ q. More PostfixRow q (going_of PostfixRow (next_of mid)) (expression_of s.tree.value) s.is_unary mid (read p after)) a.place b.more) in
    record {
      reads = Both (subst (λ k. Starts UnaryRow k before (read p after)) (sym (unary_passes_by before h e f)) (PassFirst refl postfix))
          (subst (λ g. More UnaryRow (place_of before) g (expression_of p.tree.value) p.is_unary after (read p after)) (sym (no_unary (next_of after))) Stop);
      place = b.place ∙ a.place;
      measured = b.measured;
      shorter = let k = a.shorter in let j = b.shorter in omega arith;
    }

-- ---- primaries

-- a leaf by its token
leaf_operand : (before : List Token) (depth : ℕ) (p : Parsed) (after : List Token) (form : ExpressionForm) (at : ℕ) → IsNode form at true 0 p → form_height form ≡ 0 → depth < greatest_height → at ≡ place_of before → length after ≤ length before
    → Starts PostfixRow (first_of PostfixRow (start_of before)) before (reading (Node form (place_of before)) true after) → IsOperand before depth p after
leaf_operand before depth p after form at n e le place lt s = record {
  starts = subst (λ o. Starts PostfixRow (first_of PostfixRow (start_of before)) before o) (sym (ap (λ t. reading t p.is_unary after) (n.tree ∙ ap (Node form) place) ∙ ap (λ u. reading (Node form (place_of before)) u after) n.unary_is)) s;
  place = n.place ∙ place;
  measured = node_measured form at true 0 depth p n (sym e) (omega arith);
  shorter = lt;
}

abbrev some_form : Option ExpressionForm → ExpressionForm
some_form (Some f) = f
some_form None = Character 0

constant_starts : (t : Token) (more : List Token) (k : TokenKind) (form : ExpressionForm) → t.kind ≡ k → constant_form k ≡ Some form
    → Starts PostfixRow (first_of PostfixRow (start_of (t ∷ more))) (t ∷ more) (reading (Node form t.at) true more) × (form_height form ≡ 0)
constant_starts t more (token.Number value marked decimal) form e is =
    let same : Number value marked decimal ≡ form = ap some_form is in (
      subst (λ f. Starts PostfixRow (first_of PostfixRow (start_of (t ∷ more))) (t ∷ more) (reading (Node f t.at) true more)) same
          (operand_by (t ∷ more) (NumberStart value marked decimal) _ (starts_by t more (token.Number value marked decimal) e) refl refl (NumberFirst e)),
      sym (ap form_height same),
    )
constant_starts t more (token.Char value) form e is =
    let same : Character value ≡ form = ap some_form is in (
      subst (λ f. Starts PostfixRow (first_of PostfixRow (start_of (t ∷ more))) (t ∷ more) (reading (Node f t.at) true more)) same
          (operand_by (t ∷ more) (CharacterStart value) _ (starts_by t more (token.Char value) e) refl refl (CharacterFirst e)),
      sym (ap form_height same),
    )
constant_starts t more k form e is = absurd cc

constant_node : (before : List Token) (depth : ℕ) (p : Parsed) (form : ExpressionForm) → constant_at before ≡ Some form → IsNode form (place_of before) true 0 p → depth < greatest_height → IsOperand before depth p (behind before)
constant_node [] depth p form e n le = absurd cc
constant_node (t ∷ more) depth p form e n le =
    let s = constant_starts t more t.kind form refl e in
    leaf_operand (t ∷ more) depth p more form t.at n s.1 le refl (omega arith) s.0

pub constant_operand : (before : List Token) (depth : ℕ) (p : Parsed) (after : List Token) → IsConstant before p after → depth < greatest_height → IsOperand before depth p after
constant_operand before depth p after c le = subst (λ l. IsOperand before depth p l) (sym c.left) (constant_node before depth p c.form c.is c.node le)

constant_by : (before : List Token) (kind : TokenKind) → kind_at before ≡ Some kind → constant_at before ≡ constant_form kind
constant_by [] kind e = absurd cc
constant_by (t ∷ more) kind e = let same : t.kind ≡ kind = cc in ap constant_form same

some_kind : (before : List Token) (kind : TokenKind) → kind_at before ≡ Some kind → 0 < length before
some_kind [] kind e = absurd cc
some_kind (t ∷ more) kind e = omega arith

pub constant_read : (before after : List Token) (kind : TokenKind) (k : ExprKind) (at : ℕ) (p : Parsed) → after ≡ behind before → kind_at before ≡ Some kind → constant_form kind ≡ Some (form_of k) → (0 < length before → at ≡ place_of before)
    → IsNode (form_of k) at true 0 p → IsConstant before p after
constant_read before after kind k at p left e is place n = record {
  form = form_of k;
  is = constant_by before kind e ∙ is;
  node = subst (λ a. IsNode (form_of k) a true 0 p) (place (some_kind before kind e)) n;
  left = left;
}

-- ---- names and calls

name_by : (o : Option Punct) (name : List ℕ) → o ≢ Some mark.OpenParen → name_start (next_at o) name ≡ NameStart name
name_by None name h = refl
name_by (Some mark.OpenParen) name h = absurd (h refl)
name_by (Some m) name h = refl

pub name_operand : (before : List Token) (depth : ℕ) (p : Parsed) (name : List ℕ) (at : ℕ) → name_at before ≡ Some name → mark_at (behind before) ≢ Some mark.OpenParen → (0 < length before → at ≡ place_of before) → depth < greatest_height
    → IsNode (Name name) at true 0 p → IsOperand before depth p (behind before)
name_operand [] depth p name at e h place le n = absurd cc
name_operand (t ∷ more) depth p name at e h place le n =
    let is = kind_named t.kind name e in
    leaf_operand (t ∷ more) depth p more (Name name) at n refl le (place (omega arith)) (omega arith)
    (operand_by (t ∷ more) (NameStart name) _ (starts_by t more (token.Name name) is ∙ ap (λ x. name_start x name) (next_is more) ∙ name_by (mark_at more) name h) refl refl (NameFirst is))

call_starts : (t : Token) (more rest : List Token) (name : List ℕ) (depth : ℕ) (a : Arguments) → t.kind ≡ token.Name name → mark_at more ≡ Some mark.OpenParen → AreRead (behind more) depth a rest
    → Starts PostfixRow (first_of PostfixRow (start_of (t ∷ more))) (t ∷ more) (reading (Node (Call name (trees_of a.list.items)) t.at) true rest)
call_starts t [] rest name depth a e h r = absurd cc
call_starts t (u ∷ more) rest name depth a e h r =
    let start : start_of (t ∷ u ∷ more) ≡ CallStart name = starts_by t (u ∷ more) (token.Name name) e ∙ ap (λ x. name_start x name) (next_is (u ∷ more) ∙ ap next_at h) in
    subst (λ f. Starts PostfixRow f (t ∷ u ∷ more) (reading (Node (Call name (trees_of a.list.items)) t.at) true rest)) (sym (ap postfix_first start)) (CallFirst e (is_first u more mark.OpenParen h) r.reads)

pub call_operand : (before : List Token) (depth : ℕ) (p : Parsed) (name : List ℕ) (at : ℕ) (a : Arguments) (rest : List Token) → name_at before ≡ Some name → mark_at (behind before) ≡ Some mark.OpenParen → (0 < length before → at ≡ place_of before)
    → AreRead (behind (behind before)) depth a rest → IsNode (Call name (trees_of a.list.items)) at true a.height p → IsOperand before depth p rest
call_operand [] depth p name at a rest e h place r n = absurd cc
call_operand (t ∷ more) depth p name at a rest e h place r n =
    let here = place (omega arith) in
    record {
      starts = subst (λ o. Starts PostfixRow (first_of PostfixRow (start_of (t ∷ more))) (t ∷ more) o) (sym (ap (λ k. reading k p.is_unary rest) (n.tree ∙ ap (Node (Call name (trees_of a.list.items))) here) ∙ ap (λ u. reading (Node (Call name (trees_of a.list.items)) t.at) u rest) n.unary_is))
          (call_starts t more rest name depth a (kind_named t.kind name e) h r);
      place = n.place ∙ here;
      measured = node_measured _ at true a.height depth p n r.height r.fits;
      shorter = let k = r.shorter in omega (arith, behind_shorter more);
    }
