-- What one to three tokens tell of an expression: how it begins, and what stands behind an operand (docs/LANGUAGE.md, "Grammar").
use Rattle.std.specs.Prelude.{◌==◌, ℕ, Bool, true, false, if◌then◌else◌, List, [], ◌∷◌, Option, Some, None, ◌<◌}
use Rattle.c_syntax.specs.declared.token.Token.{Token}
use Rattle.c_syntax.specs.declared.token.TokenKind.{TokenKind}
use Rattle.c_syntax.specs.declared.token.TokenKind.TheVariants as token
use Rattle.c_syntax.specs.declared.token.Keyword.{Keyword}
use Rattle.c_syntax.specs.declared.token.Keyword.TheVariants as keyword
use Rattle.c_syntax.specs.declared.token.Punct.{Punct}
use Rattle.c_syntax.specs.declared.token.Punct.TheVariants as mark
use Rattle.c_syntax.specs.declared.operator.BinaryOp.{BinaryOp}
use Rattle.c_syntax.specs.declared.operator.BinaryOp.TheVariants as binary
use Rattle.c_syntax.specs.declared.syntax.SpecWord.{SpecWord}
use Rattle.c_syntax.specs.declared.syntax.SpecWord.TheVariants as word
use Rattle.c_syntax.specs.declared.syntax.PrefixOp.{PrefixOp}
use Rattle.c_syntax.specs.declared.syntax.PrefixOp.TheVariants as prefix
use Rattle.c_syntax.specs.Grammar.{Row, ExpressionRow, AssignmentRow, ConditionalRow, OrRow, AndRow, BitOrRow, BitXorRow, BitAndRow, EqualityRow, RelationRow, ShiftRow, SumRow, ProductRow, CastRow, UnaryRow, PostfixRow, PrimaryRow, level_of}

abbrev pub row_rank : Row → ℕ
row_rank ExpressionRow = 1
row_rank AssignmentRow = 2
row_rank ConditionalRow = 3
row_rank OrRow = 4
row_rank AndRow = 5
row_rank BitOrRow = 6
row_rank BitXorRow = 7
row_rank BitAndRow = 8
row_rank EqualityRow = 9
row_rank RelationRow = 10
row_rank ShiftRow = 11
row_rank SumRow = 12
row_rank ProductRow = 13
row_rank CastRow = 14
row_rank UnaryRow = 15
row_rank PostfixRow = 16
row_rank PrimaryRow = 17

-- how a token goes on with an expression whose operand it stands behind, if it does
pub data Next : Type 0 where
  CommaNext : Next
  AssignNext : Next
  AssignOpNext : BinaryOp → Next
  QuestionNext : Next
  OrNext : Next
  AndNext : Next
  BinaryNext : BinaryOp → Next
  IndexNext : Next
  StepNext : Bool → Next
  CallNext : Next
  EndNext : Next

abbrev pub next_mark : Punct → Next
next_mark mark.Comma = CommaNext
next_mark mark.Assign = AssignNext
next_mark mark.BarAssign = AssignOpNext binary.Or
next_mark mark.CaretAssign = AssignOpNext binary.Xor
next_mark mark.AmpersandAssign = AssignOpNext binary.And
next_mark mark.ShiftLeftAssign = AssignOpNext binary.Shl
next_mark mark.ShiftRightAssign = AssignOpNext binary.Shr
next_mark mark.PlusAssign = AssignOpNext binary.Add
next_mark mark.MinusAssign = AssignOpNext binary.Sub
next_mark mark.StarAssign = AssignOpNext binary.Mul
next_mark mark.SlashAssign = AssignOpNext binary.Div
next_mark mark.PercentAssign = AssignOpNext binary.Rem
next_mark mark.Question = QuestionNext
next_mark mark.OrOr = OrNext
next_mark mark.AndAnd = AndNext
next_mark mark.Bar = BinaryNext binary.Or
next_mark mark.Caret = BinaryNext binary.Xor
next_mark mark.Ampersand = BinaryNext binary.And
next_mark mark.EqualEqual = BinaryNext binary.Eq
next_mark mark.NotEqual = BinaryNext binary.Ne
next_mark mark.Less = BinaryNext binary.Lt
next_mark mark.Greater = BinaryNext binary.Gt
next_mark mark.LessEqual = BinaryNext binary.Le
next_mark mark.GreaterEqual = BinaryNext binary.Ge
next_mark mark.ShiftLeft = BinaryNext binary.Shl
next_mark mark.ShiftRight = BinaryNext binary.Shr
next_mark mark.Plus = BinaryNext binary.Add
next_mark mark.Minus = BinaryNext binary.Sub
next_mark mark.Star = BinaryNext binary.Mul
next_mark mark.Slash = BinaryNext binary.Div
next_mark mark.Percent = BinaryNext binary.Rem
next_mark mark.OpenBracket = IndexNext
next_mark mark.PlusPlus = StepNext true
next_mark mark.MinusMinus = StepNext false
next_mark mark.OpenParen = CallNext
next_mark m = EndNext

abbrev pub next_kind : TokenKind → Next
next_kind (token.Mark m) = next_mark m
next_kind kind = EndNext

abbrev pub next_of : List Token → Next
next_of [] = EndNext
next_of (t ∷ more) = next_kind t.kind

-- the row that goes on so, by its number. A call is of a name alone, and its `(` goes on with no row.
abbrev pub next_rank : Next → ℕ
next_rank CommaNext = 1
next_rank AssignNext = 2
next_rank (AssignOpNext operator) = 2
next_rank QuestionNext = 3
next_rank OrNext = 4
next_rank AndNext = 5
next_rank (BinaryNext operator) = row_rank (level_of operator)
next_rank IndexNext = 16
next_rank (StepNext up) = 16
next_rank CallNext = 18
next_rank EndNext = 0

-- what stands at the front goes on with no expression of the row
abbrev pub Ends : Row → List Token → Type 0
Ends row rest = next_rank (next_of rest) < row_rank row

-- whether a row goes on
pub data Going : Type 0 where
  Stops : Going
  Goes : Next → Going

abbrev pub going_of : Row → Next → Going
going_of row next = if next_rank next == row_rank row then Goes next else Stops

-- the word of a type that stands at the front
abbrev pub keyword_spec : Keyword → Option SpecWord
keyword_spec keyword.Static = Some word.Static
keyword_spec keyword.Void = Some word.Void
keyword_spec keyword.Char = Some word.Char
keyword_spec keyword.Short = Some word.Short
keyword_spec keyword.Int = Some word.Int
keyword_spec keyword.Signed = Some word.Signed
keyword_spec keyword.Unsigned = Some word.Unsigned
keyword_spec k = None

abbrev pub kind_spec : TokenKind → Option SpecWord
kind_spec (token.Word k) = keyword_spec k
kind_spec kind = None

abbrev pub spec_of : List Token → Option SpecWord
spec_of [] = None
spec_of (t ∷ more) = kind_spec t.kind

-- how an expression begins
pub data Start : Type 0 where
  -- a name, and one that is called
  NameStart : List ℕ → Start
  CallStart : List ℕ → Start
  NumberStart : ℕ → Bool → Bool → Start
  CharacterStart : ℕ → Start
  -- `(`, and `(` with a word of a type behind it
  ParenStart : Start
  CastStart : Start
  StepStart : Bool → Start
  PrefixStart : PrefixOp → Start
  -- sizeof, and sizeof with `(` and a word of a type behind it
  SizeofValueStart : Start
  SizeofTypeStart : Start
  NoStart : Start

abbrev pub name_start : Next → List ℕ → Start
name_start CallNext name = CallStart name
name_start next name = NameStart name

abbrev pub paren_start : Option SpecWord → Start
paren_start (Some w) = CastStart
paren_start None = ParenStart

abbrev pub sizeof_start : Start → Start
sizeof_start CastStart = SizeofTypeStart
sizeof_start start = SizeofValueStart

abbrev pub keyword_start : Keyword → Start → Start
keyword_start keyword.Sizeof behind = sizeof_start behind
keyword_start k behind = NoStart

abbrev pub mark_start : Punct → Option SpecWord → Start
mark_start mark.OpenParen spec = paren_start spec
mark_start mark.PlusPlus spec = StepStart true
mark_start mark.MinusMinus spec = StepStart false
mark_start mark.Ampersand spec = PrefixStart prefix.Address
mark_start mark.Star spec = PrefixStart prefix.Pointed
mark_start mark.Plus spec = PrefixStart prefix.Plus
mark_start mark.Minus spec = PrefixStart prefix.Minus
mark_start mark.Tilde spec = PrefixStart prefix.Complement
mark_start mark.Exclamation spec = PrefixStart prefix.Not
mark_start m spec = NoStart

-- by the first token and what is at the front behind it
abbrev pub kind_start : TokenKind → Next → Option SpecWord → Start → Start
kind_start (token.Name name) next spec behind = name_start next name
kind_start (token.Number value marked decimal) next spec behind = NumberStart value marked decimal
kind_start (token.Char value) next spec behind = CharacterStart value
kind_start (token.Word k) next spec behind = keyword_start k behind
kind_start (token.Mark m) next spec behind = mark_start m spec

abbrev pub start_of : List Token → Start
start_of [] = NoStart
start_of (t ∷ more) = kind_start t.kind (next_of more) (spec_of more) (start_of more)

-- how tight a row may begin so
abbrev pub start_rank : Start → ℕ
start_rank (NameStart name) = 0
start_rank (NumberStart value marked decimal) = 0
start_rank (CharacterStart value) = 0
start_rank ParenStart = 0
start_rank (CallStart name) = 1
start_rank (StepStart up) = 2
start_rank (PrefixStart operator) = 2
start_rank SizeofValueStart = 2
start_rank SizeofTypeStart = 2
start_rank CastStart = 3
start_rank NoStart = 4

-- the loosest that a row may begin with
abbrev pub row_start : Row → ℕ
row_start PrimaryRow = 0
row_start PostfixRow = 1
row_start UnaryRow = 2
row_start row = 3
