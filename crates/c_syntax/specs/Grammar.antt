-- The rows of the grammar for expressions, and which tree tokens have by a row: ISO 9899:1990 6.3 and 6.4, of which
-- docs/LANGUAGE.md, "Grammar", has the part that is read. The tokens are cut into those of a row's parts, each of which has its
-- tree by its own row. Nothing is said of how the cuts are found.
use Rattle.std.specs.Prelude.{zero, suc, ◌≡◌, ℕ, Bool, true, false, List, [], ◌∷◌, ◌++◌, Option, Some, None}
use Rattle.c_syntax.specs.declared.token.Token.{Token}
use Rattle.c_syntax.specs.declared.token.TokenKind.TheVariants as token
use Rattle.c_syntax.specs.declared.token.Keyword.{Keyword}
use Rattle.c_syntax.specs.declared.token.Keyword.TheVariants as keyword
use Rattle.c_syntax.specs.declared.token.Punct.{Punct}
use Rattle.c_syntax.specs.declared.token.Punct.TheVariants as mark
use Rattle.c_syntax.specs.declared.operator.BinaryOp.{BinaryOp}
use Rattle.c_syntax.specs.declared.operator.BinaryOp.TheVariants as binary
use Rattle.c_syntax.specs.declared.syntax.SpecWord.{SpecWord}
use Rattle.c_syntax.specs.declared.syntax.SpecWord.TheVariants as word
use Rattle.c_syntax.specs.declared.syntax.PrefixOp.{PrefixOp}
use Rattle.c_syntax.specs.declared.syntax.PrefixOp.TheVariants as prefix
use Rattle.c_syntax.specs.SyntaxTree.{TypeTree, Expression, Node, Name, Number, Character, Index, Call, StepAfter, StepBefore, Prefix, SizeofValue, SizeofType, Cast, Binary, And, Or, Conditional, Assign, AssignOp, Comma, Expressions, no_argument, argument}

-- the rows of expressions, from the loosest to the tightest
pub data Row : Type 0 where
  ExpressionRow : Row
  AssignmentRow : Row
  ConditionalRow : Row
  -- the ten levels of operators between operands
  OrRow : Row
  AndRow : Row
  BitOrRow : Row
  BitXorRow : Row
  BitAndRow : Row
  EqualityRow : Row
  RelationRow : Row
  ShiftRow : Row
  SumRow : Row
  ProductRow : Row
  CastRow : Row
  UnaryRow : Row
  PostfixRow : Row
  PrimaryRow : Row

-- the row to which a row may pass on
abbrev pub tighter : Row → Option Row
tighter ExpressionRow = Some AssignmentRow
tighter AssignmentRow = Some ConditionalRow
tighter ConditionalRow = Some OrRow
tighter OrRow = Some AndRow
tighter AndRow = Some BitOrRow
tighter BitOrRow = Some BitXorRow
tighter BitXorRow = Some BitAndRow
tighter BitAndRow = Some EqualityRow
tighter EqualityRow = Some RelationRow
tighter RelationRow = Some ShiftRow
tighter ShiftRow = Some SumRow
tighter SumRow = Some ProductRow
tighter ProductRow = Some CastRow
tighter CastRow = Some UnaryRow
tighter UnaryRow = Some PostfixRow
tighter PostfixRow = Some PrimaryRow
tighter PrimaryRow = None

-- the level of an operator and its mark
abbrev pub level_of : BinaryOp → Row
level_of binary.Or = BitOrRow
level_of binary.Xor = BitXorRow
level_of binary.And = BitAndRow
level_of binary.Eq = EqualityRow
level_of binary.Ne = EqualityRow
level_of binary.Lt = RelationRow
level_of binary.Gt = RelationRow
level_of binary.Le = RelationRow
level_of binary.Ge = RelationRow
level_of binary.Shl = ShiftRow
level_of binary.Shr = ShiftRow
level_of binary.Add = SumRow
level_of binary.Sub = SumRow
level_of binary.Mul = ProductRow
level_of binary.Div = ProductRow
level_of binary.Rem = ProductRow

abbrev pub operator_mark : BinaryOp → Punct
operator_mark binary.Or = mark.Bar
operator_mark binary.Xor = mark.Caret
operator_mark binary.And = mark.Ampersand
operator_mark binary.Eq = mark.EqualEqual
operator_mark binary.Ne = mark.NotEqual
operator_mark binary.Lt = mark.Less
operator_mark binary.Gt = mark.Greater
operator_mark binary.Le = mark.LessEqual
operator_mark binary.Ge = mark.GreaterEqual
operator_mark binary.Shl = mark.ShiftLeft
operator_mark binary.Shr = mark.ShiftRight
operator_mark binary.Add = mark.Plus
operator_mark binary.Sub = mark.Minus
operator_mark binary.Mul = mark.Star
operator_mark binary.Div = mark.Slash
operator_mark binary.Rem = mark.Percent

-- the mark of an operator with an assignment, where it has one
abbrev pub assignment_mark : BinaryOp → Option Punct
assignment_mark binary.Or = Some mark.BarAssign
assignment_mark binary.Xor = Some mark.CaretAssign
assignment_mark binary.And = Some mark.AmpersandAssign
assignment_mark binary.Shl = Some mark.ShiftLeftAssign
assignment_mark binary.Shr = Some mark.ShiftRightAssign
assignment_mark binary.Add = Some mark.PlusAssign
assignment_mark binary.Sub = Some mark.MinusAssign
assignment_mark binary.Mul = Some mark.StarAssign
assignment_mark binary.Div = Some mark.SlashAssign
assignment_mark binary.Rem = Some mark.PercentAssign
assignment_mark operator = None

abbrev pub prefix_mark : PrefixOp → Punct
prefix_mark prefix.Address = mark.Ampersand
prefix_mark prefix.Pointed = mark.Star
prefix_mark prefix.Plus = mark.Plus
prefix_mark prefix.Minus = mark.Minus
prefix_mark prefix.Complement = mark.Tilde
prefix_mark prefix.Not = mark.Exclamation

-- up and down
abbrev pub step_mark : Bool → Punct
step_mark true = mark.PlusPlus
step_mark false = mark.MinusMinus

abbrev pub spec_keyword : SpecWord → Keyword
spec_keyword word.Static = keyword.Static
spec_keyword word.Void = keyword.Void
spec_keyword word.Char = keyword.Char
spec_keyword word.Short = keyword.Short
spec_keyword word.Int = keyword.Int
spec_keyword word.Signed = keyword.Signed
spec_keyword word.Unsigned = keyword.Unsigned

-- a token that is a mark or a keyword
abbrev pub IsMark : Punct → Token → Type 0
IsMark m t = t.kind ≡ token.Mark m

abbrev pub IsKeyword : Keyword → Token → Type 0
IsKeyword k t = t.kind ≡ token.Word k

-- the place of the first token
abbrev pub place_of : List Token → ℕ
place_of [] = 0
place_of (t ∷ tokens) = t.at

-- the row `specs`: the words of a type, one or more
pub data AreSpecs : List Token → List SpecWord → Type 0 where
  LastSpec : {t : Token} {w : SpecWord} → IsKeyword (spec_keyword w) t → AreSpecs (t ∷ []) (w ∷ [])
  MoreSpecs : {t : Token} {tokens : List Token} {w : SpecWord} {words : List SpecWord} → IsKeyword (spec_keyword w) t → AreSpecs tokens words → AreSpecs (t ∷ tokens) (w ∷ words)

-- the row `stars`: so many `*`
pub data AreStars : List Token → ℕ → Type 0 where
  NoStar : AreStars [] zero
  MoreStars : {t : Token} {tokens : List Token} {n : ℕ} → IsMark mark.Star t → AreStars tokens n → AreStars (t ∷ tokens) (suc n)

-- specs and stars
pub record IsType (tokens : List Token) (type : TypeTree) : Type 0 where
  pub words : List Token
  pub stars : List Token
  pub cut : tokens ≡ words ++ stars
  pub are_specs : AreSpecs words type.specs.words
  pub place : type.specs.at ≡ place_of words
  pub are_stars : AreStars stars type.stars

mutual
  -- tokens have a tree by a row
  pub data Derives : Row → List Token → Expression → Type 0 where
    -- a row that passes on
    Passes : {row : Row} {tokens : List Token} {tree : Expression} → (next : Row) → tighter row ≡ Some next → Derives next tokens tree → Derives row tokens tree
    -- expression: expression , assignment
    CommaRule : {tokens : List Token} (a b : List Token) (t : Token) {left right : Expression} → tokens ≡ a ++ t ∷ b
        → Derives ExpressionRow a left → IsMark mark.Comma t → Derives AssignmentRow b right → Derives ExpressionRow tokens (Node (Comma left right) (place_of tokens))
    -- assignment: unary = assignment, or with an operator
    AssignRule : {tokens : List Token} (a b : List Token) (t : Token) {left right : Expression} → tokens ≡ a ++ t ∷ b
        → Derives UnaryRow a left → IsMark mark.Assign t → Derives AssignmentRow b right → Derives AssignmentRow tokens (Node (Assign left right) (place_of tokens))
    AssignOpRule : {tokens : List Token} (a b : List Token) (t : Token) (m : Punct) {operator : BinaryOp} {left right : Expression} → tokens ≡ a ++ t ∷ b
        → Derives UnaryRow a left → assignment_mark operator ≡ Some m → IsMark m t → Derives AssignmentRow b right → Derives AssignmentRow tokens (Node (AssignOp operator left right) (place_of tokens))
    -- conditional: level ? expression : conditional
    ConditionalRule : {tokens : List Token} (a b c : List Token) (t u : Token) {test yes no : Expression} → tokens ≡ a ++ t ∷ b ++ u ∷ c
        → Derives OrRow a test → IsMark mark.Question t → Derives ExpressionRow b yes → IsMark mark.Colon u → Derives ConditionalRow c no
        → Derives ConditionalRow tokens (Node (Conditional test yes no) (place_of tokens))
    -- the ten levels, each left-associative
    OrRule : {tokens : List Token} (a b : List Token) (t : Token) {left right : Expression} → tokens ≡ a ++ t ∷ b
        → Derives OrRow a left → IsMark mark.OrOr t → Derives AndRow b right → Derives OrRow tokens (Node (Or left right) (place_of tokens))
    AndRule : {tokens : List Token} (a b : List Token) (t : Token) {left right : Expression} → tokens ≡ a ++ t ∷ b
        → Derives AndRow a left → IsMark mark.AndAnd t → Derives BitOrRow b right → Derives AndRow tokens (Node (And left right) (place_of tokens))
    BinaryRule : {tokens : List Token} (a b : List Token) (t : Token) {row : Row} (next : Row) {operator : BinaryOp} {left right : Expression} → tokens ≡ a ++ t ∷ b
        → level_of operator ≡ row → tighter row ≡ Some next → Derives row a left → IsMark (operator_mark operator) t → Derives next b right
        → Derives row tokens (Node (Binary operator left right) (place_of tokens))
    -- cast: ( specs stars ) cast
    CastRule : {tokens : List Token} (a b : List Token) (t u : Token) {type : TypeTree} {operand : Expression} → tokens ≡ t ∷ a ++ u ∷ b
        → IsMark mark.OpenParen t → IsType a type → IsMark mark.CloseParen u → Derives CastRow b operand → Derives CastRow tokens (Node (Cast type operand) (place_of tokens))
    -- unary: a step, an operator before a cast, sizeof
    StepBeforeRule : {tokens : List Token} (a : List Token) (t : Token) {up : Bool} {operand : Expression} → tokens ≡ t ∷ a
        → IsMark (step_mark up) t → Derives UnaryRow a operand → Derives UnaryRow tokens (Node (StepBefore up operand) (place_of tokens))
    PrefixRule : {tokens : List Token} (a : List Token) (t : Token) {operator : PrefixOp} {operand : Expression} → tokens ≡ t ∷ a
        → IsMark (prefix_mark operator) t → Derives CastRow a operand → Derives UnaryRow tokens (Node (Prefix operator operand) (place_of tokens))
    SizeofValueRule : {tokens : List Token} (a : List Token) (t : Token) {operand : Expression} → tokens ≡ t ∷ a
        → IsKeyword keyword.Sizeof t → Derives UnaryRow a operand → Derives UnaryRow tokens (Node (SizeofValue operand) (place_of tokens))
    SizeofTypeRule : {tokens : List Token} (a : List Token) (t u v : Token) {type : TypeTree} → tokens ≡ t ∷ u ∷ a ++ v ∷ []
        → IsKeyword keyword.Sizeof t → IsMark mark.OpenParen u → IsType a type → IsMark mark.CloseParen v → Derives UnaryRow tokens (Node (SizeofType type) (place_of tokens))
    -- postfix: an index, a step, a call of a name
    IndexRule : {tokens : List Token} (a b : List Token) (t u : Token) {operand index : Expression} → tokens ≡ a ++ t ∷ b ++ u ∷ []
        → Derives PostfixRow a operand → IsMark mark.OpenBracket t → Derives ExpressionRow b index → IsMark mark.CloseBracket u → Derives PostfixRow tokens (Node (Index operand index) (place_of tokens))
    StepAfterRule : {tokens : List Token} (a : List Token) (t : Token) {up : Bool} {operand : Expression} → tokens ≡ a ++ t ∷ []
        → Derives PostfixRow a operand → IsMark (step_mark up) t → Derives PostfixRow tokens (Node (StepAfter up operand) (place_of tokens))
    CallRule : {tokens : List Token} (a : List Token) (t u v : Token) {name : List ℕ} {arguments : Expressions} → tokens ≡ t ∷ u ∷ a ++ v ∷ []
        → t.kind ≡ token.Name name → IsMark mark.OpenParen u → AreArguments a arguments → IsMark mark.CloseParen v → Derives PostfixRow tokens (Node (Call name arguments) (place_of tokens))
    -- primary: a name, a number, a character, ( expression )
    NameRule : {t : Token} {name : List ℕ} → t.kind ≡ token.Name name → Derives PrimaryRow (t ∷ []) (Node (Name name) t.at)
    NumberRule : {t : Token} {value : ℕ} {marked decimal : Bool} → t.kind ≡ token.Number value marked decimal → Derives PrimaryRow (t ∷ []) (Node (Number value marked decimal) t.at)
    CharacterRule : {t : Token} {value : ℕ} → t.kind ≡ token.Char value → Derives PrimaryRow (t ∷ []) (Node (Character value) t.at)
    ParenRule : {tokens : List Token} (a : List Token) (t u : Token) {tree : Expression} → tokens ≡ t ∷ a ++ u ∷ []
        → IsMark mark.OpenParen t → Derives ExpressionRow a tree → IsMark mark.CloseParen u → Derives PrimaryRow tokens tree

  -- none, or assignments with commas between them
  pub data AreArguments : List Token → Expressions → Type 0 where
    NoArgument : AreArguments [] no_argument
    SomeArguments : {tokens : List Token} {arguments : Expressions} → AreSome tokens arguments → AreArguments tokens arguments

  pub data AreSome : List Token → Expressions → Type 0 where
    LastArgument : {tokens : List Token} {tree : Expression} → Derives AssignmentRow tokens tree → AreSome tokens (argument tree no_argument)
    MoreArguments : {tokens : List Token} (a b : List Token) (t : Token) {tree : Expression} {arguments : Expressions} → tokens ≡ a ++ t ∷ b
        → Derives AssignmentRow a tree → IsMark mark.Comma t → AreSome b arguments → AreSome tokens (argument tree arguments)
