-- What the parser owes: what was read by a row, from the front of the tokens or on from a primary that was read already.
use Rattle.std.specs.Prelude.{◌≡◌, ◌≢◌, ℕ, ◌+◌, ◌<◌, ◌≤◌, Bool, true, List, [], ◌∷◌, ◌++◌, length, Option, Some, None}
use Rattle.c_syntax.specs.declared.token.Token.{Token}
use Rattle.c_syntax.specs.declared.token.TokenKind.{TokenKind}
use Rattle.c_syntax.specs.declared.token.TokenKind.TheVariants as token
use Rattle.c_syntax.specs.declared.token.Punct.TheVariants as mark
use Rattle.c_syntax.specs.SyntaxTree.{SpecsTree, TypeTree, ExpressionForm, Node, Number, Character}
use Rattle.c_syntax.specs.Grammar.{Row, PostfixRow, PrimaryRow, tighter, place_of, IsMark, AreSpecs, AreStars, IsType}
use Rattle.c_syntax.specs.Lookahead.{next_of, going_of, spec_of, start_of}
use Rattle.c_syntax.specs.Reads.{Reading, reading, first_of, Reads, Starts, More, ArgumentsReading, ReadsArguments, listed, separator_of}
use Rattle.c_syntax.specs.Measures.{expression_height, arguments_height, greatest_height}
use Rattle.c_syntax.specs.SyntaxView.{expression_of, trees_of}
use Rattle.c_expressions.specs.declared.parser.Parsed.{Parsed}
use Rattle.c_expressions.specs.declared.parser.Arguments.{Arguments}
use Rattle.c_cursor.specs.Front.{behind, mark_at}

-- a primary that was read goes on through the rows up to one: that which it begins at a place, and all that is read
pub data Climbs : Row → ℕ → Reading → Reading → Type 0 where
  AtPrimary : {at : ℕ} {first : Reading} → Climbs PrimaryRow at first first
  Up : {row next : Row} {at : ℕ} {first mid all : Reading}
      → tighter row ≡ Some next → Climbs next at first mid → More row at (going_of row (next_of mid.rest)) mid.tree mid.unary mid.rest all → Climbs row at first all

-- what was read, and the tokens behind it
abbrev pub read : Parsed → List Token → Reading
read p after = reading (expression_of p.tree.value) p.is_unary after

-- a row's reading, from its start where it has one
abbrev pub ReadBy : Row → Option Parsed → List Token → Reading → Type 0
ReadBy row None before all = Reads row before all
ReadBy row (Some s) before all = Climbs row s.at (read s before) all

abbrev pub place_from : Option Parsed → List Token → ℕ
place_from None before = place_of before
place_from (Some s) before = s.at

-- its height is that of its tree, which may stand under so many nodes
pub record IsMeasured (depth : ℕ) (p : Parsed) : Type 0 where
  pub height : p.height ≡ expression_height (expression_of p.tree.value)
  pub fits : depth + p.height ≤ greatest_height

abbrev pub MayStart : ℕ → Option Parsed → Type 0
MayStart depth None = Unit {0}
MayStart depth (Some s) = IsMeasured depth s

-- a row was read under so many nodes
pub record IsParsed (row : Row) (start : Option Parsed) (before : List Token) (depth : ℕ) (p : Parsed) (after : List Token) : Type 0 where
  pub reads : ReadBy row start before (read p after)
  pub place : p.at ≡ place_from start before
  pub measured : IsMeasured depth p
  pub shorter : length after ≤ length before

-- what stands first in the row `postfix`: a primary, or a call of a name
pub record IsOperand (before : List Token) (depth : ℕ) (p : Parsed) (after : List Token) : Type 0 where
  pub starts : Starts PostfixRow (first_of PostfixRow (start_of before)) before (read p after)
  pub place : p.at ≡ place_of before
  pub measured : IsMeasured depth p
  pub shorter : length after ≤ length before

-- what goes on behind an operand
pub record IsBehind (start : Parsed) (before : List Token) (depth : ℕ) (p : Parsed) (after : List Token) : Type 0 where
  pub more : More PostfixRow start.at (going_of PostfixRow (next_of before)) (expression_of start.tree.value) start.is_unary before (read p after)
  pub place : p.at ≡ start.at
  pub measured : IsMeasured depth p
  pub shorter : length after ≤ length before

-- what goes on with what was read, by a row
pub record IsMore (row : Row) (left : Parsed) (before : List Token) (depth : ℕ) (p : Parsed) (after : List Token) : Type 0 where
  pub more : More row left.at (going_of row (next_of before)) (expression_of left.tree.value) left.is_unary before (read p after)
  pub place : p.at ≡ left.at
  pub measured : IsMeasured depth p
  pub shorter : length after ≤ length before

-- a node of a form over parts of a height
pub record IsNode (form : ExpressionForm) (at : ℕ) (unary : Bool) (parts : ℕ) (p : Parsed) : Type 0 where
  pub tree : expression_of p.tree.value ≡ Node form at
  pub place : p.at ≡ at
  pub unary_is : p.is_unary ≡ unary
  pub height : p.height ≡ parts + 1

-- one index or step behind an operand, with which the row goes on, and only so
pub record IsOneBehind (left : Parsed) (before : List Token) (depth : ℕ) (p : Parsed) (after : List Token) : Type 0 where
  pub more : (all : Reading) → More PostfixRow p.at (going_of PostfixRow (next_of after)) (expression_of p.tree.value) p.is_unary after all
      → More PostfixRow left.at (going_of PostfixRow (next_of before)) (expression_of left.tree.value) left.is_unary before all
  pub only : (all : Reading) → More PostfixRow left.at (going_of PostfixRow (next_of before)) (expression_of left.tree.value) left.is_unary before all
      → More PostfixRow p.at (going_of PostfixRow (next_of after)) (expression_of p.tree.value) p.is_unary after all
  pub place : p.at ≡ left.at
  pub measured : IsMeasured depth p
  pub shorter : length after < length before

-- the constant that stands first
abbrev pub constant_form : TokenKind → Option ExpressionForm
constant_form (token.Number value marked decimal) = Some (Number value marked decimal)
constant_form (token.Char value) = Some (Character value)
constant_form kind = None

abbrev pub constant_at : List Token → Option ExpressionForm
constant_at [] = None
constant_at (t ∷ more) = constant_form t.kind

pub record IsConstant (before : List Token) (p : Parsed) (after : List Token) : Type 0 where
  pub form : ExpressionForm
  pub is : constant_at before ≡ Some form
  pub node : IsNode form (place_of before) true 0 p
  pub left : after ≡ behind before

-- the arguments of a call up to behind its `)`
pub record AreRead (before : List Token) (depth : ℕ) (a : Arguments) (after : List Token) : Type 0 where
  pub reads : ReadsArguments (separator_of before) before (listed (trees_of a.list.items) after)
  pub height : a.height ≡ arguments_height (trees_of a.list.items)
  pub fits : depth + a.height + 1 ≤ greatest_height
  pub shorter : length after ≤ length before

-- the words of a type stand before what is left, where there is none of them
pub record ReadsSpecs (before : List Token) (tree : SpecsTree) (after : List Token) : Type 0 where
  pub taken : List Token
  pub cut : before ≡ taken ++ after
  pub are : AreSpecs taken tree.words
  pub place : tree.at ≡ place_of taken
  pub ends : spec_of after ≡ None

pub record ReadsStars (before : List Token) (stars : ℕ) (after : List Token) : Type 0 where
  pub taken : List Token
  pub cut : before ≡ taken ++ after
  pub are : AreStars taken stars
  pub ends : mark_at after ≢ Some mark.Star

pub record ReadsType (before : List Token) (tree : TypeTree) (after : List Token) : Type 0 where
  pub taken : List Token
  pub cut : before ≡ taken ++ after
  pub is : IsType taken tree
  pub whole : spec_of (is.stars ++ after) ≡ None
  pub ends : mark_at after ≢ Some mark.Star

-- `(`, a type and `)`
pub record ReadsClosed (before : List Token) (tree : TypeTree) (after : List Token) : Type 0 where
  pub opening : Token
  pub taken : List Token
  pub close : Token
  pub cut : before ≡ opening ∷ taken ++ close ∷ after
  pub opens : IsMark mark.OpenParen opening
  pub is : IsType taken tree
  pub closes : IsMark mark.CloseParen close

-- parentheses that stand one behind another, at these places, with no type behind the last
pub data Opened (before : List Token) : List ℕ → List Token → Type 0 where
  NoneOpened : Opened before [] before
  OneOpened : {places : List ℕ} {t : Token} {rest : List Token}
      → Opened before places (t ∷ rest) → IsMark mark.OpenParen t → spec_of rest ≡ None → Opened before (places ++ t.at ∷ []) rest

-- no reading by a row, from its start where it has one, has a tree that may stand under so many nodes
pub record NoReading (row : Row) (start : Option Parsed) (depth : ℕ) (before : List Token) : Type 0 where
  pub never : (all : Reading) → ReadBy row start before all → depth + expression_height all.tree ≤ greatest_height → ⊥

-- so for what goes on with what was read, by a row
pub record NoMore (row : Row) (left : Parsed) (depth : ℕ) (before : List Token) : Type 0 where
  pub never : (all : Reading) → More row left.at (going_of row (next_of before)) (expression_of left.tree.value) left.is_unary before all → depth + expression_height all.tree ≤ greatest_height → ⊥

-- so for what stands first in the row `postfix`, for what goes on behind an operand, for the arguments of a call, and for a type in parentheses
pub record NoOperand (depth : ℕ) (before : List Token) : Type 0 where
  pub never : (all : Reading) → Starts PostfixRow (first_of PostfixRow (start_of before)) before all → depth + expression_height all.tree ≤ greatest_height → ⊥

pub record NoneBehind (start : Parsed) (depth : ℕ) (before : List Token) : Type 0 where
  pub never : (all : Reading) → More PostfixRow start.at (going_of PostfixRow (next_of before)) (expression_of start.tree.value) start.is_unary before all → depth + expression_height all.tree ≤ greatest_height → ⊥

pub record NoArguments (depth : ℕ) (before : List Token) : Type 0 where
  pub never : (all : ArgumentsReading) → ReadsArguments (separator_of before) before all → depth + arguments_height all.trees + 1 ≤ greatest_height → ⊥

pub record NotClosed (before : List Token) : Type 0 where
  pub never : (tree : TypeTree) (after : List Token) → ReadsClosed before tree after → ⊥
