-- A row of the grammar read from the front of its input, by the tokens that stand there: what stands first is read, and then
-- what goes on with it. What is left is the rest.
use Rattle.std.specs.Prelude.{◌≡◌, ℕ, Bool, true, false, List, [], ◌∷◌, ◌++◌, Option, Some, None}
use Rattle.c_syntax.specs.declared.token.Token.{Token}
use Rattle.c_syntax.specs.declared.token.TokenKind.{TokenKind}
use Rattle.c_syntax.specs.declared.token.TokenKind.TheVariants as token
use Rattle.c_syntax.specs.declared.token.Punct.{Punct}
use Rattle.c_syntax.specs.declared.token.Punct.TheVariants as mark
use Rattle.c_syntax.specs.declared.token.Keyword.TheVariants as keyword
use Rattle.c_syntax.specs.declared.operator.BinaryOp.{BinaryOp}
use Rattle.c_syntax.specs.declared.syntax.PrefixOp.{PrefixOp}
use Rattle.c_syntax.specs.SyntaxTree.{TypeTree, Expression, Node, Name, Number, Character, Index, Call, StepAfter, StepBefore, Prefix, SizeofValue, SizeofType, Cast, Binary, And, Or, Conditional, Assign, AssignOp, Comma, Expressions, no_argument, argument}
use Rattle.c_syntax.specs.Grammar.{Row, ExpressionRow, AssignmentRow, ConditionalRow, OrRow, AndRow, BitOrRow, CastRow, UnaryRow, PostfixRow, PrimaryRow, tighter, level_of, operator_mark, assignment_mark, prefix_mark, step_mark, IsMark, IsKeyword, place_of, IsType}
use Rattle.c_syntax.specs.Lookahead.{CommaNext, AssignNext, AssignOpNext, QuestionNext, OrNext, AndNext, BinaryNext, IndexNext, StepNext, next_of, Going, Stops, Goes, going_of, Start, NameStart, CallStart, NumberStart, CharacterStart, ParenStart, CastStart, StepStart, PrefixStart, SizeofValueStart, SizeofTypeStart, start_of}

-- what was read: its tree, whether it is a unary, and the rest
pub record Reading : Type 0 where
  pub tree : Expression
  pub unary : Bool
  pub rest : List Token

abbrev pub reading : Expression → Bool → List Token → Reading
reading tree unary rest = record { tree = tree; unary = unary; rest = rest }

-- the row that a row reads first, and on the right of its operators; the tightest has none
abbrev pub or_primary : Option Row → Row
or_primary (Some row) = row
or_primary None = PrimaryRow

abbrev pub tight : Row → Row
tight row = or_primary (tighter row)

-- what a row reads first: a tighter row, or a form of its own
pub data First : Type 0 where
  PassTo : Row → First
  Takes : Start → First
  Fails : First

abbrev pub primary_first : Start → First
primary_first (NameStart name) = Takes (NameStart name)
primary_first (NumberStart value marked decimal) = Takes (NumberStart value marked decimal)
primary_first (CharacterStart value) = Takes (CharacterStart value)
primary_first ParenStart = Takes ParenStart
primary_first start = Fails

abbrev pub postfix_first : Start → First
postfix_first (CallStart name) = Takes (CallStart name)
postfix_first start = PassTo PrimaryRow

abbrev pub unary_first : Start → First
unary_first (StepStart up) = Takes (StepStart up)
unary_first (PrefixStart operator) = Takes (PrefixStart operator)
unary_first SizeofValueStart = Takes SizeofValueStart
unary_first SizeofTypeStart = Takes SizeofTypeStart
unary_first start = PassTo PostfixRow

abbrev pub cast_first : Start → First
cast_first CastStart = Takes CastStart
cast_first start = PassTo UnaryRow

abbrev pub first_of : Row → Start → First
first_of CastRow start = cast_first start
first_of UnaryRow start = unary_first start
first_of PostfixRow start = postfix_first start
first_of PrimaryRow start = primary_first start
first_of row start = PassTo (tight row)

-- the arguments that were read, and the rest
pub record ArgumentsReading : Type 0 where
  pub trees : Expressions
  pub rest : List Token

abbrev pub listed : Expressions → List Token → ArgumentsReading
listed trees rest = record { trees = trees; rest = rest }

-- what stands in a call where an argument may begin or has ended
pub data Separator : Type 0 where
  CommaHere : Separator
  CloseHere : Separator
  OtherHere : Separator

abbrev pub separator_mark : Punct → Separator
separator_mark mark.Comma = CommaHere
separator_mark mark.CloseParen = CloseHere
separator_mark m = OtherHere

abbrev pub separator_kind : TokenKind → Separator
separator_kind (token.Mark m) = separator_mark m
separator_kind kind = OtherHere

abbrev pub separator_of : List Token → Separator
separator_of [] = OtherHere
separator_of (t ∷ more) = separator_kind t.kind

mutual
  -- a row is read at the front of an input
  pub data Reads : Row → List Token → Reading → Type 0 where
    Both : {row : Row} {input : List Token} {first all : Reading}
        → Starts row (first_of row (start_of input)) input first → More row (place_of input) (going_of row (next_of first.rest)) first.tree first.unary first.rest all
        → Reads row input all

  -- what stands first
  pub data Starts : Row → First → List Token → Reading → Type 0 where
    PassFirst : {row next : Row} {input : List Token} {o : Reading} → tighter row ≡ Some next → Reads next input o → Starts row (PassTo next) input o
    NameFirst : {t : Token} {rest : List Token} {name : List ℕ} → t.kind ≡ token.Name name → Starts PrimaryRow (Takes (NameStart name)) (t ∷ rest) (reading (Node (Name name) t.at) true rest)
    NumberFirst : {t : Token} {rest : List Token} {value : ℕ} {marked decimal : Bool}
        → t.kind ≡ token.Number value marked decimal → Starts PrimaryRow (Takes (NumberStart value marked decimal)) (t ∷ rest) (reading (Node (Number value marked decimal) t.at) true rest)
    CharacterFirst : {t : Token} {rest : List Token} {value : ℕ} → t.kind ≡ token.Char value → Starts PrimaryRow (Takes (CharacterStart value)) (t ∷ rest) (reading (Node (Character value) t.at) true rest)
    ParenFirst : {t u : Token} {input rest : List Token} {tree : Expression} {unary : Bool}
        → IsMark mark.OpenParen t → Reads ExpressionRow input (reading tree unary (u ∷ rest)) → IsMark mark.CloseParen u → Starts PrimaryRow (Takes ParenStart) (t ∷ input) (reading tree true rest)
    CallFirst : {t u : Token} {input : List Token} {name : List ℕ} {o : ArgumentsReading}
        → t.kind ≡ token.Name name → IsMark mark.OpenParen u → ReadsArguments (separator_of input) input o
        → Starts PostfixRow (Takes (CallStart name)) (t ∷ u ∷ input) (reading (Node (Call name o.trees) t.at) true o.rest)
    StepFirst : {t : Token} {input : List Token} {up : Bool} {o : Reading}
        → IsMark (step_mark up) t → Reads UnaryRow input o → Starts UnaryRow (Takes (StepStart up)) (t ∷ input) (reading (Node (StepBefore up o.tree) t.at) true o.rest)
    PrefixFirst : {t : Token} {input : List Token} {operator : PrefixOp} {o : Reading}
        → IsMark (prefix_mark operator) t → Reads CastRow input o → Starts UnaryRow (Takes (PrefixStart operator)) (t ∷ input) (reading (Node (Prefix operator o.tree) t.at) true o.rest)
    SizeofValueFirst : {t : Token} {input : List Token} {o : Reading}
        → IsKeyword keyword.Sizeof t → Reads UnaryRow input o → Starts UnaryRow (Takes SizeofValueStart) (t ∷ input) (reading (Node (SizeofValue o.tree) t.at) true o.rest)
    SizeofTypeFirst : {t u : Token} {input : List Token} (a rest : List Token) (v : Token) {type : TypeTree}
        → IsKeyword keyword.Sizeof t → IsMark mark.OpenParen u → input ≡ a ++ v ∷ rest → IsType a type → IsMark mark.CloseParen v
        → Starts UnaryRow (Takes SizeofTypeStart) (t ∷ u ∷ input) (reading (Node (SizeofType type) t.at) true rest)
    CastFirst : {t : Token} {input : List Token} (a rest : List Token) (u : Token) {type : TypeTree} {o : Reading}
        → IsMark mark.OpenParen t → input ≡ a ++ u ∷ rest → IsType a type → IsMark mark.CloseParen u → Reads CastRow rest o
        → Starts CastRow (Takes CastStart) (t ∷ input) (reading (Node (Cast type o.tree) t.at) false o.rest)

  -- what goes on with a tree of the row that begins at a place: the tree, whether it is a unary, what stands behind it, and
  -- what is read in the end
  pub data More : Row → ℕ → Going → Expression → Bool → List Token → Reading → Type 0 where
    Stop : {row : Row} {at : ℕ} {left : Expression} {unary : Bool} {rest : List Token} → More row at Stops left unary rest (reading left unary rest)
    CommaMore : {at : ℕ} {left : Expression} {unary : Bool} {t : Token} {input : List Token} {o all : Reading}
        → IsMark mark.Comma t → Reads AssignmentRow input o → More ExpressionRow at (going_of ExpressionRow (next_of o.rest)) (Node (Comma left o.tree) at) false o.rest all
        → More ExpressionRow at (Goes CommaNext) left unary (t ∷ input) all
    -- only a unary is assigned to
    AssignMore : {at : ℕ} {left : Expression} {t : Token} {input : List Token} {o : Reading}
        → IsMark mark.Assign t → Reads AssignmentRow input o → More AssignmentRow at (Goes AssignNext) left true (t ∷ input) (reading (Node (Assign left o.tree) at) false o.rest)
    AssignOpMore : {at : ℕ} {left : Expression} {t : Token} {input : List Token} {operator : BinaryOp} {o : Reading} (m : Punct)
        → assignment_mark operator ≡ Some m → IsMark m t → Reads AssignmentRow input o
        → More AssignmentRow at (Goes (AssignOpNext operator)) left true (t ∷ input) (reading (Node (AssignOp operator left o.tree) at) false o.rest)
    QuestionMore : {at : ℕ} {left chosen : Expression} {unary same : Bool} {t u : Token} {input more : List Token} {o : Reading}
        → IsMark mark.Question t → Reads ExpressionRow input (reading chosen same (u ∷ more)) → IsMark mark.Colon u → Reads ConditionalRow more o
        → More ConditionalRow at (Goes QuestionNext) left unary (t ∷ input) (reading (Node (Conditional left chosen o.tree) at) false o.rest)
    OrMore : {at : ℕ} {left : Expression} {unary : Bool} {t : Token} {input : List Token} {o all : Reading}
        → IsMark mark.OrOr t → Reads AndRow input o → More OrRow at (going_of OrRow (next_of o.rest)) (Node (Or left o.tree) at) false o.rest all
        → More OrRow at (Goes OrNext) left unary (t ∷ input) all
    AndMore : {at : ℕ} {left : Expression} {unary : Bool} {t : Token} {input : List Token} {o all : Reading}
        → IsMark mark.AndAnd t → Reads BitOrRow input o → More AndRow at (going_of AndRow (next_of o.rest)) (Node (And left o.tree) at) false o.rest all
        → More AndRow at (Goes AndNext) left unary (t ∷ input) all
    BinaryMore : {row : Row} {at : ℕ} {left : Expression} {unary : Bool} {t : Token} {input : List Token} {operator : BinaryOp} {o all : Reading}
        → level_of operator ≡ row → IsMark (operator_mark operator) t → Reads (tight row) input o → More row at (going_of row (next_of o.rest)) (Node (Binary operator left o.tree) at) false o.rest all
        → More row at (Goes (BinaryNext operator)) left unary (t ∷ input) all
    IndexMore : {at : ℕ} {left index : Expression} {unary same : Bool} {t u : Token} {input more : List Token} {all : Reading}
        → IsMark mark.OpenBracket t → Reads ExpressionRow input (reading index same (u ∷ more)) → IsMark mark.CloseBracket u
        → More PostfixRow at (going_of PostfixRow (next_of more)) (Node (Index left index) at) true more all
        → More PostfixRow at (Goes IndexNext) left unary (t ∷ input) all
    StepMore : {at : ℕ} {left : Expression} {unary up : Bool} {t : Token} {input : List Token} {all : Reading}
        → IsMark (step_mark up) t → More PostfixRow at (going_of PostfixRow (next_of input)) (Node (StepAfter up left) at) true input all
        → More PostfixRow at (Goes (StepNext up)) left unary (t ∷ input) all

  -- the arguments of a call, up to behind its `)`
  pub data ReadsArguments : Separator → List Token → ArgumentsReading → Type 0 where
    NoneRead : {t : Token} {rest : List Token} → IsMark mark.CloseParen t → ReadsArguments CloseHere (t ∷ rest) (listed no_argument rest)
    SomeRead : {input : List Token} {o : ArgumentsReading} → ReadsSome input o → ReadsArguments OtherHere input o

  -- one argument and those behind it
  pub data ReadsSome : List Token → ArgumentsReading → Type 0 where
    OneRead : {input : List Token} {o : Reading} {all : ArgumentsReading}
        → Reads AssignmentRow input o → ReadsRest (separator_of o.rest) o.rest all → ReadsSome input (listed (argument o.tree all.trees) all.rest)

  pub data ReadsRest : Separator → List Token → ArgumentsReading → Type 0 where
    LastRead : {t : Token} {rest : List Token} → IsMark mark.CloseParen t → ReadsRest CloseHere (t ∷ rest) (listed no_argument rest)
    MoreRead : {t : Token} {input : List Token} {o : ArgumentsReading} → IsMark mark.Comma t → ReadsSome input o → ReadsRest CommaHere (t ∷ input) o
