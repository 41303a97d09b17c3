-- The tree of a source, without memory: one form for each row of the grammar that makes a node (docs/LANGUAGE.md, "Grammar").
-- A node has its place, the byte offset of its own first token. Parentheses make no node.
use Rattle.std.specs.Prelude.{ℕ, Bool, List, Option}
use Rattle.c_syntax.specs.declared.operator.BinaryOp.{BinaryOp}
use Rattle.c_syntax.specs.declared.syntax.SpecWord.{SpecWord}
use Rattle.c_syntax.specs.declared.syntax.PrefixOp.{PrefixOp}

-- the words of a type
pub record SpecsTree : Type 0 where
  pub words : List SpecWord
  pub at : ℕ

-- a type with its stars, as a cast has it
pub record TypeTree : Type 0 where
  pub specs : SpecsTree
  pub stars : ℕ

mutual
  -- an expression: its form and its place
  pub data Expression : Type 0 where
    Node : ExpressionForm → ℕ → Expression

  -- the forms of expressions
  pub data ExpressionForm : Type 0 where
    -- a name, a constant with its value, whether it is marked as unsigned and whether it is decimal, a character
    Name : List ℕ → ExpressionForm
    Number : ℕ → Bool → Bool → ExpressionForm
    Character : ℕ → ExpressionForm
    -- behind an operand: an index, arguments, a step that is up where its Bool is true
    Index : Expression → Expression → ExpressionForm
    Call : List ℕ → Expressions → ExpressionForm
    StepAfter : Bool → Expression → ExpressionForm
    -- before an operand
    StepBefore : Bool → Expression → ExpressionForm
    Prefix : PrefixOp → Expression → ExpressionForm
    SizeofValue : Expression → ExpressionForm
    SizeofType : TypeTree → ExpressionForm
    Cast : TypeTree → Expression → ExpressionForm
    -- between operands
    Binary : BinaryOp → Expression → Expression → ExpressionForm
    And : Expression → Expression → ExpressionForm
    Or : Expression → Expression → ExpressionForm
    Conditional : Expression → Expression → Expression → ExpressionForm
    Assign : Expression → Expression → ExpressionForm
    AssignOp : BinaryOp → Expression → Expression → ExpressionForm
    Comma : Expression → Expression → ExpressionForm

  -- the arguments of a call
  pub data Expressions : Type 0 where
    no_argument : Expressions
    argument : Expression → Expressions → Expressions

-- how a parameter is an array, where it is one: its length, where one is written
abbrev pub ArrayMark : Type 0
ArrayMark = Option (Option Expression)

-- a parameter: its type, the name, where there is one, and whether it is an array
pub record ParameterTree : Type 0 where
  pub specs : SpecsTree
  pub stars : ℕ
  pub name : Option (List ℕ)
  pub array : ArrayMark
  pub at : ℕ

-- the parameters of a function: none where `void` stands
pub record ParametersTree : Type 0 where
  pub list : List ParameterTree
  pub at : ℕ

-- what stands behind the name of an item
pub data ItemForm : Type 0 where
  -- nothing, parameters, or a length in brackets where one is written
  Plain : ItemForm
  Parameters : ParametersTree → ItemForm
  Array : Option Expression → ItemForm

-- an initialiser: one value, or values in braces with the place of the opening one
pub data InitialTree : Type 0 where
  One : Expression → InitialTree
  Braced : List Expression → ℕ → InitialTree

-- an item that a declaration declares
pub record ItemTree : Type 0 where
  pub stars : ℕ
  pub name : List ℕ
  pub form : ItemForm
  pub initial : Option InitialTree
  pub at : ℕ

-- a declaration of one or more items
pub record DeclarationTree : Type 0 where
  pub specs : SpecsTree
  pub items : List ItemTree
  pub at : ℕ

mutual
  -- the forms of statements, each with its place
  pub data Statement : Type 0 where
    Empty : ℕ → Statement
    Evaluate : Expression → ℕ → Statement
    Block : List DeclarationTree → Statements → ℕ → Statement
    Break : ℕ → Statement
    Continue : ℕ → Statement
    Return : Option Expression → ℕ → Statement
    DoWhile : Statement → Expression → ℕ → Statement
    If : Expression → Statement → ℕ → Statement
    IfElse : Expression → Statement → Statement → ℕ → Statement
    While : Expression → Statement → ℕ → Statement
    For : Option Expression → Option Expression → Option Expression → Statement → ℕ → Statement
    -- a switch with its choices, and their place
    Switch : Expression → Choices → ℕ → ℕ → Statement

  -- statements, one behind another
  pub data Statements : Type 0 where
    no_statement : Statements
    statement : Statement → Statements → Statements

  -- labels and statements of a switch
  pub data Choices : Type 0 where
    no_choice : Choices
    case_label : Expression → Choices → Choices
    default_label : Choices → Choices
    chosen : Statement → Choices → Choices

-- a function with its body
pub record FunctionSyntax : Type 0 where
  pub specs : SpecsTree
  pub stars : ℕ
  pub name : List ℕ
  pub parameters : ParametersTree
  pub declarations : List DeclarationTree
  pub statements : Statements
  -- the places of the body and of the function
  pub body_at : ℕ
  pub at : ℕ

-- what a source consists of
pub data ExternalTree : Type 0 where
  Defined : FunctionSyntax → ExternalTree
  Declared : DeclarationTree → ExternalTree

-- a whole source, which has at least one external
abbrev pub UnitTree : Type 0
UnitTree = List ExternalTree
