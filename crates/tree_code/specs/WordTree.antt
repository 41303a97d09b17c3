-- Word trees, without memory: the forms of typed trees, whose operations are chosen by type. They have no types and no conversions.
use Rattle.std.specs.Prelude.{ℕ, Bool, List, Option}
use Rattle.c_tree.specs.declared.program.VarRef.{VarRef}
use Rattle.c_tree.specs.TypedTree.{ObjectTree}
use Rattle.c_tree.specs.c_syntax.declared.operator.UnaryOp.{UnaryOp}
use Rattle.tree_code.specs.declared.operator.WordOp.{WordOp}

mutual
  -- an expression: its form, and its place in bytes of the source
  pub data ExprCode : Type 0 where
    Node : FormCode → ℕ → ExprCode

  -- what is assigned to, with its place: a name, or the word at an address
  pub data LvalueCode : Type 0 where
    Named : VarRef → ℕ → LvalueCode
    At : ExprCode → ℕ → LvalueCode

  -- the forms of expressions
  pub data FormCode : Type 0 where
    Const : ℕ → FormCode
    Read : VarRef → FormCode
    AddressOf : VarRef → FormCode
    Load : ExprCode → FormCode
    Unary : UnaryOp → ExprCode → FormCode
    Binary : WordOp → ExprCode → ExprCode → FormCode
    And : ExprCode → ExprCode → FormCode
    Or : ExprCode → ExprCode → FormCode
    Not : ExprCode → FormCode
    Pick : ExprCode → ExprCode → ExprCode → FormCode
    Assign : LvalueCode → ExprCode → FormCode
    AssignOp : WordOp → LvalueCode → ExprCode → FormCode
    StepBefore : Bool → LvalueCode → FormCode
    StepAfter : Bool → LvalueCode → FormCode
    Call : ℕ → ExprsCode → FormCode
    In : ℕ → FormCode
    Out : ℕ → ExprCode → FormCode
    Comma : ExprCode → ExprCode → FormCode

  -- the arguments of a call, from left to right
  pub data ExprsCode : Type 0 where
    none : ExprsCode
    more : ExprCode → ExprsCode → ExprsCode

mutual
  -- the forms of statements
  pub data StmtCode : Type 0 where
    Block : List VarRef → StmtsCode → StmtCode
    Fill : ℕ → StmtCode
    Do_expr : ExprCode → StmtCode
    If : ExprCode → StmtCode → StmtCode → StmtCode
    While : ExprCode → StmtCode → StmtCode
    Do_while : StmtCode → ExprCode → StmtCode
    For : Option ExprCode → Option ExprCode → Option ExprCode → StmtCode → StmtCode
    Switch : ExprCode → ChoicesCode → StmtCode
    Break : StmtCode
    Continue : StmtCode
    Return : Option ExprCode → StmtCode

  -- statements, one after another
  pub data StmtsCode : Type 0 where
    done : StmtsCode
    both : StmtCode → StmtsCode → StmtsCode

  -- the labels and statements of a switch, in order
  pub data ChoicesCode : Type 0 where
    no_more : ChoicesCode
    case : ℕ → ChoicesCode → ChoicesCode
    default : ChoicesCode → ChoicesCode
    body : StmtCode → ChoicesCode → ChoicesCode

-- a function: so many scalars, temporaries among them
pub record FunctionCode : Type 0 where
  pub name : List ℕ
  pub scalars : ℕ
  pub params : List VarRef
  pub locals : List ObjectTree
  pub body : StmtCode

-- objects and functions, each named by its number
pub record ProgramCode : Type 0 where
  pub statics : List ObjectTree
  pub functions : List FunctionCode

abbrev pub code : List ObjectTree → List FunctionCode → ProgramCode
code statics functions = record { statics = statics; functions = functions }
