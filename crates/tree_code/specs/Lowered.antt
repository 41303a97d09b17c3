-- The word tree of a typed program, form by form: ISO 9899:1990 6.3 and 6.6. Operations are chosen by the types of their operands, and
-- conversions vanish, since the 16 bits stay. Null is 0 in the typed tree already, and a cell is one word, so an index is a distance.
use Rattle.std.specs.Prelude.{ℕ, ◌+◌, ◌≤◌, Bool, true, false, ◌&&◌, if◌then◌else◌, length, map, Option, Some, None}
use Rattle.c_tree.specs.c_syntax.declared.operator.UnaryOp.{UnaryOp}
use Rattle.c_tree.specs.c_syntax.declared.operator.UnaryOp.TheVariants.{Minus, Plus, Complement}
use Rattle.c_tree.specs.declared.limits.TheConstants.{MOST_FRAME_SCALARS}
use Rattle.c_tree.specs.Temporaries.{statement_temporaries}
use Rattle.c_tree.specs.TypedTree as tree
use Rattle.c_tree.specs.TypedTree.{Kind, FunctionTree, ProgramTree}
use Rattle.c_tree.specs.Eval.{kind_of}
use Rattle.tree_code.specs.WordTree as word
use Rattle.tree_code.specs.WordTree.{Node, FunctionCode, ProgramCode}
use Rattle.tree_code.specs.WordTemporaries.{word_statement_temporaries}
use Rattle.tree_code.specs.Operations.{word_op}

abbrev pub is_minus : UnaryOp → Bool
is_minus Minus = true
is_minus Plus = false
is_minus Complement = false

abbrev pub is_conversion : tree.Form → Bool
is_conversion (tree.Convert e) = true
is_conversion form = false

abbrev pub is_number : word.FormCode → Bool
is_number (word.Const w) = true
is_number form = false

abbrev pub is_converted : tree.Expr → Bool
is_converted (tree.Node form kind at) = is_conversion form

-- an operator on a word. A minus on a constant is a constant operand, and a minus on a converted constant isn't: there a plus stands
-- for the conversion.
abbrev pub lowered_unary : UnaryOp → Bool → word.ExprCode → ℕ → word.ExprCode
lowered_unary o converted (Node form place) at =
    if is_minus o && (converted && is_number form) then Node (word.Unary o (Node (word.Unary Plus (Node form place)) place)) at
    else Node (word.Unary o (Node form place)) at

abbrev mutual
  pub lowered : tree.Expr → word.ExprCode
  lowered (tree.Node form kind at) = lowered_form form kind at

  -- a form, with the type of its value and its place
  pub lowered_form : tree.Form → Kind → ℕ → word.ExprCode
  lowered_form (tree.Const w) kind at = Node (word.Const w) at
  lowered_form (tree.Read v) kind at = Node (word.Read v) at
  lowered_form (tree.AddressOf v) kind at = Node (word.AddressOf v) at
  lowered_form (tree.Load e) kind at = Node (word.Load (lowered e)) at
  lowered_form (tree.Unary o e) kind at = lowered_unary o (is_converted e) (lowered e) at
  lowered_form (tree.Binary o a b) kind at = Node (word.Binary (word_op o (kind_of a) (kind_of b)) (lowered a) (lowered b)) at
  lowered_form (tree.And a b) kind at = Node (word.And (lowered a) (lowered b)) at
  lowered_form (tree.Or a b) kind at = Node (word.Or (lowered a) (lowered b)) at
  lowered_form (tree.Not e) kind at = Node (word.Not (lowered e)) at
  lowered_form (tree.Pick c a b) kind at = Node (word.Pick (lowered c) (lowered a) (lowered b)) at
  lowered_form (tree.Assign l e) kind at = Node (word.Assign (lowered_target l) (lowered e)) at
  lowered_form (tree.AssignOp o l e) kind at = Node (word.AssignOp (word_op o kind (kind_of e)) (lowered_target l) (lowered e)) at
  lowered_form (tree.StepBefore up l) kind at = Node (word.StepBefore up (lowered_target l)) at
  lowered_form (tree.StepAfter up l) kind at = Node (word.StepAfter up (lowered_target l)) at
  lowered_form (tree.Call f es) kind at = Node (word.Call f (lowered_list es)) at
  lowered_form (tree.In port) kind at = Node (word.In port) at
  lowered_form (tree.Out port e) kind at = Node (word.Out port (lowered e)) at
  lowered_form (tree.Comma a b) kind at = Node (word.Comma (lowered a) (lowered b)) at
  lowered_form (tree.Convert e) kind at = lowered e

  pub lowered_target : tree.Lvalue → word.LvalueCode
  lowered_target (tree.Named v at) = word.Named v at
  lowered_target (tree.At e at) = word.At (lowered e) at

  pub lowered_list : tree.Exprs → word.ExprsCode
  lowered_list tree.none = word.none
  lowered_list (tree.more e rest) = word.more (lowered e) (lowered_list rest)

abbrev pub lowered_optional : Option tree.Expr → Option word.ExprCode
lowered_optional None = None
lowered_optional (Some e) = Some (lowered e)

abbrev mutual
  pub lowered_statement : tree.Stmt → word.StmtCode
  lowered_statement (tree.Block declared ss) = word.Block declared (lowered_statements ss)
  lowered_statement (tree.Fill n) = word.Fill n
  lowered_statement (tree.Do_expr e) = word.Do_expr (lowered e)
  lowered_statement (tree.If e a b) = word.If (lowered e) (lowered_statement a) (lowered_statement b)
  lowered_statement (tree.While e a) = word.While (lowered e) (lowered_statement a)
  lowered_statement (tree.Do_while a e) = word.Do_while (lowered_statement a) (lowered e)
  lowered_statement (tree.For x y z a) = word.For (lowered_optional x) (lowered_optional y) (lowered_optional z) (lowered_statement a)
  lowered_statement (tree.Switch e cs) = word.Switch (lowered e) (lowered_choices cs)
  lowered_statement tree.Break = word.Break
  lowered_statement tree.Continue = word.Continue
  lowered_statement (tree.Return e) = word.Return (lowered_optional e)

  pub lowered_statements : tree.Stmts → word.StmtsCode
  lowered_statements tree.done = word.done
  lowered_statements (tree.both s rest) = word.both (lowered_statement s) (lowered_statements rest)

  pub lowered_choices : tree.Choices → word.ChoicesCode
  lowered_choices tree.no_more = word.no_more
  lowered_choices (tree.case w rest) = word.case w (lowered_choices rest)
  lowered_choices (tree.default rest) = word.default (lowered_choices rest)
  lowered_choices (tree.body s rest) = word.body (lowered_statement s) (lowered_choices rest)

-- a function whose frame has room for its scalars and temporaries
abbrev pub HasFewScalars : FunctionTree → Type 0
HasFewScalars f = length f.scalars + statement_temporaries f.body ≤ MOST_FRAME_SCALARS

-- a function, whose temporaries follow its frame scalars
abbrev pub lowered_function : FunctionTree → FunctionCode
lowered_function f = record {
  name = f.name;
  scalars = length f.scalars + word_statement_temporaries (lowered_statement f.body);
  params = f.params;
  locals = f.locals;
  body = lowered_statement f.body;
}

-- objects stay as they are
abbrev pub lowered_program : ProgramTree → ProgramCode
lowered_program p = record { statics = p.statics; functions = map lowered_function p.functions }
