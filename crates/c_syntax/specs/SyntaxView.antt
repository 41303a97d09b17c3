-- The tree without memory that a syntax tree in memory stands for, form by form (docs/LANGUAGE.md, "Grammar").
use Rattle.std.specs.Prelude.{ℕ, List, [], ◌∷◌, map, Option, Some, None}
use Rattle.c_syntax.specs.declared.expr.Specs.{Specs}
use Rattle.c_syntax.specs.declared.expr.TypeName.{TypeName}
use Rattle.c_syntax.specs.declared.expr.Expr.{Expr}
use Rattle.c_syntax.specs.declared.expr.ExprKind as kind
use Rattle.c_syntax.specs.declared.expr.ExprKind.{ExprKind, Row_of-Expr, end_of-Expr, more_of-Expr}
use Rattle.c_syntax.specs.declared.decl.Brackets.{Brackets}
use Rattle.c_syntax.specs.declared.decl.Brackets.TheVariants as brackets
use Rattle.c_syntax.specs.declared.decl.Param.{Param}
use Rattle.c_syntax.specs.declared.decl.Params.{Params}
use Rattle.c_syntax.specs.declared.decl.ItemKind.{ItemKind}
use Rattle.c_syntax.specs.declared.decl.ItemKind.TheVariants as item
use Rattle.c_syntax.specs.declared.decl.Init.{Init}
use Rattle.c_syntax.specs.declared.decl.Init.TheVariants as init
use Rattle.c_syntax.specs.declared.decl.Item.{Item}
use Rattle.c_syntax.specs.declared.decl.Decl.{Decl}
use Rattle.c_syntax.specs.declared.stmt.Stmt.{Stmt}
use Rattle.c_syntax.specs.declared.stmt.StmtKind as stmt
use Rattle.c_syntax.specs.declared.stmt.StmtKind.{StmtKind, Row_of-Stmt, end_of-Stmt, more_of-Stmt, Row_of-SwitchPart, end_of-SwitchPart, more_of-SwitchPart}
use Rattle.c_syntax.specs.declared.stmt.SwitchPart as part
use Rattle.c_syntax.specs.declared.stmt.SwitchPart.{SwitchPart}
use Rattle.c_syntax.specs.declared.unit.FunctionDef.{FunctionDef}
use Rattle.c_syntax.specs.declared.unit.External.{External}
use Rattle.c_syntax.specs.declared.unit.External.TheVariants as external
use Rattle.c_syntax.specs.SyntaxTree as tree
use Rattle.c_syntax.specs.SyntaxTree.{SpecsTree, TypeTree, Expression, Node, ExpressionForm, Expressions, no_argument, argument, ParameterTree, ParametersTree, ItemForm, InitialTree, ItemTree, DeclarationTree, Statement, Statements, no_statement, statement, Choices, no_choice, case_label, default_label, chosen, FunctionSyntax, ExternalTree, Defined, Declared, UnitTree}

abbrev pub specs_of : Specs → SpecsTree
specs_of s = record { words = s.words; at = s.at }

abbrev pub type_of : TypeName → TypeTree
type_of t = record { specs = specs_of t.specs; stars = t.stars }

abbrev mutual
  -- the form of an expression, without its boxes
  pub form_of : ExprKind → ExpressionForm
  form_of (kind.Name n) = tree.Name n
  form_of (kind.Number v m d) = tree.Number v m d
  form_of (kind.Char v) = tree.Character v
  form_of (kind.Index' p e a q f b) = tree.Index (Node (form_of e) a) (Node (form_of f) b)
  form_of (kind.Call' n shape all) = tree.Call n (arguments_of all)
  form_of (kind.StepAfter' up p e a) = tree.StepAfter up (Node (form_of e) a)
  form_of (kind.StepBefore' up p e a) = tree.StepBefore up (Node (form_of e) a)
  form_of (kind.Prefix' op p e a) = tree.Prefix op (Node (form_of e) a)
  form_of (kind.SizeofValue' p e a) = tree.SizeofValue (Node (form_of e) a)
  form_of (kind.SizeofType t) = tree.SizeofType (type_of t)
  form_of (kind.Cast' t p e a) = tree.Cast (type_of t) (Node (form_of e) a)
  form_of (kind.Binary' op p e a q f b) = tree.Binary op (Node (form_of e) a) (Node (form_of f) b)
  form_of (kind.And' p e a q f b) = tree.And (Node (form_of e) a) (Node (form_of f) b)
  form_of (kind.Or' p e a q f b) = tree.Or (Node (form_of e) a) (Node (form_of f) b)
  form_of (kind.Conditional' p e a q f b r g c) = tree.Conditional (Node (form_of e) a) (Node (form_of f) b) (Node (form_of g) c)
  form_of (kind.Assign' p e a q f b) = tree.Assign (Node (form_of e) a) (Node (form_of f) b)
  form_of (kind.AssignOp' op p e a q f b) = tree.AssignOp op (Node (form_of e) a) (Node (form_of f) b)
  form_of (kind.Comma' p e a q f b) = tree.Comma (Node (form_of e) a) (Node (form_of f) b)

  -- the arguments of a call
  pub arguments_of : {m : _} → Row_of-Expr m → Expressions
  arguments_of end_of-Expr = no_argument
  arguments_of (more_of-Expr e a rest) = argument (Node (form_of e) a) (arguments_of rest)

-- an expression
abbrev pub expression_of : Expr → Expression
expression_of e = Node (form_of e.kind) e.at

-- the arguments of a call, of a list of them
abbrev pub trees_of : List Expr → Expressions
trees_of [] = no_argument
trees_of (e ∷ rest) = argument (expression_of e) (trees_of rest)

-- an expression that may be absent
abbrev pub optional_of : Option Expr → Option Expression
optional_of None = None
optional_of (Some e) = Some (expression_of e)

-- a length in brackets, where one is written
abbrev pub brackets_of : Brackets → Option Expression
brackets_of brackets.Unsized = None
brackets_of (brackets.Sized e) = Some (expression_of e)

abbrev pub array_of : Option Brackets → tree.ArrayMark
array_of None = None
array_of (Some b) = Some (brackets_of b)

abbrev pub parameter_of : Param → ParameterTree
parameter_of p = record { specs = specs_of p.specs; stars = p.stars; name = p.name; array = array_of p.array; at = p.at }

abbrev pub parameters_of : Params → ParametersTree
parameters_of p = record { list = map parameter_of p.list; at = p.at }

abbrev pub item_form_of : ItemKind → ItemForm
item_form_of item.Plain = tree.Plain
item_form_of (item.Function p) = tree.Parameters (parameters_of p)
item_form_of (item.Array b) = tree.Array (brackets_of b)

abbrev pub initial_of : Option Init → Option InitialTree
initial_of None = None
initial_of (Some (init.One e)) = Some (tree.One (expression_of e))
initial_of (Some (init.Braced values at)) = Some (tree.Braced (map expression_of values) at)

abbrev pub item_of : Item → ItemTree
item_of i = record { stars = i.stars; name = i.name; form = item_form_of i.kind; initial = initial_of i.init; at = i.at }

abbrev pub declaration_of : Decl → DeclarationTree
declaration_of d = record { specs = specs_of d.specs; items = map item_of d.items; at = d.at }

abbrev mutual
  -- a statement of a kind at a place
  pub statement_of : StmtKind → ℕ → Statement
  statement_of stmt.Empty at = tree.Empty at
  statement_of (stmt.Evaluate e) at = tree.Evaluate (expression_of e) at
  statement_of (stmt.Block' declarations shape all) at = tree.Block (map declaration_of declarations.items) (statements_of all) at
  statement_of stmt.Break at = tree.Break at
  statement_of stmt.Continue at = tree.Continue at
  statement_of (stmt.Return e) at = tree.Return (optional_of e) at
  statement_of (stmt.Do' p k a e) at = tree.DoWhile (statement_of k a) (expression_of e) at
  statement_of (stmt.If' e p k a) at = tree.If (expression_of e) (statement_of k a) at
  statement_of (stmt.IfElse' e p k a q l b) at = tree.IfElse (expression_of e) (statement_of k a) (statement_of l b) at
  statement_of (stmt.While' e p k a) at = tree.While (expression_of e) (statement_of k a) at
  statement_of (stmt.For' e f g p k a) at = tree.For (optional_of e) (optional_of f) (optional_of g) (statement_of k a) at
  statement_of (stmt.Switch' e shape all b) at = tree.Switch (expression_of e) (choices_of all) b at

  -- the statements of a block
  pub statements_of : {m : _} → Row_of-Stmt m → Statements
  statements_of end_of-Stmt = no_statement
  statements_of (more_of-Stmt k a rest) = statement (statement_of k a) (statements_of rest)

  -- what stands between the braces of a switch
  pub choices_of : {m : _} → Row_of-SwitchPart m → Choices
  choices_of end_of-SwitchPart = no_choice
  choices_of (more_of-SwitchPart p rest) = part_before p (choices_of rest)

  -- one of it, before the others
  pub part_before : SwitchPart → Choices → Choices
  part_before (part.Case e) rest = case_label (expression_of e) rest
  part_before part.Default rest = default_label rest
  part_before (part.Body' k a) rest = chosen (statement_of k a) rest

-- the statements of a body
abbrev pub body_of : List Stmt → Statements
body_of [] = no_statement
body_of (s ∷ rest) = statement (statement_of s.kind s.at) (body_of rest)

abbrev pub function_syntax_of : FunctionDef → FunctionSyntax
function_syntax_of f = record {
  specs = specs_of f.specs;
  stars = f.stars;
  name = f.name;
  parameters = parameters_of f.params;
  declarations = map declaration_of f.declarations;
  statements = body_of f.statements;
  body_at = f.body_at;
  at = f.at;
}

abbrev pub external_of : External → ExternalTree
external_of (external.Function f) = Defined (function_syntax_of f)
external_of (external.Declaration d) = Declared (declaration_of d)

-- the tree of a whole source
abbrev pub unit_of : List External → UnitTree
unit_of externals = map external_of externals
