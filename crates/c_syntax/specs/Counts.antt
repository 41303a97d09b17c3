-- How much the nodes of a source's tree weigh, and so how many there are of some kind (docs/LANGUAGE.md, "Grammar").
use Rattle.std.specs.Prelude.{ℕ, ◌+◌, ◌*◌, ◌≤◌, sum_by, length, Option, Some, None}
use Rattle.c_syntax.specs.SyntaxTree.{Expression, Node, ExpressionForm, Name, Number, Character, Index, Call, StepAfter, StepBefore, Prefix, SizeofValue, SizeofType, Cast, Binary, And, Or, Conditional, Assign, AssignOp, Comma, Expressions, no_argument, argument, ParameterTree, ParametersTree, ItemForm, Plain, Parameters, Array, InitialTree, One, Braced, ItemTree, DeclarationTree, Statement, Empty, Evaluate, Block, Break, Continue, Return, DoWhile, If, IfElse, While, For, Switch, Statements, no_statement, statement, Choices, no_choice, case_label, default_label, chosen, ExternalTree, Defined, Declared, UnitTree}
use Rattle.c_syntax.specs.Measures.{greatest_height, unit_height}
use Rattle.c_syntax.specs.declared.limits.TheConstants.{MOST_NODES, MOST_TOKENS}

-- what each expression and each statement weighs, each declared item, each parameter and each star
pub record Weights : Type 0 where
  pub node : ℕ
  pub item : ℕ
  pub parameter : ℕ
  pub star : ℕ

abbrev mutual
  pub expression_weight : Weights → Expression → ℕ
  expression_weight w (Node form at) = w.node + form_weight w form

  pub form_weight : Weights → ExpressionForm → ℕ
  form_weight w (Name name) = 0
  form_weight w (Number value marked decimal) = 0
  form_weight w (Character value) = 0
  form_weight w (Index operand index) = expression_weight w operand + expression_weight w index
  form_weight w (Call name arguments) = arguments_weight w arguments
  form_weight w (StepAfter up operand) = expression_weight w operand
  form_weight w (StepBefore up operand) = expression_weight w operand
  form_weight w (Prefix operator operand) = expression_weight w operand
  form_weight w (SizeofValue operand) = expression_weight w operand
  form_weight w (SizeofType type) = w.star * type.stars
  form_weight w (Cast type operand) = w.star * type.stars + expression_weight w operand
  form_weight w (Binary operator left right) = expression_weight w left + expression_weight w right
  form_weight w (And left right) = expression_weight w left + expression_weight w right
  form_weight w (Or left right) = expression_weight w left + expression_weight w right
  form_weight w (Conditional test a b) = expression_weight w test + expression_weight w a + expression_weight w b
  form_weight w (Assign left right) = expression_weight w left + expression_weight w right
  form_weight w (AssignOp operator left right) = expression_weight w left + expression_weight w right
  form_weight w (Comma left right) = expression_weight w left + expression_weight w right

  pub arguments_weight : Weights → Expressions → ℕ
  arguments_weight w no_argument = 0
  arguments_weight w (argument tree arguments) = expression_weight w tree + arguments_weight w arguments

abbrev pub optional_weight : Weights → Option Expression → ℕ
optional_weight w None = 0
optional_weight w (Some tree) = expression_weight w tree

abbrev pub array_weight : Weights → Option (Option Expression) → ℕ
array_weight w None = 0
array_weight w (Some length) = optional_weight w length

abbrev pub parameter_weight : Weights → ParameterTree → ℕ
parameter_weight w tree = w.parameter + w.star * tree.stars + array_weight w tree.array

abbrev pub parameters_weight : Weights → ParametersTree → ℕ
parameters_weight w tree = sum_by (parameter_weight w) tree.list

abbrev pub item_form_weight : Weights → ItemForm → ℕ
item_form_weight w Plain = 0
item_form_weight w (Parameters tree) = parameters_weight w tree
item_form_weight w (Array length) = optional_weight w length

abbrev pub initial_weight : Weights → Option InitialTree → ℕ
initial_weight w None = 0
initial_weight w (Some (One tree)) = expression_weight w tree
initial_weight w (Some (Braced trees at)) = sum_by (expression_weight w) trees

abbrev pub item_weight : Weights → ItemTree → ℕ
item_weight w tree = w.item + w.star * tree.stars + item_form_weight w tree.form + initial_weight w tree.initial

abbrev pub declaration_weight : Weights → DeclarationTree → ℕ
declaration_weight w tree = sum_by (item_weight w) tree.items

abbrev mutual
  pub statement_weight : Weights → Statement → ℕ
  statement_weight w (Empty at) = w.node
  statement_weight w (Evaluate tree at) = w.node + expression_weight w tree
  statement_weight w (Block declarations statements at) = w.node + sum_by (declaration_weight w) declarations + statements_weight w statements
  statement_weight w (Break at) = w.node
  statement_weight w (Continue at) = w.node
  statement_weight w (Return value at) = w.node + optional_weight w value
  statement_weight w (DoWhile body test at) = w.node + statement_weight w body + expression_weight w test
  statement_weight w (If test body at) = w.node + expression_weight w test + statement_weight w body
  statement_weight w (IfElse test a b at) = w.node + expression_weight w test + statement_weight w a + statement_weight w b
  statement_weight w (While test body at) = w.node + expression_weight w test + statement_weight w body
  statement_weight w (For first test third body at) = w.node + optional_weight w first + optional_weight w test + optional_weight w third + statement_weight w body
  statement_weight w (Switch value choices choices_at at) = w.node + expression_weight w value + choices_weight w choices

  pub statements_weight : Weights → Statements → ℕ
  statements_weight w no_statement = 0
  statements_weight w (statement tree trees) = statement_weight w tree + statements_weight w trees

  pub choices_weight : Weights → Choices → ℕ
  choices_weight w no_choice = 0
  choices_weight w (case_label value choices) = expression_weight w value + choices_weight w choices
  choices_weight w (default_label choices) = choices_weight w choices
  choices_weight w (chosen tree choices) = statement_weight w tree + choices_weight w choices

abbrev pub external_weight : Weights → ExternalTree → ℕ
external_weight w (Defined tree) = w.star * tree.stars + parameters_weight w tree.parameters + statement_weight w (Block tree.declarations tree.statements tree.body_at)
external_weight w (Declared tree) = declaration_weight w tree

abbrev pub unit_weight : Weights → UnitTree → ℕ
unit_weight w externals = sum_by (external_weight w) externals

-- the nodes that count for the size of the code: expressions, statements and declared items
abbrev pub unit_count : UnitTree → ℕ
unit_count = unit_weight (record { node = 1; item = 1; parameter = 0; star = 0 })

-- all parameters, and all stars
abbrev pub unit_parameters : UnitTree → ℕ
unit_parameters = unit_weight (record { node = 0; item = 0; parameter = 1; star = 0 })

abbrev pub unit_stars : UnitTree → ℕ
unit_stars = unit_weight (record { node = 0; item = 0; parameter = 0; star = 1 })

-- the limits of the tree of a source
pub record IsWithinLimits (tree : UnitTree) : Type 0 where
  pub height : unit_height tree ≤ greatest_height
  pub count : unit_count tree ≤ MOST_NODES
  pub externals : length tree ≤ MOST_TOKENS
  pub parameters : unit_parameters tree ≤ MOST_TOKENS
  pub stars : unit_stars tree ≤ MOST_TOKENS
