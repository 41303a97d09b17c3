-- How high the tree of a source is (docs/LANGUAGE.md, "Grammar"). A node without parts has height 1, another is one higher than its highest part, and the parts of a list stand on one level.
use Rattle.std.specs.Prelude.{ℕ, ◌+◌, max, List, map, fold, Option, Some, None}
use Rattle.c_syntax.specs.SyntaxTree.{Expression, Node, ExpressionForm, Name, Number, Character, Index, Call, StepAfter, StepBefore, Prefix, SizeofValue, SizeofType, Cast, Binary, And, Or, Conditional, Assign, AssignOp, Comma, Expressions, no_argument, argument, ParameterTree, ParametersTree, ItemForm, Plain, Parameters, Array, InitialTree, One, Braced, ItemTree, DeclarationTree, Statement, Empty, Evaluate, Block, Break, Continue, Return, DoWhile, If, IfElse, While, For, Switch, Statements, no_statement, statement, Choices, no_choice, case_label, default_label, chosen, ExternalTree, Defined, Declared, UnitTree}
use Rattle.c_syntax.specs.declared.limits.TheConstants.{GREATEST_HEIGHT}

-- the greatest of numbers, and 0 where there are none
abbrev pub greatest : List ℕ → ℕ
greatest numbers = fold max 0 numbers

-- the row `specs` and the row `stars` have no parts
abbrev pub leaf : ℕ
leaf = 1

abbrev mutual
  pub expression_height : Expression → ℕ
  expression_height (Node form at) = 1 + form_height form

  -- the height of the highest part
  pub form_height : ExpressionForm → ℕ
  form_height (Name name) = 0
  form_height (Number value marked decimal) = 0
  form_height (Character value) = 0
  form_height (Index operand index) = max (expression_height operand) (expression_height index)
  form_height (Call name arguments) = arguments_height arguments
  form_height (StepAfter up operand) = expression_height operand
  form_height (StepBefore up operand) = expression_height operand
  form_height (Prefix operator operand) = expression_height operand
  form_height (SizeofValue operand) = expression_height operand
  form_height (SizeofType type) = leaf
  form_height (Cast type operand) = max leaf (expression_height operand)
  form_height (Binary operator left right) = max (expression_height left) (expression_height right)
  form_height (And left right) = max (expression_height left) (expression_height right)
  form_height (Or left right) = max (expression_height left) (expression_height right)
  form_height (Conditional test a b) = max (expression_height test) (max (expression_height a) (expression_height b))
  form_height (Assign left right) = max (expression_height left) (expression_height right)
  form_height (AssignOp operator left right) = max (expression_height left) (expression_height right)
  form_height (Comma left right) = max (expression_height left) (expression_height right)

  pub arguments_height : Expressions → ℕ
  arguments_height no_argument = 0
  arguments_height (argument tree arguments) = max (expression_height tree) (arguments_height arguments)

-- 0 where there is none
abbrev pub optional_height : Option Expression → ℕ
optional_height None = 0
optional_height (Some tree) = expression_height tree

abbrev pub array_height : Option (Option Expression) → ℕ
array_height None = 0
array_height (Some length) = optional_height length

abbrev pub parameter_height : ParameterTree → ℕ
parameter_height tree = 1 + max leaf (array_height tree.array)

abbrev pub parameters_height : ParametersTree → ℕ
parameters_height tree = 1 + greatest (map parameter_height tree.list)

abbrev pub item_form_height : ItemForm → ℕ
item_form_height Plain = 0
item_form_height (Parameters tree) = parameters_height tree
item_form_height (Array length) = optional_height length

abbrev pub initial_height : Option InitialTree → ℕ
initial_height None = 0
initial_height (Some (One tree)) = expression_height tree
initial_height (Some (Braced trees at)) = 1 + greatest (map expression_height trees)

abbrev pub item_height : ItemTree → ℕ
item_height tree = 1 + max leaf (max (item_form_height tree.form) (initial_height tree.initial))

abbrev pub declaration_height : DeclarationTree → ℕ
declaration_height tree = 1 + max leaf (greatest (map item_height tree.items))

abbrev mutual
  pub statement_height : Statement → ℕ
  statement_height (Empty at) = 1
  statement_height (Evaluate tree at) = 1 + expression_height tree
  statement_height (Block declarations statements at) = 1 + max (greatest (map declaration_height declarations)) (statements_height statements)
  statement_height (Break at) = 1
  statement_height (Continue at) = 1
  statement_height (Return value at) = 1 + optional_height value
  statement_height (DoWhile body test at) = 1 + max (statement_height body) (expression_height test)
  statement_height (If test body at) = 1 + max (expression_height test) (statement_height body)
  statement_height (IfElse test a b at) = 1 + max (expression_height test) (max (statement_height a) (statement_height b))
  statement_height (While test body at) = 1 + max (expression_height test) (statement_height body)
  statement_height (For first test third body at) = 1 + max (max (optional_height first) (max (optional_height test) (optional_height third))) (statement_height body)
  -- the row `choices` is a node of its own
  statement_height (Switch value choices choices_at at) = 1 + max (expression_height value) (1 + choices_height choices)

  pub statements_height : Statements → ℕ
  statements_height no_statement = 0
  statements_height (statement tree trees) = max (statement_height tree) (statements_height trees)

  pub choices_height : Choices → ℕ
  choices_height no_choice = 0
  choices_height (case_label value choices) = max (expression_height value) (choices_height choices)
  choices_height (default_label choices) = choices_height choices
  choices_height (chosen tree choices) = max (statement_height tree) (choices_height choices)

abbrev pub external_height : ExternalTree → ℕ
external_height (Defined tree) = 1 + max leaf (max (parameters_height tree.parameters) (statement_height (Block tree.declarations tree.statements tree.body_at)))
external_height (Declared tree) = declaration_height tree

abbrev pub unit_height : UnitTree → ℕ
unit_height externals = 1 + greatest (map external_height externals)

-- the greatest height of a source's tree
abbrev pub greatest_height : ℕ
greatest_height = GREATEST_HEIGHT
