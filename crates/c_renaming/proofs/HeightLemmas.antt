-- A tree with other names and places is as high.
use Rattle.std.proofs.Common.{◌≡◌, ℕ, List, [], ◌∷◌, Option, Some, None, map, refl}
use Rattle.std.specs.Prelude.{option_map}
use Rattle.c_tree.specs.c_syntax.SyntaxTree.{Expression, Node, ExpressionForm, Name, Number, Character, Index, Call, StepAfter, StepBefore, Prefix, SizeofValue, SizeofType, Cast, Binary}
use Rattle.c_tree.specs.c_syntax.SyntaxTree.{And, Or, Conditional, Assign, AssignOp, Comma, Expressions, no_argument, argument, ArrayMark, ParameterTree, ParametersTree, ItemForm, Plain}
use Rattle.c_tree.specs.c_syntax.SyntaxTree.{Parameters, Array, InitialTree, One, Braced, ItemTree, DeclarationTree, Statement, Empty, Evaluate, Block, Break, Continue, Return, DoWhile, If}
use Rattle.c_tree.specs.c_syntax.SyntaxTree.{IfElse, While, For, Switch, Statements, no_statement, statement, Choices, no_choice, case_label, default_label, chosen, ExternalTree, Defined}
use Rattle.c_tree.specs.c_syntax.SyntaxTree.{Declared, UnitTree}
use Rattle.c_tree.specs.c_syntax.Measures.{expression_height, form_height, arguments_height, optional_height, array_height, parameter_height, parameters_height, item_form_height}
use Rattle.c_tree.specs.c_syntax.Measures.{initial_height, item_height, declaration_height, statement_height, statements_height, choices_height, external_height, unit_height}
use Rattle.c_renaming.specs.Renaming.{Renaming}
use Rattle.c_renaming.specs.RenamedTrees.{renamed_expression, renamed_form, renamed_expressions, renamed_mark, renamed_parameter, renamed_parameters, renamed_item_form, renamed_initial}
use Rattle.c_renaming.specs.RenamedTrees.{renamed_item, renamed_declaration, renamed_optional, renamed_statement, renamed_statements, renamed_choices, renamed_external, renamed_unit}

list_high : {X : Type 0} (f : X → ℕ) (g : X → X) → ((x : X) → f (g x) ≡ f x) → (xs : List X) → map f (map g xs) ≡ map f xs
list_high f g h [] = refl
list_high f g h (x ∷ xs) = let p = h x in let q = list_high f g h xs in cc

module _ (r : Renaming) where
  mutual
    pub expression_high : (e : Expression) → expression_height (renamed_expression r e) ≡ expression_height e
    expression_high (Node form at) = let p = form_high form in cc

    form_high : (form : ExpressionForm) → form_height (renamed_form r form) ≡ form_height form
    form_high (Name name) = refl
    form_high (Number value marked decimal) = refl
    form_high (Character value) = refl
    form_high (Index a b) = let p = expression_high a in let q = expression_high b in cc
    form_high (Call name es) = arguments_high es
    form_high (StepAfter up a) = expression_high a
    form_high (StepBefore up a) = expression_high a
    form_high (Prefix o a) = expression_high a
    form_high (SizeofValue a) = expression_high a
    form_high (SizeofType t) = refl
    form_high (Cast t a) = let p = expression_high a in cc
    form_high (Binary o a b) = let p = expression_high a in let q = expression_high b in cc
    form_high (And a b) = let p = expression_high a in let q = expression_high b in cc
    form_high (Or a b) = let p = expression_high a in let q = expression_high b in cc
    form_high (Conditional c a b) = let o = expression_high c in let p = expression_high a in let q = expression_high b in cc
    form_high (Assign a b) = let p = expression_high a in let q = expression_high b in cc
    form_high (AssignOp o a b) = let p = expression_high a in let q = expression_high b in cc
    form_high (Comma a b) = let p = expression_high a in let q = expression_high b in cc

    arguments_high : (es : Expressions) → arguments_height (renamed_expressions r es) ≡ arguments_height es
    arguments_high no_argument = refl
    arguments_high (argument e rest) = let p = expression_high e in let q = arguments_high rest in cc

  optional_high : (e : Option Expression) → optional_height (renamed_optional r e) ≡ optional_height e
  optional_high None = refl
  optional_high (Some e) = expression_high e

  mark_high : (array : ArrayMark) → array_height (renamed_mark r array) ≡ array_height array
  mark_high None = refl
  mark_high (Some e) = optional_high e

  parameter_high : (p : ParameterTree) → parameter_height (renamed_parameter r p) ≡ parameter_height p
  parameter_high p = let q = mark_high p.array in cc

  parameters_high : (ps : ParametersTree) → parameters_height (renamed_parameters r ps) ≡ parameters_height ps
  parameters_high ps = let q = list_high parameter_height (renamed_parameter r) parameter_high ps.list in cc

  item_form_high : (form : ItemForm) → item_form_height (renamed_item_form r form) ≡ item_form_height form
  item_form_high Plain = refl
  item_form_high (Parameters ps) = parameters_high ps
  item_form_high (Array length) = optional_high length

  initial_high : (initial : Option InitialTree) → initial_height (option_map (renamed_initial r) initial) ≡ initial_height initial
  initial_high None = refl
  initial_high (Some (One e)) = expression_high e
  initial_high (Some (Braced es at)) = let q = list_high expression_height (renamed_expression r) expression_high es in cc

  item_high : (item : ItemTree) → item_height (renamed_item r item) ≡ item_height item
  item_high item = let p = item_form_high item.form in let q = initial_high item.initial in cc

  declaration_high : (d : DeclarationTree) → declaration_height (renamed_declaration r d) ≡ declaration_height d
  declaration_high d = let q = list_high item_height (renamed_item r) item_high d.items in cc

  declarations_high : (ds : List DeclarationTree) → map declaration_height (map (renamed_declaration r) ds) ≡ map declaration_height ds
  declarations_high ds = list_high declaration_height (renamed_declaration r) declaration_high ds

  mutual
    statement_high : (s : Statement) → statement_height (renamed_statement r s) ≡ statement_height s
    statement_high (Empty at) = refl
    statement_high (Evaluate e at) = let p = expression_high e in cc
    statement_high (Block ds ss at) = let p = declarations_high ds in let q = statements_high ss in cc
    statement_high (Break at) = refl
    statement_high (Continue at) = refl
    statement_high (Return e at) = let p = optional_high e in cc
    statement_high (DoWhile a e at) = let p = statement_high a in let q = expression_high e in cc
    statement_high (If e a at) = let p = statement_high a in let q = expression_high e in cc
    statement_high (IfElse e a b at) = let p = statement_high a in let o = statement_high b in let q = expression_high e in cc
    statement_high (While e a at) = let p = statement_high a in let q = expression_high e in cc
    statement_high (For x y z a at) = let p = optional_high x in let q = optional_high y in let o = optional_high z in let s = statement_high a in cc
    statement_high (Switch e cs place at) = let p = expression_high e in let q = choices_high cs in cc

    statements_high : (ss : Statements) → statements_height (renamed_statements r ss) ≡ statements_height ss
    statements_high no_statement = refl
    statements_high (statement a rest) = let p = statement_high a in let q = statements_high rest in cc

    choices_high : (cs : Choices) → choices_height (renamed_choices r cs) ≡ choices_height cs
    choices_high no_choice = refl
    choices_high (case_label e rest) = let p = expression_high e in let q = choices_high rest in cc
    choices_high (default_label rest) = choices_high rest
    choices_high (chosen a rest) = let p = statement_high a in let q = choices_high rest in cc

  external_high : (e : ExternalTree) → external_height (renamed_external r e) ≡ external_height e
  external_high (Defined f) =
      let p = parameters_high f.parameters in
      let q = declarations_high f.declarations in
      let s = statements_high f.statements in
      cc
  external_high (Declared d) = declaration_high d

  pub unit_high : (unit : UnitTree) → unit_height (renamed_unit r unit) ≡ unit_height unit
  unit_high unit = let q = list_high external_height (renamed_external r) external_high unit in cc
