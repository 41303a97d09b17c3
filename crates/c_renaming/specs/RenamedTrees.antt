-- Trees of sources with other names and places.
use Rattle.std.specs.Prelude.{map, Option, option_map}
use Rattle.c_tree.specs.c_syntax.SyntaxTree.{SpecsTree, TypeTree, Expression, ExpressionForm, Node, Expressions, no_argument, argument, ArrayMark, ParameterTree, ParametersTree, ItemForm, Plain, Parameters, Array, InitialTree, One, Braced, ItemTree, DeclarationTree, Statement, Statements, no_statement, statement, Choices, no_choice, case_label, default_label, chosen, FunctionSyntax, ExternalTree, Defined, Declared, UnitTree}
use Rattle.c_tree.specs.c_syntax.SyntaxTree as tree
use Rattle.c_renaming.specs.Renaming.{Renaming}

module _ (r : Renaming) where
  abbrev pub renamed_specs : SpecsTree → SpecsTree
  renamed_specs specs = record { words = specs.words; at = r.place specs.at }

  abbrev pub renamed_type : TypeTree → TypeTree
  renamed_type t = record { specs = renamed_specs t.specs; stars = t.stars }

  abbrev mutual
    pub renamed_expression : Expression → Expression
    renamed_expression (Node form at) = Node (renamed_form form) (r.place at)

    pub renamed_form : ExpressionForm → ExpressionForm
    renamed_form (tree.Name name) = tree.Name (r.name name)
    renamed_form (tree.Number value marked decimal) = tree.Number value marked decimal
    renamed_form (tree.Character value) = tree.Character value
    renamed_form (tree.Index a b) = tree.Index (renamed_expression a) (renamed_expression b)
    renamed_form (tree.Call name es) = tree.Call (r.name name) (renamed_expressions es)
    renamed_form (tree.StepAfter up a) = tree.StepAfter up (renamed_expression a)
    renamed_form (tree.StepBefore up a) = tree.StepBefore up (renamed_expression a)
    renamed_form (tree.Prefix o a) = tree.Prefix o (renamed_expression a)
    renamed_form (tree.SizeofValue a) = tree.SizeofValue (renamed_expression a)
    renamed_form (tree.SizeofType t) = tree.SizeofType (renamed_type t)
    renamed_form (tree.Cast t a) = tree.Cast (renamed_type t) (renamed_expression a)
    renamed_form (tree.Binary o a b) = tree.Binary o (renamed_expression a) (renamed_expression b)
    renamed_form (tree.And a b) = tree.And (renamed_expression a) (renamed_expression b)
    renamed_form (tree.Or a b) = tree.Or (renamed_expression a) (renamed_expression b)
    renamed_form (tree.Conditional c a b) = tree.Conditional (renamed_expression c) (renamed_expression a) (renamed_expression b)
    renamed_form (tree.Assign a b) = tree.Assign (renamed_expression a) (renamed_expression b)
    renamed_form (tree.AssignOp o a b) = tree.AssignOp o (renamed_expression a) (renamed_expression b)
    renamed_form (tree.Comma a b) = tree.Comma (renamed_expression a) (renamed_expression b)

    pub renamed_expressions : Expressions → Expressions
    renamed_expressions no_argument = no_argument
    renamed_expressions (argument e rest) = argument (renamed_expression e) (renamed_expressions rest)

  abbrev pub renamed_mark : ArrayMark → ArrayMark
  renamed_mark array = option_map (option_map renamed_expression) array

  abbrev pub renamed_parameter : ParameterTree → ParameterTree
  renamed_parameter p = record {
    specs = renamed_specs p.specs;
    stars = p.stars;
    name = option_map r.name p.name;
    array = renamed_mark p.array;
    at = r.place p.at;
  }

  abbrev pub renamed_parameters : ParametersTree → ParametersTree
  renamed_parameters ps = record { list = map renamed_parameter ps.list; at = r.place ps.at }

  abbrev pub renamed_item_form : ItemForm → ItemForm
  renamed_item_form Plain = Plain
  renamed_item_form (Parameters ps) = Parameters (renamed_parameters ps)
  renamed_item_form (Array length) = Array (option_map renamed_expression length)

  abbrev pub renamed_initial : InitialTree → InitialTree
  renamed_initial (One e) = One (renamed_expression e)
  renamed_initial (Braced es at) = Braced (map renamed_expression es) (r.place at)

  abbrev pub renamed_item : ItemTree → ItemTree
  renamed_item item = record {
    stars = item.stars;
    name = r.name item.name;
    form = renamed_item_form item.form;
    initial = option_map renamed_initial item.initial;
    at = r.place item.at;
  }

  abbrev pub renamed_declaration : DeclarationTree → DeclarationTree
  renamed_declaration d = record { specs = renamed_specs d.specs; items = map renamed_item d.items; at = r.place d.at }

  abbrev pub renamed_optional : Option Expression → Option Expression
  renamed_optional e = option_map renamed_expression e

  abbrev mutual
    pub renamed_statement : Statement → Statement
    renamed_statement (tree.Empty at) = tree.Empty (r.place at)
    renamed_statement (tree.Evaluate e at) = tree.Evaluate (renamed_expression e) (r.place at)
    renamed_statement (tree.Block ds ss at) = tree.Block (map renamed_declaration ds) (renamed_statements ss) (r.place at)
    renamed_statement (tree.Break at) = tree.Break (r.place at)
    renamed_statement (tree.Continue at) = tree.Continue (r.place at)
    renamed_statement (tree.Return e at) = tree.Return (renamed_optional e) (r.place at)
    renamed_statement (tree.DoWhile a e at) = tree.DoWhile (renamed_statement a) (renamed_expression e) (r.place at)
    renamed_statement (tree.If e a at) = tree.If (renamed_expression e) (renamed_statement a) (r.place at)
    renamed_statement (tree.IfElse e a b at) = tree.IfElse (renamed_expression e) (renamed_statement a) (renamed_statement b) (r.place at)
    renamed_statement (tree.While e a at) = tree.While (renamed_expression e) (renamed_statement a) (r.place at)
    renamed_statement (tree.For x y z a at) =
        tree.For (renamed_optional x) (renamed_optional y) (renamed_optional z) (renamed_statement a) (r.place at)
    renamed_statement (tree.Switch e cs place at) = tree.Switch (renamed_expression e) (renamed_choices cs) (r.place place) (r.place at)

    pub renamed_statements : Statements → Statements
    renamed_statements no_statement = no_statement
    renamed_statements (statement a rest) = statement (renamed_statement a) (renamed_statements rest)

    pub renamed_choices : Choices → Choices
    renamed_choices no_choice = no_choice
    renamed_choices (case_label e rest) = case_label (renamed_expression e) (renamed_choices rest)
    renamed_choices (default_label rest) = default_label (renamed_choices rest)
    renamed_choices (chosen a rest) = chosen (renamed_statement a) (renamed_choices rest)

  abbrev pub renamed_function : FunctionSyntax → FunctionSyntax
  renamed_function f = record {
    specs = renamed_specs f.specs;
    stars = f.stars;
    name = r.name f.name;
    parameters = renamed_parameters f.parameters;
    declarations = map renamed_declaration f.declarations;
    statements = renamed_statements f.statements;
    body_at = r.place f.body_at;
    at = r.place f.at;
  }

  abbrev pub renamed_external : ExternalTree → ExternalTree
  renamed_external (Defined f) = Defined (renamed_function f)
  renamed_external (Declared d) = Declared (renamed_declaration d)

  abbrev pub renamed_unit : UnitTree → UnitTree
  renamed_unit unit = map renamed_external unit
