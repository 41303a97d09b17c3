-- Sources whose character constants are words: each is below 65536. Numbers aren't looked at, since the rules of types refuse longer ones;
-- nor are the lengths of arrays, which they hold within limits of their own.
use Rattle.std.specs.Prelude.{◌<◌, ⊤, List, [], ◌∷◌, Option, Some, None}
use Rattle.std.specs.List.{AllByRecursion}
use Rattle.c_syntax.specs.SyntaxTree as tree
use Rattle.c_syntax.specs.SyntaxTree.{Expression, ExpressionForm, Expressions, no_argument, argument, InitialTree, ItemTree, DeclarationTree}
use Rattle.c_syntax.specs.SyntaxTree.{Statement, Statements, no_statement, statement, Choices, no_choice, case_label, default_label, chosen}
use Rattle.c_syntax.specs.SyntaxTree.{ExternalTree, Defined, Declared, UnitTree}

abbrev mutual
  pub SaysWords : Expression → Type 0
  SaysWords (tree.Node form at) = FormSaysWords form

  pub FormSaysWords : ExpressionForm → Type 0
  FormSaysWords (tree.Name name) = ⊤
  FormSaysWords (tree.Number value marked decimal) = ⊤
  FormSaysWords (tree.Character value) = value < 65536
  FormSaysWords (tree.Index a b) = SaysWords a × SaysWords b
  FormSaysWords (tree.Call name es) = AllSayWords es
  FormSaysWords (tree.StepAfter up e) = SaysWords e
  FormSaysWords (tree.StepBefore up e) = SaysWords e
  FormSaysWords (tree.Prefix o e) = SaysWords e
  FormSaysWords (tree.SizeofValue e) = SaysWords e
  FormSaysWords (tree.SizeofType t) = ⊤
  FormSaysWords (tree.Cast t e) = SaysWords e
  FormSaysWords (tree.Binary o a b) = SaysWords a × SaysWords b
  FormSaysWords (tree.And a b) = SaysWords a × SaysWords b
  FormSaysWords (tree.Or a b) = SaysWords a × SaysWords b
  FormSaysWords (tree.Conditional c a b) = SaysWords c × SaysWords a × SaysWords b
  FormSaysWords (tree.Assign a b) = SaysWords a × SaysWords b
  FormSaysWords (tree.AssignOp o a b) = SaysWords a × SaysWords b
  FormSaysWords (tree.Comma a b) = SaysWords a × SaysWords b

  pub AllSayWords : Expressions → Type 0
  AllSayWords no_argument = ⊤
  AllSayWords (argument e rest) = SaysWords e × AllSayWords rest

abbrev pub OptionSaysWords : Option Expression → Type 0
OptionSaysWords None = ⊤
OptionSaysWords (Some e) = SaysWords e

abbrev pub InitialSaysWords : Option InitialTree → Type 0
InitialSaysWords None = ⊤
InitialSaysWords (Some (tree.One e)) = SaysWords e
InitialSaysWords (Some (tree.Braced es at)) = AllByRecursion SaysWords es

abbrev pub ItemsSayWords : List ItemTree → Type 0
ItemsSayWords [] = ⊤
ItemsSayWords (item ∷ items) = InitialSaysWords item.initial × ItemsSayWords items

abbrev pub DeclarationsSayWords : List DeclarationTree → Type 0
DeclarationsSayWords [] = ⊤
DeclarationsSayWords (d ∷ ds) = ItemsSayWords d.items × DeclarationsSayWords ds

abbrev mutual
  pub StatementSaysWords : Statement → Type 0
  StatementSaysWords (tree.Empty at) = ⊤
  StatementSaysWords (tree.Evaluate e at) = SaysWords e
  StatementSaysWords (tree.Block ds ss at) = DeclarationsSayWords ds × StatementsSayWords ss
  StatementSaysWords (tree.Break at) = ⊤
  StatementSaysWords (tree.Continue at) = ⊤
  StatementSaysWords (tree.Return e at) = OptionSaysWords e
  StatementSaysWords (tree.DoWhile a e at) = StatementSaysWords a × SaysWords e
  StatementSaysWords (tree.If e a at) = SaysWords e × StatementSaysWords a
  StatementSaysWords (tree.IfElse e a b at) = SaysWords e × StatementSaysWords a × StatementSaysWords b
  StatementSaysWords (tree.While e a at) = SaysWords e × StatementSaysWords a
  StatementSaysWords (tree.For first test third a at) =
      OptionSaysWords first × OptionSaysWords test × OptionSaysWords third × StatementSaysWords a
  StatementSaysWords (tree.Switch e cs place at) = SaysWords e × ChoicesSayWords cs

  pub StatementsSayWords : Statements → Type 0
  StatementsSayWords no_statement = ⊤
  StatementsSayWords (statement a rest) = StatementSaysWords a × StatementsSayWords rest

  pub ChoicesSayWords : Choices → Type 0
  ChoicesSayWords no_choice = ⊤
  ChoicesSayWords (case_label e rest) = SaysWords e × ChoicesSayWords rest
  ChoicesSayWords (default_label rest) = ChoicesSayWords rest
  ChoicesSayWords (chosen a rest) = StatementSaysWords a × ChoicesSayWords rest

abbrev pub ExternalSaysWords : ExternalTree → Type 0
ExternalSaysWords (Defined f) = DeclarationsSayWords f.declarations × StatementsSayWords f.statements
ExternalSaysWords (Declared d) = ItemsSayWords d.items

abbrev pub UnitSaysWords : UnitTree → Type 0
UnitSaysWords [] = ⊤
UnitSaysWords (x ∷ unit) = ExternalSaysWords x × UnitSaysWords unit
