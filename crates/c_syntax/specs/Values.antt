-- Sources whose braces hold values, as the grammar wants them to: ISO 9899:1990 6.5.7.
use Rattle.std.specs.Prelude.{⊤, List, [], ◌∷◌, Option, Some, None}
use Rattle.c_syntax.specs.SyntaxTree as tree
use Rattle.c_syntax.specs.SyntaxTree.{InitialTree, ItemTree, DeclarationTree, Statement, Statements, no_statement, statement, Choices, no_choice}
use Rattle.c_syntax.specs.SyntaxTree.{case_label, default_label, chosen, ExternalTree, Defined, Declared, UnitTree}

abbrev pub HasValue : Option InitialTree → Type 0
HasValue None = ⊤
HasValue (Some (tree.One e)) = ⊤
HasValue (Some (tree.Braced [] at)) = ⊥
HasValue (Some (tree.Braced (e ∷ es) at)) = ⊤

abbrev pub ItemsHaveValues : List ItemTree → Type 0
ItemsHaveValues [] = ⊤
ItemsHaveValues (item ∷ items) = HasValue item.initial × ItemsHaveValues items

abbrev pub DeclarationsHaveValues : List DeclarationTree → Type 0
DeclarationsHaveValues [] = ⊤
DeclarationsHaveValues (d ∷ ds) = ItemsHaveValues d.items × DeclarationsHaveValues ds

abbrev mutual
  pub HasValues : Statement → Type 0
  HasValues (tree.Empty at) = ⊤
  HasValues (tree.Evaluate e at) = ⊤
  HasValues (tree.Block ds ss at) = DeclarationsHaveValues ds × HaveValues ss
  HasValues (tree.Break at) = ⊤
  HasValues (tree.Continue at) = ⊤
  HasValues (tree.Return e at) = ⊤
  HasValues (tree.DoWhile a e at) = HasValues a
  HasValues (tree.If e a at) = HasValues a
  HasValues (tree.IfElse e a b at) = HasValues a × HasValues b
  HasValues (tree.While e a at) = HasValues a
  HasValues (tree.For first test third a at) = HasValues a
  HasValues (tree.Switch e cs place at) = ChoicesHaveValues cs

  pub HaveValues : Statements → Type 0
  HaveValues no_statement = ⊤
  HaveValues (statement a rest) = HasValues a × HaveValues rest

  pub ChoicesHaveValues : Choices → Type 0
  ChoicesHaveValues no_choice = ⊤
  ChoicesHaveValues (case_label e rest) = ChoicesHaveValues rest
  ChoicesHaveValues (default_label rest) = ChoicesHaveValues rest
  ChoicesHaveValues (chosen a rest) = HasValues a × ChoicesHaveValues rest

abbrev pub ExternalHasValues : ExternalTree → Type 0
ExternalHasValues (Defined f) = DeclarationsHaveValues f.declarations × HaveValues f.statements
ExternalHasValues (Declared d) = ItemsHaveValues d.items

abbrev pub UnitHasValues : UnitTree → Type 0
UnitHasValues [] = ⊤
UnitHasValues (x ∷ unit) = ExternalHasValues x × UnitHasValues unit
