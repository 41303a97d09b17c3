-- A list of tokens has at most one tree by each row of declarations, statements and the unit.
use Rattle.std.proofs.Common.{◌≡◌, ◌≢◌, ℕ, List, [], ◌∷◌, ◌++◌, refl, sym, ap, ◌∙◌}
use Rattle.c_syntax.specs.declared.token.Token.{Token}
use Rattle.c_syntax.specs.declared.token.TokenKind.TheVariants as token
use Rattle.c_syntax.specs.declared.token.Punct.{Punct}
use Rattle.c_syntax.specs.declared.token.Punct.TheVariants as mark
use Rattle.c_syntax.specs.SyntaxTree.{SpecsTree, ParameterTree, ParametersTree, InitialTree, ItemTree, DeclarationTree, Statement, Empty, Evaluate, Block, Break, Continue, Return, DoWhile, If, IfElse, While, For, Switch, Choices, FunctionSyntax, ExternalTree, UnitTree}
use Rattle.c_syntax.specs.Derives.{DerivesSpecs, DerivesInitial, DerivesParameter, DerivesParameters, DerivesItem, DerivesDeclaration, Closing, Closed, Open, DerivesStatement, EmptyRule, EvaluateRule, BlockRule, BreakRule, ContinueRule, ReturnRule, DoRule, IfRule, IfElseRule, WhileRule, ForRule, SwitchRule, DerivesChoices, DerivesFunction, DerivesExternal, DerivesUnit}
use Rattle.c_syntax.specs.Grammar.{AreStars}
use Rattle.c_syntax.proofs.Rows.SpecsAndStars.{stars_one}
use Rattle.c_syntax.proofs.Rows.Fronts.{ElseWord, first, Agree}
use Rattle.c_syntax.proofs.Rows.Given.{OneExpression}
use Rattle.c_syntax.proofs.Rows.Initialisers.{initial_one}
use Rattle.c_syntax.proofs.Rows.Parameters.{type_words_one, parameter_one, parameters_one}
use Rattle.c_syntax.proofs.Rows.Declarations.{item_one, declaration_one}
use Rattle.c_syntax.proofs.Rows.Statements.{fits}
use Rattle.c_syntax.proofs.Rows.Blocks.{statement_one, choices_one}
use Rattle.c_syntax.proofs.Rows.Externals.{function_one, external_one, unit_one}

-- a mark to stand behind a list of tokens, where a row needs one there
abbrev lone : Punct → List Token
lone m = record { kind = token.Mark m; at = 0; len = 0 } ∷ []

-- the row of a statement, by its tree
closing_of : Statement → Closing
closing_of (If test body at) = Open
closing_of (IfElse test body other at) = closing_of other
closing_of (While test body at) = closing_of body
closing_of (For start test step body at) = closing_of body
closing_of (Empty at) = Closed
closing_of (Evaluate value at) = Closed
closing_of (Block declarations statements at) = Closed
closing_of (Break at) = Closed
closing_of (Continue at) = Closed
closing_of (Return value at) = Closed
closing_of (DoWhile body test at) = Closed
closing_of (Switch value choices choices_at at) = Closed

tree_closing : {c : Closing} {tokens : List Token} {x : Statement} → DerivesStatement c tokens x → closing_of x ≡ c
unfolding closing_of
tree_closing (EmptyRule g) = refl
tree_closing (EvaluateRule a t cut g h) = refl
tree_closing (BlockRule a b t u cut g h i j) = refl
tree_closing (BreakRule g h) = refl
tree_closing (ContinueRule g h) = refl
tree_closing (ReturnRule a t u cut g h i) = refl
tree_closing (DoRule closing a b t u v cut g h i j k) = refl
tree_closing (IfRule closing a b t cut g h i) = refl
tree_closing (IfElseRule a b f t u cut g h i j k) = tree_closing k
tree_closing (WhileRule a b t cut g h i) = tree_closing i
tree_closing (ForRule a b cut g h) = tree_closing h
tree_closing (SwitchRule a b t u v cut g h i j k) = refl

module _ (known : OneExpression) where
  -- what is read as a statement before a rest that doesn't begin with `else` is one front, of one row, with one tree
  pub statement_front : (c d : Closing) (a b r s : List Token) (x y : Statement) → DerivesStatement c a x → DerivesStatement d b y → first r ≢ ElseWord → first s ≢ ElseWord → a ++ r ≡ b ++ s → (c ≡ d) × Agree a b r s x y
  statement_front c d a b r s x y g h p q e =
      let found = (statement_one known g).same d b r s y h (fits c r p) (fits d s q) e in
      (sym (tree_closing g) ∙ ap closing_of found.tree ∙ tree_closing h, found)

  -- a closed one is the front of its text whatever stands behind
  pub closed_front : (a b r s : List Token) (x y : Statement) → DerivesStatement Closed a x → DerivesStatement Closed b y → a ++ r ≡ b ++ s → Agree a b r s x y
  closed_front a b r s x y g h e = (statement_one known g).same Closed b r s y h tt tt e

-- over whole lists
module _ (known : OneExpression) (a : List Token) where
  pub one_specs : (x y : SpecsTree) → DerivesSpecs a x → DerivesSpecs a y → x ≡ y
  one_specs x y g h = (type_words_one a a [] [] x y g h (λ e. cc) (λ e. cc) refl).tree

  pub one_stars : (n m : ℕ) → AreStars a n → AreStars a m → n ≡ m
  one_stars n m g h = (stars_one a a [] [] n m g h (λ e. cc) (λ e. cc) refl).tree

  pub one_initial : (x y : InitialTree) → DerivesInitial a x → DerivesInitial a y → x ≡ y
  one_initial x y g h = (initial_one known a a (lone mark.Semicolon) (lone mark.Semicolon) x y g h refl refl refl).tree

  pub one_parameter : (x y : ParameterTree) → DerivesParameter a x → DerivesParameter a y → x ≡ y
  one_parameter x y g h = (parameter_one known a a (lone mark.CloseParen) (lone mark.CloseParen) x y g h refl refl refl).tree

  pub one_parameters : (x y : ParametersTree) → DerivesParameters a x → DerivesParameters a y → x ≡ y
  one_parameters x y g h = (parameters_one known a a (lone mark.CloseParen) (lone mark.CloseParen) x y g h refl refl refl).tree

  pub one_item : (x y : ItemTree) → DerivesItem a x → DerivesItem a y → x ≡ y
  one_item x y g h = (item_one known a a (lone mark.Semicolon) (lone mark.Semicolon) x y g h refl refl refl).tree

  pub one_declaration : (x y : DeclarationTree) → DerivesDeclaration a x → DerivesDeclaration a y → x ≡ y
  one_declaration x y g h = (declaration_one known a a [] [] x y g h refl).tree

  -- of either row of statements
  pub one_statement : (c d : Closing) (x y : Statement) → DerivesStatement c a x → DerivesStatement d a y → x ≡ y
  one_statement c d x y g h = ((statement_one known g).same d a [] [] y h (fits c [] (λ e. cc)) (fits d [] (λ e. cc)) refl).tree

  pub one_choices : (xs ys : Choices) → DerivesChoices a xs → DerivesChoices a ys → xs ≡ ys
  one_choices xs ys g h = ((choices_one known g).same a (lone mark.CloseBrace) (lone mark.CloseBrace) ys h refl refl refl).tree

  pub one_function : (x y : FunctionSyntax) → DerivesFunction a x → DerivesFunction a y → x ≡ y
  one_function x y g h = (function_one known a a [] [] x y g h refl).tree

  pub one_external : (x y : ExternalTree) → DerivesExternal a x → DerivesExternal a y → x ≡ y
  one_external x y g h = (external_one known a a [] [] x y g h refl).tree

  pub one_unit : (xs ys : UnitTree) → DerivesUnit a xs → DerivesUnit a ys → xs ≡ ys
  one_unit xs ys g h = (unit_one known a a [] [] xs ys g h (λ e. cc) (λ e. cc) refl).tree
