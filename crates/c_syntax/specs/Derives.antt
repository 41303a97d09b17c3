-- Which trees tokens have by the rows of declarations, statements and the unit: ISO 9899:1990 6.5 to 6.7, of which
-- docs/LANGUAGE.md, "Grammar", has the part that is read.
use Rattle.std.specs.Prelude.{◌≡◌, ◌⊎◌, ℕ, List, [], ◌∷◌, ◌++◌, Option, Some, None}
use Rattle.c_syntax.specs.declared.token.Token.{Token}
use Rattle.c_syntax.specs.declared.token.TokenKind.TheVariants as token
use Rattle.c_syntax.specs.declared.token.Keyword.TheVariants as keyword
use Rattle.c_syntax.specs.declared.token.Punct.TheVariants as mark
use Rattle.c_syntax.specs.SyntaxTree.{SpecsTree, Expression, ArrayMark, ParameterTree, ParametersTree, ItemForm, Plain, Parameters, Array, InitialTree, One, Braced, ItemTree, DeclarationTree, Statement, Empty, Evaluate, Block, Break, Continue, Return, DoWhile, If, IfElse, While, For, Switch, Statements, no_statement, statement, Choices, no_choice, case_label, default_label, chosen, FunctionSyntax, ExternalTree, Defined, Declared, UnitTree}
use Rattle.c_syntax.specs.Grammar.{Row, ExpressionRow, AssignmentRow, ConditionalRow, IsMark, IsKeyword, place_of, AreSpecs, AreStars, Derives}

-- a name
abbrev pub IsNameToken : List ℕ → Token → Type 0
IsNameToken name t = t.kind ≡ token.Name name

-- the row `specs` with its place
pub record DerivesSpecs (tokens : List Token) (tree : SpecsTree) : Type 0 where
  pub words : AreSpecs tokens tree.words
  pub place : tree.at ≡ place_of tokens

-- tokens that may be absent, with the tree of the row where they are there
abbrev pub DerivesOptional : Row → List Token → Option Expression → Type 0
DerivesOptional row tokens None = tokens ≡ []
DerivesOptional row tokens (Some tree) = Derives row tokens tree

-- one or more assignments with commas between them
pub data DerivesList : List Token → List Expression → Type 0 where
  LastOfList : {tokens : List Token} {tree : Expression} → Derives AssignmentRow tokens tree → DerivesList tokens (tree ∷ [])
  MoreOfList : {tokens : List Token} (a b : List Token) (t : Token) {tree : Expression} {trees : List Expression} → tokens ≡ a ++ t ∷ b
      → Derives AssignmentRow a tree → IsMark mark.Comma t → DerivesList b trees → DerivesList tokens (tree ∷ trees)

-- nothing, or a comma
abbrev pub IsLastComma : List Token → Type 0
IsLastComma tokens = (tokens ≡ []) ⊎ ((t : Token) × (tokens ≡ t ∷ []) × IsMark mark.Comma t)

-- the row `init`
pub data DerivesInitial : List Token → InitialTree → Type 0 where
  OneRule : {tokens : List Token} {tree : Expression} → Derives AssignmentRow tokens tree → DerivesInitial tokens (One tree)
  BracedRule : {tokens : List Token} (a b : List Token) (t u : Token) {trees : List Expression} → tokens ≡ t ∷ a ++ b ++ u ∷ []
      → IsMark mark.OpenBrace t → DerivesList a trees → IsLastComma b → IsMark mark.CloseBrace u → DerivesInitial tokens (Braced trees t.at)

-- a length in brackets, where one is written
pub data DerivesArray : List Token → Option Expression → Type 0 where
  ArrayRule : {tokens : List Token} (a : List Token) (t u : Token) {length : Option Expression} → tokens ≡ t ∷ a ++ u ∷ []
      → IsMark mark.OpenBracket t → DerivesOptional ConditionalRow a length → IsMark mark.CloseBracket u → DerivesArray tokens length

abbrev pub DerivesArrayMark : List Token → ArrayMark → Type 0
DerivesArrayMark tokens None = tokens ≡ []
DerivesArrayMark tokens (Some length) = DerivesArray tokens length

-- a name, where there is one
abbrev pub DerivesName : List Token → Option (List ℕ) → Type 0
DerivesName tokens None = tokens ≡ []
DerivesName tokens (Some name) = (t : Token) × (tokens ≡ t ∷ []) × IsNameToken name t

-- the row `param`, which isn't the one word `void`
pub record DerivesParameter (tokens : List Token) (tree : ParameterTree) : Type 0 where
  pub a : List Token
  pub b : List Token
  pub c : List Token
  pub d : List Token
  pub cut : tokens ≡ a ++ b ++ c ++ d
  pub specs : DerivesSpecs a tree.specs
  pub stars : AreStars b tree.stars
  pub name : DerivesName c tree.name
  pub array : DerivesArrayMark d tree.array
  pub not_void : (t : Token) → tokens ≡ t ∷ [] → IsKeyword keyword.Void t → ⊥
  pub place : tree.at ≡ place_of tokens

-- one or more of them with commas between them
pub data DerivesParameterList : List Token → List ParameterTree → Type 0 where
  LastParameter : {tokens : List Token} {tree : ParameterTree} → DerivesParameter tokens tree → DerivesParameterList tokens (tree ∷ [])
  MoreParameters : {tokens : List Token} (a b : List Token) (t : Token) {tree : ParameterTree} {trees : List ParameterTree} → tokens ≡ a ++ t ∷ b
      → DerivesParameter a tree → IsMark mark.Comma t → DerivesParameterList b trees → DerivesParameterList tokens (tree ∷ trees)

-- the row `params`
pub data DerivesParameters : List Token → ParametersTree → Type 0 where
  VoidRule : {t : Token} → IsKeyword keyword.Void t → DerivesParameters (t ∷ []) (record { list = []; at = t.at })
  ParametersRule : {tokens : List Token} {trees : List ParameterTree} → DerivesParameterList tokens trees → DerivesParameters tokens (record { list = trees; at = place_of tokens })

-- what stands behind the name of an item
pub data DerivesForm : List Token → ItemForm → Type 0 where
  PlainRule : DerivesForm [] Plain
  FunctionRule : {tokens : List Token} (a : List Token) (t u : Token) {tree : ParametersTree} → tokens ≡ t ∷ a ++ u ∷ []
      → IsMark mark.OpenParen t → DerivesParameters a tree → IsMark mark.CloseParen u → DerivesForm tokens (Parameters tree)
  ArrayFormRule : {tokens : List Token} {length : Option Expression} → DerivesArray tokens length → DerivesForm tokens (Array length)

-- = and the initialiser, where there is one
abbrev pub DerivesInitialiser : List Token → Option InitialTree → Type 0
DerivesInitialiser tokens None = tokens ≡ []
DerivesInitialiser tokens (Some tree) = (t : Token) × (a : List Token) × (tokens ≡ t ∷ a) × IsMark mark.Assign t × DerivesInitial a tree

-- the row `item`
pub record DerivesItem (tokens : List Token) (tree : ItemTree) : Type 0 where
  pub a : List Token
  pub t : Token
  pub b : List Token
  pub c : List Token
  pub cut : tokens ≡ a ++ t ∷ b ++ c
  pub stars : AreStars a tree.stars
  pub name : IsNameToken tree.name t
  pub form : DerivesForm b tree.form
  pub initial : DerivesInitialiser c tree.initial
  pub place : tree.at ≡ place_of tokens

-- one or more of them with commas between them
pub data DerivesItems : List Token → List ItemTree → Type 0 where
  LastItem : {tokens : List Token} {tree : ItemTree} → DerivesItem tokens tree → DerivesItems tokens (tree ∷ [])
  MoreItems : {tokens : List Token} (a b : List Token) (t : Token) {tree : ItemTree} {trees : List ItemTree} → tokens ≡ a ++ t ∷ b
      → DerivesItem a tree → IsMark mark.Comma t → DerivesItems b trees → DerivesItems tokens (tree ∷ trees)

-- the row `declaration`
pub record DerivesDeclaration (tokens : List Token) (tree : DeclarationTree) : Type 0 where
  pub a : List Token
  pub b : List Token
  pub t : Token
  pub cut : tokens ≡ a ++ b ++ t ∷ []
  pub specs : DerivesSpecs a tree.specs
  pub items : DerivesItems b tree.items
  pub ends : IsMark mark.Semicolon t
  pub place : tree.at ≡ place_of tokens

pub data DerivesDeclarations : List Token → List DeclarationTree → Type 0 where
  NoDeclaration : DerivesDeclarations [] []
  MoreDeclarations : {tokens : List Token} (a b : List Token) {tree : DeclarationTree} {trees : List DeclarationTree} → tokens ≡ a ++ b
      → DerivesDeclaration a tree → DerivesDeclarations b trees → DerivesDeclarations tokens (tree ∷ trees)

-- the rows of statements: closed ones end in no `if` that may yet take an `else`
pub data Closing : Type 0 where
  Closed : Closing
  Open : Closing

-- `keyword ( expression )`
pub record IsTested (keyword_tokens tokens : List Token) (tree : Expression) : Type 0 where
  pub t : Token
  pub a : List Token
  pub u : Token
  pub cut : tokens ≡ keyword_tokens ++ t ∷ a ++ u ∷ []
  pub opens : IsMark mark.OpenParen t
  pub test : Derives ExpressionRow a tree
  pub closes : IsMark mark.CloseParen u

-- `for ( [expression] ; [expression] ; [expression] )`
pub record IsForHead (tokens : List Token) (first test third : Option Expression) : Type 0 where
  pub k : Token
  pub t : Token
  pub a : List Token
  pub u : Token
  pub b : List Token
  pub v : Token
  pub c : List Token
  pub w : Token
  pub cut : tokens ≡ k ∷ t ∷ a ++ u ∷ b ++ v ∷ c ++ w ∷ []
  pub for : IsKeyword keyword.For k
  pub opens : IsMark mark.OpenParen t
  pub first_part : DerivesOptional ExpressionRow a first
  pub first_ends : IsMark mark.Semicolon u
  pub test_part : DerivesOptional ExpressionRow b test
  pub test_ends : IsMark mark.Semicolon v
  pub third_part : DerivesOptional ExpressionRow c third
  pub closes : IsMark mark.CloseParen w

mutual
  -- the rows `closed` and `open`
  pub data DerivesStatement : Closing → List Token → Statement → Type 0 where
    EmptyRule : {t : Token} → IsMark mark.Semicolon t → DerivesStatement Closed (t ∷ []) (Empty t.at)
    EvaluateRule : {tokens : List Token} (a : List Token) (t : Token) {tree : Expression} → tokens ≡ a ++ t ∷ []
        → Derives ExpressionRow a tree → IsMark mark.Semicolon t → DerivesStatement Closed tokens (Evaluate tree (place_of tokens))
    BlockRule : {tokens : List Token} (a b : List Token) (t u : Token) {declarations : List DeclarationTree} {statements : Statements} → tokens ≡ t ∷ a ++ b ++ u ∷ []
        → IsMark mark.OpenBrace t → DerivesDeclarations a declarations → DerivesStatements b statements → IsMark mark.CloseBrace u → DerivesStatement Closed tokens (Block declarations statements t.at)
    BreakRule : {t u : Token} → IsKeyword keyword.Break t → IsMark mark.Semicolon u → DerivesStatement Closed (t ∷ u ∷ []) (Break t.at)
    ContinueRule : {t u : Token} → IsKeyword keyword.Continue t → IsMark mark.Semicolon u → DerivesStatement Closed (t ∷ u ∷ []) (Continue t.at)
    ReturnRule : {tokens : List Token} (a : List Token) (t u : Token) {value : Option Expression} → tokens ≡ t ∷ a ++ u ∷ []
        → IsKeyword keyword.Return t → DerivesOptional ExpressionRow a value → IsMark mark.Semicolon u → DerivesStatement Closed tokens (Return value t.at)
    DoRule : {tokens : List Token} (closing : Closing) (a b : List Token) (t u v : Token) {body : Statement} {test : Expression} → tokens ≡ t ∷ a ++ b ++ v ∷ []
        → IsKeyword keyword.Do t → DerivesStatement closing a body → IsKeyword keyword.While u → IsTested (u ∷ []) b test → IsMark mark.Semicolon v → DerivesStatement Closed tokens (DoWhile body test t.at)
    -- `if` with and without `else`; what stands between `if` and `else` is closed
    IfRule : {tokens : List Token} (closing : Closing) (a b : List Token) (t : Token) {test : Expression} {yes : Statement} → tokens ≡ a ++ b
        → IsKeyword keyword.If t → IsTested (t ∷ []) a test → DerivesStatement closing b yes → DerivesStatement Open tokens (If test yes t.at)
    IfElseRule : {tokens : List Token} {closing : Closing} (a b c : List Token) (t u : Token) {test : Expression} {yes no : Statement} → tokens ≡ a ++ b ++ u ∷ c
        → IsKeyword keyword.If t → IsTested (t ∷ []) a test → DerivesStatement Closed b yes → IsKeyword keyword.Else u → DerivesStatement closing c no → DerivesStatement closing tokens (IfElse test yes no t.at)
    -- loops are closed or open as their bodies
    WhileRule : {tokens : List Token} {closing : Closing} (a b : List Token) (t : Token) {test : Expression} {body : Statement} → tokens ≡ a ++ b
        → IsKeyword keyword.While t → IsTested (t ∷ []) a test → DerivesStatement closing b body → DerivesStatement closing tokens (While test body t.at)
    ForRule : {tokens : List Token} {closing : Closing} (a b : List Token) {first test third : Option Expression} {body : Statement} → tokens ≡ a ++ b
        → IsForHead a first test third → DerivesStatement closing b body → DerivesStatement closing tokens (For first test third body (place_of tokens))
    SwitchRule : {tokens : List Token} (a b : List Token) (t u v : Token) {value : Expression} {choices : Choices} → tokens ≡ a ++ u ∷ b ++ v ∷ []
        → IsKeyword keyword.Switch t → IsTested (t ∷ []) a value → IsMark mark.OpenBrace u → DerivesChoices b choices → IsMark mark.CloseBrace v → DerivesStatement Closed tokens (Switch value choices u.at t.at)

  -- statements of either row, one behind another
  pub data DerivesStatements : List Token → Statements → Type 0 where
    NoStatement : DerivesStatements [] no_statement
    MoreStatements : {tokens : List Token} (closing : Closing) (a b : List Token) {tree : Statement} {trees : Statements} → tokens ≡ a ++ b
        → DerivesStatement closing a tree → DerivesStatements b trees → DerivesStatements tokens (statement tree trees)

  -- what stands between the braces of a switch
  pub data DerivesChoices : List Token → Choices → Type 0 where
    NoChoice : DerivesChoices [] no_choice
    CaseRule : {tokens : List Token} (a b : List Token) (t u : Token) {value : Expression} {choices : Choices} → tokens ≡ t ∷ a ++ u ∷ b
        → IsKeyword keyword.Case t → Derives ConditionalRow a value → IsMark mark.Colon u → DerivesChoices b choices → DerivesChoices tokens (case_label value choices)
    DefaultRule : {tokens : List Token} (a : List Token) (t u : Token) {choices : Choices} → tokens ≡ t ∷ u ∷ a
        → IsKeyword keyword.Default t → IsMark mark.Colon u → DerivesChoices a choices → DerivesChoices tokens (default_label choices)
    ChosenRule : {tokens : List Token} (closing : Closing) (a b : List Token) {tree : Statement} {choices : Choices} → tokens ≡ a ++ b
        → DerivesStatement closing a tree → DerivesChoices b choices → DerivesChoices tokens (chosen tree choices)

-- the row `function`
pub record DerivesFunction (tokens : List Token) (tree : FunctionSyntax) : Type 0 where
  pub a : List Token
  pub b : List Token
  pub n : Token
  pub t : Token
  pub c : List Token
  pub u : Token
  pub d : List Token
  pub cut : tokens ≡ a ++ b ++ n ∷ t ∷ c ++ u ∷ d
  pub specs : DerivesSpecs a tree.specs
  pub stars : AreStars b tree.stars
  pub name : IsNameToken tree.name n
  pub opens : IsMark mark.OpenParen t
  pub parameters : DerivesParameters c tree.parameters
  pub closes : IsMark mark.CloseParen u
  pub body : DerivesStatement Closed d (Block tree.declarations tree.statements tree.body_at)
  pub place : tree.at ≡ place_of tokens

-- the row `external`
abbrev pub DerivesExternal : List Token → ExternalTree → Type 0
DerivesExternal tokens (Defined tree) = DerivesFunction tokens tree
DerivesExternal tokens (Declared tree) = DerivesDeclaration tokens tree

-- the row `unit`: one or more externals
pub data DerivesUnit : List Token → UnitTree → Type 0 where
  LastExternal : {tokens : List Token} {tree : ExternalTree} → DerivesExternal tokens tree → DerivesUnit tokens (tree ∷ [])
  MoreExternals : {tokens : List Token} (a b : List Token) {tree : ExternalTree} {trees : UnitTree} → tokens ≡ a ++ b
      → DerivesExternal a tree → DerivesUnit b trees → DerivesUnit tokens (tree ∷ trees)
