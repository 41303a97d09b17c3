-- What the rows of declarations lead to from the front of the tokens.
use Rattle.std.specs.Prelude.{◌≡◌, ◌≢◌, ◌⊎◌, ◌+◌, ◌++◌, ℕ, List, map, Some, None}
use Rattle.c_syntax.specs.declared.token.Token.{Token}
use Rattle.c_syntax.specs.declared.token.Punct.{Punct}
use Rattle.c_syntax.specs.declared.token.Punct.TheVariants as mark
use Rattle.c_syntax.specs.SyntaxTree.{Expression}
use Rattle.c_syntax.specs.Grammar.{ConditionalRow, IsMark}
use Rattle.c_syntax.specs.Derives.{IsNameToken, IsLastComma, DerivesOptional, DerivesList, DerivesInitial, DerivesArray, DerivesArrayMark, DerivesName, DerivesParameter, DerivesParameterList, DerivesParameters, DerivesForm, DerivesInitialiser, DerivesItem, DerivesItems, DerivesDeclaration}
use Rattle.c_syntax.specs.Measures.{greatest, expression_height, optional_height, array_height, parameter_height, parameters_height, item_form_height, initial_height, item_height, declaration_height}
use Rattle.c_cursor.specs.Front.{mark_at, name_at}
use Rattle.c_expressions.specs.Fronts.{Front, Then, One}

-- what may stand behind an item, and behind a parameter
abbrev pub EndsItem : List Token → Type 0
EndsItem r = (mark_at r ≡ Some mark.Comma) ⊎ (mark_at r ≡ Some mark.Semicolon)

abbrev pub EndsParameter : List Token → Type 0
EndsParameter r = (mark_at r ≡ Some mark.Comma) ⊎ (mark_at r ≡ Some mark.CloseParen)

abbrev pub ItemFront : ℕ → List Token → List Token → Type 0
ItemFront depth = Front DerivesItem EndsItem item_height depth

abbrev pub ItemsFront : ℕ → List Token → List Token → Type 0
ItemsFront depth = Front DerivesItems (λ r. mark_at r ≡ Some mark.Semicolon) (λ xs. greatest (map item_height xs)) depth

-- what stands behind the name of an item: nothing only where no parenthesis and no bracket opens
pub record EndsForm (r : List Token) : Type 0 where
  pub no_paren : mark_at r ≢ Some mark.OpenParen
  pub no_bracket : mark_at r ≢ Some mark.OpenBracket

abbrev pub FormFront : ℕ → List Token → List Token → Type 0
FormFront depth = Front DerivesForm EndsForm item_form_height depth

abbrev pub ArrayFront : ℕ → List Token → List Token → Type 0
ArrayFront depth = Front DerivesArray (λ _. Unit {0}) optional_height depth

abbrev pub LengthFront : ℕ → List Token → List Token → Type 0
LengthFront depth = Front (DerivesOptional ConditionalRow) (λ r. mark_at r ≡ Some mark.CloseBracket) optional_height depth

abbrev pub InitialiserFront : ℕ → List Token → List Token → Type 0
InitialiserFront depth = Front DerivesInitialiser EndsItem initial_height depth

-- what stands behind the `=` of an item
abbrev pub InitialFront : ℕ → List Token → List Token → Type 0
InitialFront depth = Front DerivesInitial EndsItem (λ x. initial_height (Some x)) depth

-- a list of values, and a comma that may stand last
pub record AreValues (tokens : List Token) (trees : List Expression) : Type 0 where
  pub list : List Token
  pub last : List Token
  pub cut : tokens ≡ list ++ last
  pub derives : DerivesList list trees
  pub comma : IsLastComma last

abbrev pub ValuesFront : ℕ → List Token → List Token → Type 0
ValuesFront depth = Front AreValues (λ r. mark_at r ≡ Some mark.CloseBrace) (λ xs. greatest (map expression_height xs)) depth

-- values in braces, with the braces, and between them
abbrev pub BracedFront : ℕ → List Token → List Token → Type 0
BracedFront depth = Then (One (IsMark mark.OpenBrace)) (Then (ValuesFront (depth + 1)) (One (IsMark mark.CloseBrace)))

abbrev pub ParametersFront : ℕ → List Token → List Token → Type 0
ParametersFront depth = Front DerivesParameters (λ r. mark_at r ≡ Some mark.CloseParen) parameters_height depth

abbrev pub ParameterListFront : ℕ → List Token → List Token → Type 0
ParameterListFront depth = Front DerivesParameterList (λ r. mark_at r ≡ Some mark.CloseParen) (λ xs. greatest (map parameter_height xs)) depth

abbrev pub ParameterFront : ℕ → List Token → List Token → Type 0
ParameterFront depth = Front DerivesParameter EndsParameter parameter_height depth

-- a token that is a name
abbrev pub IsAnyName : Token → Type 0
IsAnyName t = (name : List ℕ) × IsNameToken name t

abbrev pub NameFront : List Token → List Token → Type 0
NameFront = Front DerivesName (λ r. name_at r ≡ None) (λ _. 0) 0

abbrev pub ArrayMarkFront : ℕ → List Token → List Token → Type 0
ArrayMarkFront depth = Front DerivesArrayMark (λ r. mark_at r ≢ Some mark.OpenBracket) array_height depth

-- a list goes on with a comma and more of it, or ends
pub data MoreOf (End Many : List Token → List Token → Type 0) (before after : List Token) : Type 0 where
  Ended : End before after → MoreOf End Many before after
  GoesOn : Then (One (IsMark mark.Comma)) Many before after → MoreOf End Many before after

-- nothing, before what may follow
abbrev pub Before : (List Token → Type 0) → List Token → List Token → Type 0
Before After before after = (before ≡ after) × After before

-- a list ends before a mark
abbrev pub EndsAt : Punct → List Token → List Token → Type 0
EndsAt m = Before (λ r. mark_at r ≡ Some m)

abbrev pub MoreItems : ℕ → List Token → List Token → Type 0
MoreItems depth = MoreOf (EndsAt mark.Semicolon) (ItemsFront depth)

abbrev pub MoreParameters : ℕ → List Token → List Token → Type 0
MoreParameters depth = MoreOf (EndsAt mark.CloseParen) (ParameterListFront depth)

-- a list of values may end with a comma
pub record EndsValues (before after : List Token) : Type 0 where
  pub last : List Token
  pub cut : before ≡ last ++ after
  pub comma : IsLastComma last
  pub ends : mark_at after ≡ Some mark.CloseBrace

abbrev pub MoreValues : ℕ → List Token → List Token → Type 0
MoreValues depth = MoreOf EndsValues (ValuesFront depth)

abbrev pub DeclarationFront : ℕ → List Token → List Token → Type 0
DeclarationFront depth = Front DerivesDeclaration (λ _. Unit {0}) declaration_height depth
