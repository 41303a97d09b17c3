-- What externals and whole sources lead to from the front of the tokens, and what the parts of an external take.
use Rattle.std.specs.Prelude.{◌≡◌, ◌+◌, ◌≤◌, ℕ, List, [], ◌∷◌, ◌++◌, map}
use Rattle.c_syntax.specs.declared.token.Token.{Token}
use Rattle.c_syntax.specs.declared.token.Punct.TheVariants as mark
use Rattle.c_syntax.specs.SyntaxTree.{SpecsTree, ParametersTree, Parameters, UnitTree}
use Rattle.c_syntax.specs.Grammar.{IsMark, AreStars}
use Rattle.c_syntax.specs.Derives.{IsNameToken, DerivesSpecs, DerivesForm, DerivesExternal, DerivesUnit}
use Rattle.c_syntax.specs.Measures.{greatest, parameters_height, external_height, greatest_height}
use Rattle.c_expressions.specs.Fronts.{Front, Then, One}
use Rattle.c_declarations.specs.DeclarationFronts.{FormFront, InitialiserFront, MoreItems}
use Rattle.c_statements.specs.StatementFronts.{BodyFront}

-- an external, under the unit
abbrev pub ExternalFront : List Token → List Token → Type 0
ExternalFront = Front DerivesExternal (λ _. Unit {0}) external_height 1

-- parameters in their parentheses
abbrev pub IsListed : List Token → ParametersTree → Type 0
IsListed tokens tree = DerivesForm tokens (Parameters tree)

abbrev pub ListedFront : ℕ → List Token → List Token → Type 0
ListedFront depth = Front IsListed (λ _. Unit {0}) parameters_height depth

-- what stands behind the first item's form in a declaration, and behind the parameters of a function
abbrev pub DeclarationEnd : List Token → List Token → Type 0
DeclarationEnd = Then (InitialiserFront 3) (Then (MoreItems 2) (One (IsMark mark.Semicolon)))

abbrev pub FunctionEnd : List Token → List Token → Type 0
FunctionEnd = Then (One (IsMark mark.OpenBrace)) (BodyFront 2)

-- what stands behind the type and the name of an external
pub data RestFront (before after : List Token) : Type 0 where
  AsDeclaration : Then (FormFront 3) DeclarationEnd before after → RestFront before after
  AsFunction : Then (ListedFront 2) FunctionEnd before after → RestFront before after

-- one or more externals to the end of the tokens
pub record UnitFront (before after : List Token) : Type 0 where
  pub trees : UnitTree
  pub derives : DerivesUnit before trees
  pub ends : after ≡ []
  pub low : 1 + greatest (map external_height trees) ≤ greatest_height

-- the end, or more of them
pub data MoreUnits (before after : List Token) : Type 0 where
  EndsHere : before ≡ [] → MoreUnits before after
  OneMore : UnitFront before after → MoreUnits before after

-- what stands before the body of a function
pub record IsFunctionHead (specs : SpecsTree) (stars : ℕ) (name : List ℕ) (parameters : ParametersTree) (tokens : List Token) : Type 0 where
  pub a : List Token
  pub b : List Token
  pub n : Token
  pub c : List Token
  pub cut : tokens ≡ a ++ b ++ n ∷ c
  pub are_specs : DerivesSpecs a specs
  pub are_stars : AreStars b stars
  pub is_name : IsNameToken name n
  pub listed : IsListed c parameters
