-- What may stand at the front of the tokens that are left, and when nothing of a row does.
use Rattle.std.specs.Prelude.{◌≡◌, ◌≢◌, ◌+◌, ◌≤◌, ℕ, List, ◌∷◌, ◌++◌, Some, None}
use Rattle.c_syntax.specs.declared.token.Token.{Token}
use Rattle.c_syntax.specs.declared.token.Punct.TheVariants as mark
use Rattle.c_syntax.specs.Grammar.{Row, Derives, AreStars}
use Rattle.c_syntax.specs.Derives.{DerivesSpecs}
use Rattle.c_syntax.specs.Lookahead.{Ends, spec_of}
use Rattle.c_syntax.specs.Measures.{expression_height, greatest_height}
use Rattle.c_cursor.specs.Front.{mark_at}

-- tokens of a row are at the front, with a tree that may stand under so many nodes, before what may follow them
pub record Front {X : Type 0} (Row : List Token → X → Type 0) (After : List Token → Type 0) (height : X → ℕ) (depth : ℕ) (before after : List Token) : Type 0 where
  pub taken : List Token
  pub tree : X
  pub cut : before ≡ taken ++ after
  pub derives : Row taken tree
  pub follows : After after
  pub low : depth + height tree ≤ greatest_height

-- no way of a row leads on from there
pub record NoFront (R : List Token → List Token → Type 0) (before : List Token) : Type 0 where
  pub never : (after : List Token) → R before after → ⊥

-- each leads to one end
pub record OnlyTo (R : List Token → List Token → Type 0) (before end : List Token) : Type 0 where
  pub same : (after : List Token) → R before after → after ≡ end

-- one way behind another
pub record Then (R S : List Token → List Token → Type 0) (before after : List Token) : Type 0 where
  pub middle : List Token
  pub first : R before middle
  pub second : S middle after

-- the ways of the rows
abbrev pub ExpressionFront : Row → ℕ → List Token → List Token → Type 0
ExpressionFront row depth = Front (Derives row) (Ends row) expression_height depth

abbrev pub SpecsFront : List Token → List Token → Type 0
SpecsFront = Front DerivesSpecs (λ r. spec_of r ≡ None) (λ _. 0) 0

abbrev pub StarsFront : List Token → List Token → Type 0
StarsFront = Front AreStars (λ r. mark_at r ≢ Some mark.Star) (λ _. 0) 0

-- one token
pub record One (P : Token → Type 0) (before after : List Token) : Type 0 where
  pub t : Token
  pub cut : before ≡ t ∷ after
  pub is : P t
