-- What the parts of declarations take.
use Rattle.std.specs.Prelude.{◌≡◌, ℕ, List, ◌∷◌, ◌++◌}
use Rattle.c_syntax.specs.declared.token.Token.{Token}
use Rattle.c_syntax.specs.SyntaxTree.{ItemForm}
use Rattle.c_syntax.specs.Grammar.{AreStars, place_of}
use Rattle.c_syntax.specs.Derives.{IsNameToken, DerivesForm}

-- the front of an item: its stars, its name and what stands behind it
pub record IsItemFront (stars : ℕ) (name : List ℕ) (form : ItemForm) (at : ℕ) (tokens : List Token) : Type 0 where
  pub a : List Token
  pub t : Token
  pub b : List Token
  pub cut : tokens ≡ a ++ t ∷ b
  pub are_stars : AreStars a stars
  pub is_name : IsNameToken name t
  pub is_form : DerivesForm b form
  pub place : at ≡ place_of tokens
