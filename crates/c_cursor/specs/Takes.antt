-- What a part of the parser does with the tokens: some are taken from the front, and have a tree by a row of the grammar.
use Rattle.std.specs.Prelude.{◌≡◌, Bool, true, false, List, [], ◌∷◌, ◌++◌}
use Rattle.c_syntax.specs.declared.token.Token.{Token}
use Rattle.c_syntax.specs.declared.token.Punct.TheVariants as mark
use Rattle.c_syntax.specs.Grammar.{IsMark}
use Rattle.c_syntax.specs.Derives.{IsLastComma}

-- tokens of a row were taken from the front
pub record Takes (Row : List Token → Type 0) (before after : List Token) : Type 0 where
  pub taken : List Token
  pub cut : before ≡ taken ++ after
  pub is : Row taken

-- one token
pub record IsOne (P : Token → Type 0) (tokens : List Token) : Type 0 where
  pub t : Token
  pub alone : tokens ≡ t ∷ []
  pub is : P t

-- tokens of one row, and those of another behind them
pub record Both (R S : List Token → Type 0) (tokens : List Token) : Type 0 where
  pub front : List Token
  pub rest : List Token
  pub cut : tokens ≡ front ++ rest
  pub first : R front
  pub second : S rest

-- with any tokens of a row in front of them they are tokens of another
abbrev pub Behind : (R S : List Token → Type 0) → List Token → Type 0
Behind R S taken = (front : List Token) → R front → S (front ++ taken)

-- a comma was taken before a value, or none, or the last one
abbrev pub ListGoesOn : Bool → List Token → List Token → Type 0
ListGoesOn true before after = Takes (IsOne (IsMark mark.Comma)) before after
ListGoesOn false before after = Takes IsLastComma before after
