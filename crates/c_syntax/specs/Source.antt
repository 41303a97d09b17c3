-- The tree of a source (docs/LANGUAGE.md, "Grammar").
use Rattle.std.specs.Prelude.{◌≡◌, ◌≤◌, ◌+◌, min, ℕ, List, [], ◌∷◌, ◌++◌}
use Rattle.c_syntax.specs.declared.token.Token.{Token}
use Rattle.c_syntax.specs.SyntaxTree.{UnitTree}
use Rattle.c_syntax.specs.Derives.{DerivesUnit}
use Rattle.c_syntax.specs.Measures.{unit_height, greatest_height}

-- the row `unit` derives it, and it isn't too high
pub record IsSource (tokens : List Token) (tree : UnitTree) : Type 0 where
  pub derives : DerivesUnit tokens tree
  pub low : unit_height tree ≤ greatest_height

-- the tokens have none
pub record NoSource (tokens : List Token) : Type 0 where
  pub never : (tree : UnitTree) → IsSource tokens tree → ⊥

-- where a list of tokens ends, in bytes: 0 where there is none. A place is at most the greatest of 32 bits.
abbrev pub end_of : List Token → ℕ
end_of [] = 0
end_of (t ∷ []) = min (t.at + t.len) 4294967295
end_of (t ∷ more) = end_of more

-- a place at which tokens are refused: that of one of them, or their end
pub data IsPlace (tokens : List Token) : ℕ → Type 0 where
  OfToken : (before behind : List Token) (t : Token) → tokens ≡ before ++ t ∷ behind → IsPlace tokens t.at
  OfEnd : IsPlace tokens (end_of tokens)
