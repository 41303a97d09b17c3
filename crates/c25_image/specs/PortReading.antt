-- How the lines of port files are read (docs/FORMATS.md, "Port files").
use Rattle.std.specs.Prelude.{◌≡◌, ◌≢◌, ℕ, List, [], ◌∷◌, ◌++◌, replicate}

-- no space stands at the front
abbrev pub HasNoBlankFirst : List ℕ → Type 0
HasNoBlankFirst [] = Unit {0}
HasNoBlankFirst (code ∷ codes) = code ≢ 32

-- what stands behind the spaces at the front
pub record IsBehindBlanks (bytes rest : List ℕ) : Type 0 where
  pub blanks : ℕ
  pub text : bytes ≡ replicate blanks 32 ++ rest
  pub none : HasNoBlankFirst rest
