-- Which mark stands at the front of a text.
use Rattle.std.specs.Prelude.{◌≡◌, ℕ, List, ◌++◌, length}
use Rattle.c_syntax.specs.declared.token.Punct.{Punct}
use Rattle.c_syntax.specs.FixedTexts.{mark_text}

-- a mark of so many characters stands before a rest
pub record IsMarkOf (size : ℕ) (text : List ℕ) (mark : Punct) (rest : List ℕ) : Type 0 where
  pub sized : length (mark_text mark) ≡ size
  pub front : text ≡ mark_text mark ++ rest
