-- Externals with and without an `extern` in front of them, by the grammar (docs/LANGUAGE.md, "Programs of several files").
use Rattle.std.specs.Prelude.{ℕ, List, [], ◌∷◌, ◌++◌}
use Rattle.c_tree.specs.c_syntax.declared.token.Token.{Token}
use Rattle.c_tree.specs.c_syntax.declared.token.Keyword.TheVariants as keyword
use Rattle.c_tree.specs.c_syntax.Grammar.{IsKeyword, place_of}
use Rattle.c_tree.specs.c_syntax.SyntaxTree.{ExternalTree}
use Rattle.c_tree.specs.c_syntax.Derives.{DerivesExternal}

-- tokens are externals, some with an `extern` in front, which leaves these tokens without them and makes these the places of the
-- externals behind one
pub data Prefixed : List Token → List Token → List ℕ → Type 0 where
  NoExternal : Prefixed [] [] []
  Bare : (e : List Token) (tree : ExternalTree) {all left : List Token} {places : List ℕ} → DerivesExternal e tree
      → Prefixed all left places → Prefixed (e ++ all) (e ++ left) places
  AfterExtern : (x : Token) (e : List Token) (tree : ExternalTree) {all left : List Token} {places : List ℕ} → IsKeyword keyword.Extern x
      → DerivesExternal e tree → Prefixed all left places → Prefixed (x ∷ e ++ all) (e ++ left) (place_of e ∷ places)
