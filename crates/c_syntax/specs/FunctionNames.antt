-- The names of the functions with bodies of a source, in order.
use Rattle.std.specs.Prelude.{ℕ, List, [], ◌∷◌}
use Rattle.c_syntax.specs.SyntaxTree.{UnitTree, Defined, Declared}

abbrev pub function_names : UnitTree → List (List ℕ)
function_names [] = []
function_names (Defined f ∷ xs) = f.name ∷ function_names xs
function_names (Declared d ∷ xs) = function_names xs
