-- What each tree of a source is (docs/LANGUAGE.md, "Grammar").
use Rattle.std.specs.Prelude.{All}
use Rattle.word_base.specs.Name.{IsName}
use Rattle.c_syntax.specs.SyntaxTree.{UnitTree}
use Rattle.c_syntax.specs.Counts.{IsWithinLimits}
use Rattle.c_syntax.specs.FunctionNames.{function_names}
use Rattle.c_syntax.specs.Values.{UnitHasValues}
use Rattle.c_syntax.specs.Characters.{UnitSaysWords}

-- it is within the limits, functions have names, braces hold values, and characters are words
pub record IsUnit (tree : UnitTree) : Type 0 where
  pub limits : IsWithinLimits tree
  pub names : All IsName (function_names tree)
  pub values : UnitHasValues tree
  pub words : UnitSaysWords tree
