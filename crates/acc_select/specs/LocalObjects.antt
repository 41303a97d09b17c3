-- The local objects of a function, as the code that fills them wants them.
use Rattle.std.specs.Prelude.{◌≤◌, List, length, All}
use Rattle.c_tree.specs.declared.limits.TheConstants.{MOST_CELLS}
use Rattle.c_tree.specs.declared.program.Object.{Object}

-- no list has more cells than an object may have
abbrev pub HaveFewCells : List Object → Type 0
HaveFewCells objects = All (λ o. length o.initial ≤ MOST_CELLS) objects
