-- The objects that the names of a function stand for, as the definition of runs has them.
use Rattle.std.specs.Prelude.{ℕ, List, slice_get, Option, Some, None}
use Rattle.c_tree.specs.TypedTree.{FunctionTree}
use Rattle.c_tree.specs.Eval.{Env}
use Rattle.c_state.specs.declared.value.Name.{Name}
use Rattle.c_state.specs.declared.names.Names.{Names}

-- the number of a name, or 0 where nothing stands for an object yet
abbrev pub named_number : Option Name → ℕ
named_number None = 0
named_number (Some name) = name.number

abbrev pub numbers_in : List Name → ℕ → ℕ
numbers_in names n = named_number (slice_get names n)

abbrev pub env_of : FunctionTree → Names → Env
env_of f names = record { function = f; scalar = numbers_in names.scalars.items; local = numbers_in names.locals.items }
