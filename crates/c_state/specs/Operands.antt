-- Parts of what operators do, and what an operator answers that looks at no object.
use Rattle.std.specs.Prelude.{◌≡◌, ℕ, ℤ, pos, negsuc, false, nat_lt, if◌then◌else◌, ◌==◌, Option, Some, None, Result, Ok, Err}
use Rattle.c_syntax.specs.declared.operator.BinaryOp.{BinaryOp}
use Rattle.c_tree.specs.Store.{Value, World, Does, Gives}
use Rattle.c_state.specs.declared.value.Value as code
use Rattle.c_state.specs.declared.value.Stop.{Stop}
use Rattle.c_state.specs.Values.{value_of}
use Rattle.c_state.specs.Worlds.{Stops}
use Rattle.c_tree.specs.Eval.{where_living, ordering, equality}

-- an index, where it is from 0 to a length
abbrev pub index_in : ℕ → ℤ → Option ℕ
index_in length (negsuc n) = None
index_in length (pos n) = if nat_lt length n then None else Some n

-- two pointers, both to living objects
abbrev pub of_pointers : BinaryOp → ℕ → ℕ → ℕ → ℕ → ℕ → Does Value
of_pointers o a i b j at = where_living a at (where_living b at (if a == b then ordering o i j at else equality o false at))

-- a pointer to a living object, and the null pointer
abbrev pub beside_null : BinaryOp → ℕ → ℕ → Does Value
beside_null o object at = where_living object at (equality o false at)

-- a value or a stop, of a part of a run that changes nothing
abbrev pub IsAnswer : Does Value → Result code.Value Stop → Type 0
IsAnswer does (Ok v) = (w : World) → does w ≡ Gives (value_of v) w
IsAnswer does (Err s) = (w : World) → Stops (does w) w.outs s
