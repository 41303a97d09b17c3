-- One turn of a loop: how it leaves the loop, or nothing where the loop goes on.
use Rattle.std.specs.Prelude.{Bool, Option, Some, None}
use Rattle.c_tree.specs.Store.{Does, ◌>>=◌, give}
use Rattle.c_tree.specs.Eval.{choose}
use Rattle.c_tree.specs.Exec.{Flow, Next, Broke, Continued, Returned}

-- how the loop is left whose body was left so
abbrev pub left_by : Flow → Option Flow
left_by Next = None
left_by Continued = None
left_by Broke = Some Next
left_by (Returned v) = Some (Returned v)

-- the rest of a turn, unless the loop is left
abbrev pub unless_left : Option Flow → Does (Option Flow) → Does (Option Flow)
unless_left None rest = rest
unless_left (Some flow) rest = give (Some flow)

-- a turn behind its test
abbrev pub turn : Does Bool → Does Flow → Does (Unit {0}) → Does (Option Flow)
turn test each third = test >>= λ t. choose t (each >>= λ flow. unless_left (left_by flow) (third >>= λ _. give None)) (give (Some Next))

-- a turn before its test
abbrev pub turn_first : Does Flow → Does Bool → Does (Option Flow)
turn_first each test = each >>= λ flow. unless_left (left_by flow) (test >>= λ t. choose t (give None) (give (Some Next)))
