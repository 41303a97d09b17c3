-- The calls that a shelf or a sink in memory keeps, and those that are still to fail.
use Rattle.std.specs.Prelude.{ℕ, Bool, true, false, List, [], ◌∷◌, map, nat_lt, if◌then◌else◌}
use Rattle.cc_shelf.specs.Stock.{Call}
use Rattle.cc_memory.specs.declared.mem_shelf.MemCall.{MemCall}

-- these as every shelf tells them
abbrev pub calls_of : List MemCall → List Call
calls_of calls = map (λ c. record { name = c.name; failed = c.failed }) calls

-- each of these numbers is below the number of the call that comes next
abbrev pub are_past : List ℕ → ℕ → Bool
are_past [] next = true
are_past (n ∷ ns) next = if nat_lt n next then are_past ns next else false
