use Rattle.std.proofs.Common.{◌≡◌, ℕ, List, drop}
use Rattle.c_units.specs.Statics as names
use Rattle.c_units.specs.Views.{AreNames}
use Rattle.c_units.proofs.reserved.reserved_at.Given as goal

-- no token so far is reserved
abbrev pub invariant-loop-token : goal.invariant-loop-token
invariant-loop-token l = (list : List (List ℕ)) → AreNames l.statics list → names.reserved_at list (drop l.token-index l.tokens) ≡ names.reserved_at list l.tokens
