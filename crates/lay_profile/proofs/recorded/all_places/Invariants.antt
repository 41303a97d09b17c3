use Rattle.std.proofs.Common.{◌≡◌, ◌++◌, drop}
use Rattle.lay_profile.proofs.Recordeds.{places_in}
use Rattle.lay_profile.proofs.recorded.all_places.Given as goal

abbrev pub invariant-loop-function : goal.invariant-loop-function
invariant-loop-function l = l.places.items ++ places_in (drop l.function-index l.functions) ≡ places_in l.functions
