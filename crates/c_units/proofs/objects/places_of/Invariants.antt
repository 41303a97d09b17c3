use Rattle.std.proofs.Common.{◌≡◌, ◌||◌, ℕ, drop, nat_eq}
use Rattle.std.specs.HashSet.{contains}
use Rattle.c_units.specs.Objects.{is_place_among}
use Rattle.c_units.proofs.objects.places_of.Given as goal

-- the places so far and those that are left
abbrev pub invariant-loop-place : goal.invariant-loop-place
invariant-loop-place l = (place : ℕ) → (contains nat_eq l.found place || is_place_among place (drop l.place-index l.places)) ≡ is_place_among place l.places
