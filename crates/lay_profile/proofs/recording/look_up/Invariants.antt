use Rattle.std.proofs.Common.{◌≡◌, ◌++◌, ℕ, drop, map}
use Rattle.c25_isa.specs.State.{State}
use Rattle.lay_profile.specs.Entries.{times_at}
use Rattle.lay_profile.specs.Counting.{AreTimes}
use Rattle.lay_profile.proofs.recording.look_up.Given as goal

abbrev pub invariant-loop-place : goal.invariant-loop-place
invariant-loop-place l = (s : State) (steps : ℕ) → AreTimes s steps l.table
    → l.counts.items ++ map (times_at s steps) (drop l.place-index l.places) ≡ map (times_at s steps) l.places
