-- The best one behind the ends so far.
use Rattle.std.proofs.Common.{◌≡◌, fold, take}
use Rattle.lay_search.specs.Rounds.{offered}
use Rattle.lay_search.proofs.rounds.Best.take.Given as goal

abbrev pub invariant-loop-end : goal.invariant-loop-end
invariant-loop-end l = l.self ≡ fold offered l.fn.self (take l.end-index l.ends)
