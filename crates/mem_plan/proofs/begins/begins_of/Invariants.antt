use Rattle.mem_plan.specs.Search.{HasFollowed}
use Rattle.mem_plan.proofs.begins.begins_of.Given as goal

abbrev pub invariant-loop-place : goal.invariant-loop-place
invariant-loop-place l = HasFollowed l.needs l.place l.search
