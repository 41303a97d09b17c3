-- The functions before this one have the same names.
use Rattle.std.proofs.Common.{◌≡◌, map, take}
use Rattle.lay_profile.proofs.shapes.has_names.Given as goal

abbrev pub invariant-loop-index : goal.invariant-loop-index
invariant-loop-index l = map (λ f. f.name) (take l.index l.image.functions) ≡ map (λ f. f.name) (take l.index l.functions)
