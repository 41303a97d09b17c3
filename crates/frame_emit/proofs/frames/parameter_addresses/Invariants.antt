use Rattle.std.proofs.Common.{◌≡◌, ◌++◌, map, drop}
use Rattle.frame_emit.specs.Frames.{parameter_address}
use Rattle.frame_emit.proofs.frames.parameter_addresses.Given as goal

-- with those that are left they are all
abbrev pub invariant-loop-parameter : goal.invariant-loop-parameter
invariant-loop-parameter l =
    l.all.items ++ map (parameter_address l.lists l.frame) (drop l.parameter-index l.parameters) ≡ map (parameter_address l.lists l.frame) l.parameters
