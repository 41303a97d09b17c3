use Rattle.std.proofs.Common.{arith}
use Rattle.std.proofs.lemmas.List.{nil_from_length}
use Rattle.std.specs.Vec.Iter.{into_iter_items}
use Rattle.c_limits.specs.FunctionView.{frame_lists}
use Rattle.c_types.proofs.ProgramLemmas.{all_functions}
use Rattle.c_types.proofs.program.functions.Goals as goal

pub returns : goal.returns
returns c =
    all_functions (frame_lists (into_iter_items c.loop-f.rest))
    (nil_from_length (into_iter_items c.loop-f.f-iterator) (omega (arith, c.in-None.ensures.steps.0, c.loop-f.f-iterator.rest.ok))) c.loop-f.invariant
