-- The image has the shape of the functions before this one.
use Rattle.std.proofs.Common.{map, take}
use Rattle.acc_code.specs.AccView.{function_items_of}
use Rattle.lay_profile.specs.ShapedFunctions.{AreShaped}
use Rattle.lay_profile.proofs.shapes.all_shaped.Given as goal

abbrev pub invariant-loop-index : goal.invariant-loop-index
invariant-loop-index l = AreShaped l.image (map function_items_of (take l.index l.functions)) l.all.items
