use Rattle.std.proofs.Common.{◌≡◌, map, take, All}
use Rattle.c_tree.specs.View as typed
use Rattle.tree_code.specs.Lowered.{lowered_function}
use Rattle.c_tree.specs.TypedOfWords.{FunctionHasWords}
use Rattle.tree_code.specs.WordView.{function_code_of}
use Rattle.tree_code.proofs.lowering.functions.Given as goal

abbrev pub invariant-loop-f : goal.invariant-loop-f
invariant-loop-f l = record {
  tree : map function_code_of l.all.items ≡ map lowered_function (map typed.function_of (take l.f-index l.list));
  words : All FunctionHasWords (map typed.function_of (take l.f-index l.list));
}
