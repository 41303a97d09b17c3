use Rattle.std.proofs.Common.{◌≡◌, take}
use Rattle.c_tree.specs.View as typed
use Rattle.tree_code.specs.Lowered.{lowered_list}
use Rattle.c_tree.specs.TypedOfWords.{AllUseWords}
use Rattle.tree_code.specs.WordView.{word_argument_list}
use Rattle.tree_code.proofs.expressions.+expressions.Given as goal

-- the arguments before the place of the loop are lowered, and of words
abbrev pub invariant-arguments-loop-e : goal.invariant-arguments-loop-e
invariant-arguments-loop-e l = record {
  tree : word_argument_list l.all.items ≡ lowered_list (typed.argument_list (take l.e-index l.list));
  words : AllUseWords (typed.argument_list (take l.e-index l.list));
}
