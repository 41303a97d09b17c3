use Rattle.std.proofs.Common.{◌≡◌, take}
use Rattle.tree_code.specs.ByteCount.{in_byte}
use Rattle.tree_code.specs.WordView.{word_argument_list}
use Rattle.tree_code.specs.WordTemporaries.{word_argument_temporaries}
use Rattle.tree_code.proofs.counting.+expressions.Given as goal

abbrev pub invariant-arguments-loop-e : goal.invariant-arguments-loop-e
invariant-arguments-loop-e l = record {
  kept : l.kept ≡ in_byte l.e-index;
  most : l.most ≡ in_byte (word_argument_temporaries (word_argument_list (take l.e-index l.list)));
}
