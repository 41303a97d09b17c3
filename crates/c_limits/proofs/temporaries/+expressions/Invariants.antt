use Rattle.std.proofs.Common.{◌≡◌, take}
use Rattle.c_tree.specs.View.{argument_list}
use Rattle.c_tree.specs.Temporaries.{argument_temporaries}
use Rattle.c_limits.specs.Capped.{capped}
use Rattle.c_limits.proofs.temporaries.+expressions.Given as goal

abbrev pub invariant-arguments-loop-e : goal.invariant-arguments-loop-e
invariant-arguments-loop-e l = record {
  kept : l.kept ≡ capped l.e-index;
  most : l.most ≡ capped (argument_temporaries (argument_list (take l.e-index l.list)));
}
