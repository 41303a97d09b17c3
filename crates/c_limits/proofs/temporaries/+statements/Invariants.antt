use Rattle.std.proofs.Common.{◌≡◌, take}
use Rattle.c_tree.specs.View.{statement_list, choice_list}
use Rattle.c_tree.specs.Temporaries.{statements_temporaries, choices_temporaries}
use Rattle.c_limits.specs.Capped.{capped}
use Rattle.c_limits.proofs.temporaries.+statements.Given as goal

abbrev pub invariant-statements-loop-s : goal.invariant-statements-loop-s
invariant-statements-loop-s l = l.most ≡ capped (statements_temporaries (statement_list (take l.s-index l.list)))

abbrev pub invariant-choices-loop-part : goal.invariant-choices-loop-part
invariant-choices-loop-part l = l.most ≡ capped (choices_temporaries (choice_list (take l.part-index l.list)))
