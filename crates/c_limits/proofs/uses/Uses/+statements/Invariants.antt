use Rattle.std.proofs.Common.{◌≡◌, ◌++◌, take}
use Rattle.c_tree.specs.View.{statement_list, choice_list}
use Rattle.c_tree.specs.Uses as uses
use Rattle.c_limits.proofs.uses.Uses.+statements.Given as goal

abbrev pub invariant-statements-loop-s : goal.invariant-statements-loop-s
invariant-statements-loop-s l = l.self.list.items ≡ l.initial.self.list.items ++ uses.statements_uses (statement_list (take l.s-index l.list))

abbrev pub invariant-choices-loop-choice : goal.invariant-choices-loop-choice
invariant-choices-loop-choice l = l.self.list.items ≡ l.initial.self.list.items ++ uses.choices_uses (choice_list (take l.choice-index l.list))
