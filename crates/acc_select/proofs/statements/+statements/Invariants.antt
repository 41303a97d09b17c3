use Rattle.std.proofs.Common.{◌≡◌, ◌+◌, ◌*◌, max, map, drop}
use Rattle.c_tree.specs.View.{object_of}
use Rattle.tree_code.specs.declared.word_statement.WordStmt.{size-WordStmt}
use Rattle.tree_code.specs.WordView.{word_statement_list, word_choice_list}
use Rattle.acc_code.specs.AccTree.{◌⧺◌}
use Rattle.acc_code.specs.AccView.{item_list}
use Rattle.acc_select.specs.Selected.{statements_items, choices_items}
use Rattle.acc_select.proofs.statements.+statements.Given as goal

-- a statement has the height of its tree as its measure, a form that of its highest part, and a list that of its highest
-- element; what calls another on the same tree stands above it
abbrev pub decreases-statement : goal.decreases-statement
decreases-statement l = 16 * ((size-WordStmt l.s.now)) + 0

abbrev pub decreases-statements : goal.decreases-statements
decreases-statements l = 16 * (goal.size-statements l) + 1

abbrev pub decreases-list_of : goal.decreases-list_of
decreases-list_of l = 16 * ((size-WordStmt l.s.now)) + 1

abbrev pub decreases-part : goal.decreases-part
decreases-part l = 16 * ((size-WordStmt l.s.now)) + 3

abbrev pub decreases-long_part : goal.decreases-long_part
decreases-long_part l = 16 * ((size-WordStmt l.s.now)) + 2

abbrev pub decreases-block_part : goal.decreases-block_part
decreases-block_part l = 16 * (goal.size-block_part l) + 4

abbrev pub decreases-list_part : goal.decreases-list_part
decreases-list_part l = 16 * (goal.size-list_part l) + 2

abbrev pub decreases-either : goal.decreases-either
decreases-either l = 16 * (max (size-WordStmt l.yes.now) (size-WordStmt l.no.now)) + 4

abbrev pub decreases-while_loop : goal.decreases-while_loop
decreases-while_loop l = 16 * ((size-WordStmt l.body.now)) + 2

abbrev pub decreases-do_loop : goal.decreases-do_loop
decreases-do_loop l = 16 * ((size-WordStmt l.body.now)) + 2

abbrev pub decreases-for_loop : goal.decreases-for_loop
decreases-for_loop l = 16 * ((size-WordStmt l.body.now)) + 2

abbrev pub decreases-switch : goal.decreases-switch
decreases-switch l = 16 * (goal.size-switch l) + 3

abbrev pub decreases-choices : goal.decreases-choices
decreases-choices l = 16 * (goal.size-choices l) + 2

abbrev pub decreases-choice : goal.decreases-choice
decreases-choice l = 16 * (goal.size-choice l) + 1

-- the statements from the place of the loop on are still to come
abbrev pub invariant-statements-loop-s : goal.invariant-statements-loop-s
invariant-statements-loop-s l =
    item_list l.code.items ⧺ statements_items (map object_of l.locals) l.t (word_statement_list (drop l.s-index l.list))
    ≡ item_list l.initial.code.items ⧺ statements_items (map object_of l.locals) l.t (word_statement_list l.list)

abbrev pub invariant-choices-loop-c : goal.invariant-choices-loop-c
invariant-choices-loop-c l =
    item_list l.body.items ⧺ choices_items (map object_of l.locals) l.t (word_choice_list (drop l.c-index l.list)) l.label
    ≡ choices_items (map object_of l.locals) l.t (word_choice_list l.list) 0
