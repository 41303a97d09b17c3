use Rattle.std.proofs.Common.{◌+◌, ◌*◌, max, drop}
use Rattle.c_syntax.specs.declared.stmt.StmtKind.{size-StmtKind}
use Rattle.c_types.proofs.StatementsSoFar.{StatementsSoFar}
use Rattle.c_types.proofs.ChoicesSoFar.{ChoicesSoFar}
use Rattle.c_types.proofs.blocks.Body.+statements.Given as goal

-- a statement has the height of its tree as its measure, a form that of its highest part, and a list that of its highest
-- element; what calls another on the same tree stands above it
abbrev pub decreases-statement : goal.decreases-statement
decreases-statement l = 8 * size-StmtKind l.s.now.kind

abbrev pub decreases-inner : goal.decreases-inner
decreases-inner l = 8 * size-StmtKind l.s.now.kind + 1

abbrev pub decreases-choice : goal.decreases-choice
decreases-choice l = 8 * size-StmtKind l.yes.now.kind + 2

abbrev pub decreases-either : goal.decreases-either
decreases-either l = 8 * max (size-StmtKind l.yes.now.kind) (size-StmtKind l.no.now.kind) + 3

abbrev pub decreases-otherwise : goal.decreases-otherwise
decreases-otherwise l = 8 * size-StmtKind l.no.now.kind + 2

abbrev pub decreases-while_loop : goal.decreases-while_loop
decreases-while_loop l = 8 * size-StmtKind l.body.now.kind + 2

abbrev pub decreases-do_loop : goal.decreases-do_loop
decreases-do_loop l = 8 * size-StmtKind l.body.now.kind + 2

abbrev pub decreases-for_loop : goal.decreases-for_loop
decreases-for_loop l = 8 * size-StmtKind l.body.now.kind + 2

abbrev pub decreases-statements : goal.decreases-statements
decreases-statements l = 8 * goal.size-statements l + 2

abbrev pub decreases-block_here : goal.decreases-block_here
decreases-block_here l = 8 * goal.size-block_here l + 3

abbrev pub decreases-block : goal.decreases-block
decreases-block l = 8 * goal.size-block l + 4

abbrev pub decreases-label_or_body : goal.decreases-label_or_body
decreases-label_or_body l = 8 * goal.size-label_or_body l + 2

abbrev pub decreases-choices : goal.decreases-choices
decreases-choices l = 8 * goal.size-choices l + 3

abbrev pub decreases-switch : goal.decreases-switch
decreases-switch l = 8 * goal.size-switch l + 4

-- what the statements so far and those of the rest make together
abbrev pub invariant-statements-loop-s : goal.invariant-statements-loop-s
invariant-statements-loop-s l = StatementsSoFar l.initial.self l.self l.enclosing l.list (drop l.s-index l.list) l.initial.into.items l.into.items

abbrev pub invariant-choices-loop-part : goal.invariant-choices-loop-part
invariant-choices-loop-part l = ChoicesSoFar l.initial.self l.self l.enclosing l.parts (drop l.part-index l.parts) l.labelled.choices.items l.labelled.pointer
