use Rattle.std.proofs.Common.{◌≡◌, ◌+◌, ◌-◌, ◌*◌, ◌++◌, drop, map}
use Rattle.c_tree.specs.Eval as eval
use Rattle.c_tree.specs.Exec as exec
use Rattle.c_tree.specs.Store.{after, give}
use Rattle.c_tree.specs.View.{argument_list, choice_list, expr_of, lvalue_of, option_expr_of, statement_list, stmt_of}
use Rattle.c_means.specs.Frames.{calls_of, env_in}
use Rattle.c_state.specs.Values.{value_of}
use Rattle.c_state.specs.Worlds.{world_of}
use Rattle.c_means.proofs.Sizes.{below, nodes, target_nodes, argument_nodes, option_nodes, statement_nodes, body_nodes, choice_nodes}
use Rattle.c_means.proofs.+run.Given as goal

abbrev pub decreases-expressions::arguments : goal.decreases-expressions::arguments
decreases-expressions::arguments l = below l.run.now + (16 * (argument_nodes (argument_list l.list.now)) + 6)

abbrev pub decreases-expressions::assign : goal.decreases-expressions::assign
decreases-expressions::assign l = below l.run.now + (16 * (target_nodes (lvalue_of l.to.now.form l.to.now.at) + nodes (expr_of l.value.now)) + 7)

abbrev pub decreases-expressions::assign_by : goal.decreases-expressions::assign_by
decreases-expressions::assign_by l = below l.run.now + (16 * (target_nodes (lvalue_of l.to.now.form l.to.now.at) + nodes (expr_of l.value.now)) + 7)

abbrev pub decreases-expressions::assign_named : goal.decreases-expressions::assign_named
decreases-expressions::assign_named l = below l.run.now + (16 * (nodes (expr_of l.value.now)) + 6)

abbrev pub decreases-expressions::assign_through : goal.decreases-expressions::assign_through
decreases-expressions::assign_through l = below l.run.now + (16 * (nodes (expr_of l.pointer.now) + nodes (expr_of l.value.now)) + 6)

abbrev pub decreases-expressions::behind : goal.decreases-expressions::behind
decreases-expressions::behind l = below l.run.now + (16 * (nodes (expr_of l.left.now) + nodes (expr_of l.right.now)) + 7)

abbrev pub decreases-expressions::binary : goal.decreases-expressions::binary
decreases-expressions::binary l = below l.run.now + (16 * (nodes (expr_of l.left.now) + nodes (expr_of l.right.now)) + 7)

abbrev pub decreases-statements::block : goal.decreases-statements::block
decreases-statements::block l = below l.run.now + (16 * (body_nodes (statement_list l.body.now)) + 7)

abbrev pub decreases-statements::body : goal.decreases-statements::body
decreases-statements::body l = below l.run.now + (16 * (statement_nodes (stmt_of l.run.now.function.now.body)) + 1)

abbrev pub decreases-expressions::both : goal.decreases-expressions::both
decreases-expressions::both l = below l.run.now + (16 * (nodes (expr_of l.left.now) + nodes (expr_of l.right.now)) + 7)

abbrev pub decreases-expressions::call : goal.decreases-expressions::call
decreases-expressions::call l = below l.run.now + (16 * (argument_nodes (argument_list l.args.now)) + 7)

abbrev pub decreases-expressions::called : goal.decreases-expressions::called
decreases-expressions::called l = below l.run.now

abbrev pub decreases-statements::choices : goal.decreases-statements::choices
decreases-statements::choices l = below l.run.now + (16 * (choice_nodes (choice_list l.list.now)) + 6)

abbrev pub decreases-statements::condition : goal.decreases-statements::condition
decreases-statements::condition l = below l.run.now + (16 * (nodes (expr_of l.e.now)) + 4)

abbrev pub decreases-expressions::converted : goal.decreases-expressions::converted
decreases-expressions::converted l = below l.run.now + (16 * (nodes (expr_of l.value.now)) + 7)

abbrev pub decreases-statements::do_loop : goal.decreases-statements::do_loop
decreases-statements::do_loop l = below l.run.now + (16 * (nodes (expr_of l.test.now) + statement_nodes (stmt_of l.body.now)) + 9)

abbrev pub decreases-statements::do_turn : goal.decreases-statements::do_turn
decreases-statements::do_turn l = below l.run.now + (16 * (nodes (expr_of l.test.now) + statement_nodes (stmt_of l.body.now)) + 8)

abbrev pub decreases-expressions::either : goal.decreases-expressions::either
decreases-expressions::either l = below l.run.now + (16 * (nodes (expr_of l.left.now) + nodes (expr_of l.right.now)) + 7)

abbrev pub decreases-expressions::eval : goal.decreases-expressions::eval
decreases-expressions::eval l = below l.run.now + 16 * (nodes (expr_of l.e.now))

abbrev pub decreases-statements::for_loop : goal.decreases-statements::for_loop
decreases-statements::for_loop l = below l.run.now + (16 * (option_nodes (option_expr_of l.first.now) + (option_nodes (option_expr_of l.test.now) + (option_nodes (option_expr_of l.third.now) + statement_nodes (stmt_of l.body.now)))) + 10)

abbrev pub decreases-statements::for_turn : goal.decreases-statements::for_turn
decreases-statements::for_turn l = below l.run.now + (16 * (option_nodes (option_expr_of l.test.now) + (option_nodes (option_expr_of l.third.now) + statement_nodes (stmt_of l.body.now))) + 8)

abbrev pub decreases-statements::for_turns : goal.decreases-statements::for_turns
decreases-statements::for_turns l = below l.run.now + (16 * (option_nodes (option_expr_of l.test.now) + (option_nodes (option_expr_of l.third.now) + statement_nodes (stmt_of l.body.now))) + 9)

abbrev pub decreases-statements::goes_on : goal.decreases-statements::goes_on
decreases-statements::goes_on l = below l.run.now + (16 * (option_nodes (option_expr_of l.test.now)) + 5)

abbrev pub decreases-expressions::holds : goal.decreases-expressions::holds
decreases-expressions::holds l = below l.run.now + (16 * (nodes (expr_of l.e.now)) + 3)

abbrev pub decreases-expressions::loaded : goal.decreases-expressions::loaded
decreases-expressions::loaded l = below l.run.now + (16 * (nodes (expr_of l.pointer.now)) + 7)

abbrev pub decreases-expressions::needed : goal.decreases-expressions::needed
decreases-expressions::needed l = below l.run.now + (16 * (nodes (expr_of l.e.now)) + 1)

abbrev pub decreases-expressions::negation : goal.decreases-expressions::negation
decreases-expressions::negation l = below l.run.now + (16 * (nodes (expr_of l.value.now)) + 7)

abbrev pub decreases-expressions::output : goal.decreases-expressions::output
decreases-expressions::output l = below l.run.now + (16 * (nodes (expr_of l.value.now)) + 7)

abbrev pub decreases-statements::part : goal.decreases-statements::part
decreases-statements::part l = below l.run.now + (16 * (option_nodes (option_expr_of l.e.now)) + 3)

abbrev pub decreases-expressions::picked : goal.decreases-expressions::picked
decreases-expressions::picked l = below l.run.now + (16 * (nodes (expr_of l.test.now) + (nodes (expr_of l.yes.now) + nodes (expr_of l.no.now))) + 7)

abbrev pub decreases-expressions::picked_value : goal.decreases-expressions::picked_value
decreases-expressions::picked_value l = below l.run.now + (16 * (nodes (expr_of l.test.now) + (nodes (expr_of l.yes.now) + nodes (expr_of l.no.now))) + 7)

abbrev pub decreases-expressions::spot : goal.decreases-expressions::spot
decreases-expressions::spot l = below l.run.now + (16 * (target_nodes (lvalue_of l.to.now.form l.to.now.at)) + 4)

abbrev pub decreases-expressions::spot_through : goal.decreases-expressions::spot_through
decreases-expressions::spot_through l = below l.run.now + (16 * (nodes (expr_of l.pointer.now)) + 3)

abbrev pub decreases-statements::statement : goal.decreases-statements::statement
decreases-statements::statement l = below l.run.now + 16 * (statement_nodes (stmt_of l.s.now))

abbrev pub decreases-statements::statements : goal.decreases-statements::statements
decreases-statements::statements l = below l.run.now + (16 * (body_nodes (statement_list l.list.now)) + 6)

abbrev pub decreases-expressions::step_after : goal.decreases-expressions::step_after
decreases-expressions::step_after l = below l.run.now + (16 * (target_nodes (lvalue_of l.to.now.form l.to.now.at)) + 7)

abbrev pub decreases-expressions::step_before : goal.decreases-expressions::step_before
decreases-expressions::step_before l = below l.run.now + (16 * (target_nodes (lvalue_of l.to.now.form l.to.now.at)) + 7)

abbrev pub decreases-statements::switch : goal.decreases-statements::switch
decreases-statements::switch l = below l.run.now + (16 * (nodes (expr_of l.value.now) + choice_nodes (choice_list l.list.now)) + 9)

abbrev pub decreases-expressions::unary : goal.decreases-expressions::unary
decreases-expressions::unary l = below l.run.now + (16 * (nodes (expr_of l.value.now)) + 7)

abbrev pub decreases-expressions::used : goal.decreases-expressions::used
decreases-expressions::used l = below l.run.now + (16 * (nodes (expr_of l.e.now)) + 2)

abbrev pub decreases-expressions::value_behind : goal.decreases-expressions::value_behind
decreases-expressions::value_behind l = below l.run.now + (16 * (nodes (expr_of l.left.now) + nodes (expr_of l.right.now)) + 7)

abbrev pub decreases-statements::while_loop : goal.decreases-statements::while_loop
decreases-statements::while_loop l = below l.run.now + (16 * (nodes (expr_of l.test.now) + statement_nodes (stmt_of l.body.now)) + 9)

abbrev pub decreases-statements::while_turn : goal.decreases-statements::while_turn
decreases-statements::while_turn l = below l.run.now + (16 * (nodes (expr_of l.test.now) + statement_nodes (stmt_of l.body.now)) + 8)

abbrev pub invariant-expressions::arguments-loop-e : goal.invariant-expressions::arguments-loop-e
invariant-expressions::arguments-loop-e l = after (eval.values (calls_of l.run) (env_in l.run l.names) (argument_list (drop l.e-index l.list)) (world_of l.state)) (λ vs. give (map value_of l.values.items ++ vs)) ≡ eval.values (calls_of l.run) (env_in l.run l.names) (argument_list l.list) (world_of l.fn.state)

abbrev pub invariant-statements::statements-loop-s : goal.invariant-statements::statements-loop-s
invariant-statements::statements-loop-s l = (exec.exec_all (calls_of l.run) l.run.turns (statement_list (drop l.s-index l.list)) (env_in l.run l.fn.names) (world_of l.state) ≡ exec.exec_all (calls_of l.run) l.run.turns (statement_list l.list) (env_in l.run l.fn.names) (world_of l.fn.state)) × (env_in l.run l.names ≡ env_in l.run l.fn.names)

abbrev pub invariant-statements::choices-loop-n : goal.invariant-statements::choices-loop-n
invariant-statements::choices-loop-n l = (exec.run_choices (calls_of l.run) l.run.turns (choice_list (drop l.n l.list)) (env_in l.run l.fn.names) (world_of l.state) ≡ exec.run_choices (calls_of l.run) l.run.turns (choice_list (drop l.start l.list)) (env_in l.run l.fn.names) (world_of l.fn.state)) × (env_in l.run l.names ≡ env_in l.run l.fn.names)

abbrev pub invariant-statements::while_loop-loop : goal.invariant-statements::while_loop-loop
invariant-statements::while_loop-loop l = (exec.turns (l.run.turns - l.counter) (eval.condition (calls_of l.run) (env_in l.run l.fn.names) (expr_of l.test)) (exec.exec (calls_of l.run) l.run.turns (stmt_of l.body) (env_in l.run l.fn.names)) (give (tt {0})) (world_of l.state) ≡ exec.turns l.run.turns (eval.condition (calls_of l.run) (env_in l.run l.fn.names) (expr_of l.test)) (exec.exec (calls_of l.run) l.run.turns (stmt_of l.body) (env_in l.run l.fn.names)) (give (tt {0})) (world_of l.fn.state)) × (env_in l.run l.names ≡ env_in l.run l.fn.names)

abbrev pub invariant-statements::do_loop-loop : goal.invariant-statements::do_loop-loop
invariant-statements::do_loop-loop l = (exec.turns_first (l.run.turns - l.counter) (exec.exec (calls_of l.run) l.run.turns (stmt_of l.body) (env_in l.run l.fn.names)) (eval.condition (calls_of l.run) (env_in l.run l.fn.names) (expr_of l.test)) (world_of l.state) ≡ exec.turns_first l.run.turns (exec.exec (calls_of l.run) l.run.turns (stmt_of l.body) (env_in l.run l.fn.names)) (eval.condition (calls_of l.run) (env_in l.run l.fn.names) (expr_of l.test)) (world_of l.fn.state)) × (env_in l.run l.names ≡ env_in l.run l.fn.names)

abbrev pub invariant-statements::for_turns-loop : goal.invariant-statements::for_turns-loop
invariant-statements::for_turns-loop l = (exec.turns (l.run.turns - l.counter) (exec.test_or_true (calls_of l.run) (env_in l.run l.fn.names) (option_expr_of l.test)) (exec.exec (calls_of l.run) l.run.turns (stmt_of l.body) (env_in l.run l.fn.names)) (exec.third_of (calls_of l.run) (env_in l.run l.fn.names) (option_expr_of l.third)) (world_of l.state) ≡ exec.turns l.run.turns (exec.test_or_true (calls_of l.run) (env_in l.run l.fn.names) (option_expr_of l.test)) (exec.exec (calls_of l.run) l.run.turns (stmt_of l.body) (env_in l.run l.fn.names)) (exec.third_of (calls_of l.run) (env_in l.run l.fn.names) (option_expr_of l.third)) (world_of l.fn.state)) × (env_in l.run l.names ≡ env_in l.run l.fn.names)
