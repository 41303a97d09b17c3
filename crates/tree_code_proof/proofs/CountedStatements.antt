-- Each statement of a typed program counts, and then does what its parts do, with what they cost; and so does a call.
use Rattle.std.proofs.Common.{◌≡◌, ℕ, zero, suc, ◌+◌, Bool, true, false, List, Option, Some, None, refl, ap, ◌∙◌}
use Rattle.std.specs.Prelude.{◌==◌, if◌then◌else◌, slice_get}
use Rattle.c_tree.specs.declared.program.VarRef.{VarRef}
use Rattle.c_tree.specs.TypedTree as tree
use Rattle.c_tree.specs.TypedTree.{Expr, Stmt, Stmts, Choices, FunctionTree}
use Rattle.c_tree.specs.Store as store
use Rattle.c_tree.specs.Store.{Value}
use Rattle.c_tree.specs.Eval as evaluated
use Rattle.c_tree.specs.Eval.{Env}
use Rattle.c_tree.specs.Exec as plain
use Rattle.c_tree.specs.Exec.{Flow, Next, Broke, Continued, Returned, word_or_zero}
use Rattle.c_tree.specs.Labels.{has_case}
use Rattle.c_tree.specs.SourceRun as run
use Rattle.c_tree.specs.SourceRun.{nothing_named, result_of}
use Rattle.tree_code.specs.Lowered.{lowered_choices}
use Rattle.ir_semantics.specs.TreeRun.{label_weights}
use Rattle.ir_semantics.specs.SourceWork as costs
use Rattle.ir_semantics.specs.SourceWork.{Work, Part, no_work, following, in_turn, CallsWork, expression_work, optional_work, in_order_work, after_turn_work, turn_work, turns_work, turns_first_work, labels_work, fill_work, exec_work, exec_all_work}
use Rattle.tree_code_proof.specs.Counted.{Does, ◌>>=◌, give, ticked, counted, free}
use Rattle.tree_code_proof.specs.Evaluated as evaluation
use Rattle.tree_code_proof.specs.Evaluated.{choose}
use Rattle.tree_code_proof.specs.Executed.{enter, leave, fill, pass, after_turn, in_order, behind_switch, turns, turns_first, third_of, test_or_true, exec, exec_all, from_case, from_default, run_choices, call_function}
use Rattle.tree_code_proof.proofs.Counting.{counted_node, counted_nothing, bind_counted, bind_later, bind_first, bind_free, then_same, first_same, chosen_counted}

chosen_free : {A : Type 0} (t : Bool) (f g : store.Does A) → free (evaluated.choose t f g) ≡ choose t (free f) (free g)
chosen_free true f g = refl
chosen_free false f g = refl

in_order_counted : (flow : Flow) (rest : store.Does Flow) (w : Work) → counted (plain.in_order flow rest) (in_order_work flow w) ≡ in_order flow (counted rest w)
in_order_counted Next rest w = refl
in_order_counted Broke rest w = counted_nothing (store.give Broke)
in_order_counted Continued rest w = counted_nothing (store.give Continued)
in_order_counted (Returned v) rest w = counted_nothing (store.give (Returned v))

-- loops
after_turn_counted : (flow : Flow) (again : store.Does Flow) (w : Work) → counted (plain.after_turn flow again) (after_turn_work flow w) ≡ after_turn flow (counted again w)
after_turn_counted Next again w = refl
after_turn_counted Broke again w = counted_nothing (store.give Next)
after_turn_counted Continued again w = refl
after_turn_counted (Returned v) again w = counted_nothing (store.give (Returned v))

abbrev part : {A : Type 0} → Part A → Does A
part p = counted p.does p.work

turn_counted : (each : Part Flow) (again : store.Does Flow) (w : Work) (next : Does Flow) → counted again w ≡ next
    → counted (store.◌>>=◌ each.does (λ flow. plain.after_turn flow again)) (turn_work each w) ≡ ticked 14 (part each >>= λ flow. after_turn flow next)
turn_counted each again w next is =
    counted_node (store.◌>>=◌ each.does (λ flow. plain.after_turn flow again)) 14 (in_turn each.does each.work (λ flow. after_turn_work flow w))
    ∙ ap (ticked 14) (bind_counted each.does (λ flow. plain.after_turn flow again) each.work (λ flow. after_turn_work flow w)
    ∙ then_same (part each) (λ flow. after_turn_counted flow again w ∙ ap (after_turn flow) is))

turns_counted : (n : ℕ) (test : Part Bool) (each : Part Flow) (third : Part (Unit {0}))
    → counted (plain.turns n test.does each.does third.does) (turns_work n test each third) ≡ turns n (part test) (part each) (part third)
turns_counted zero test each third =
    bind_first (λ t. evaluated.choose t plain.too_many (store.give Next)) test.does test.work ∙ then_same (part test) (λ t. chosen_free t plain.too_many (store.give Next))
turns_counted (suc n) test each third =
    let again : store.Does Flow = store.◌>>=◌ third.does (λ _. plain.turns n test.does each.does third.does) in
    let again_work : Work = in_turn third.does third.work (λ _. turns_work n test each third) in
    let turn : store.Does Flow = store.◌>>=◌ each.does (λ flow. plain.after_turn flow again) in
    bind_counted test.does (λ t. evaluated.choose t turn (store.give Next)) test.work (λ t. if t then turn_work each again_work else no_work)
    ∙ then_same (part test) (λ t. chosen_counted t turn (store.give Next) (turn_work each again_work) no_work
    ∙ ap (λ x. choose t x (counted (store.give Next) no_work)) (turn_counted each again again_work (part third >>= λ _. turns n (part test) (part each) (part third))
    (bind_counted third.does (λ _. plain.turns n test.does each.does third.does) third.work (λ _. turns_work n test each third) ∙ then_same (part third) (λ _. turns_counted n test each third)))
    ∙ ap (λ x. choose t (ticked 14 (part each >>= λ flow. after_turn flow (part third >>= λ _. turns n (part test) (part each) (part third)))) x) (counted_nothing (store.give Next)))

turns_first_counted : (n : ℕ) (each : Part Flow) (test : Part Bool) → counted (plain.turns_first n each.does test.does) (turns_first_work n each test) ≡ turns_first n (part each) (part test)
turns_first_counted zero each test = counted_nothing plain.too_many
turns_first_counted (suc n) each test =
    let more : Bool → store.Does Flow = λ t. evaluated.choose t (plain.turns_first n each.does test.does) (store.give Next) in
    let more_work : Bool → Work = λ t. if t then turns_first_work n each test else no_work in
    turn_counted each (store.◌>>=◌ test.does more) (in_turn test.does test.work more_work) (part test >>= λ t. choose t (turns_first n (part each) (part test)) (give Next))
    (bind_counted test.does more test.work more_work
    ∙ then_same (part test) (λ t. chosen_counted t (plain.turns_first n each.does test.does) (store.give Next) (turns_first_work n each test) no_work
    ∙ ap (λ x. choose t x (counted (store.give Next) no_work)) (turns_first_counted n each test)
    ∙ ap (λ x. choose t (turns_first n (part each) (part test)) x) (counted_nothing (store.give Next))))

-- the labels of a switch weigh the same in the word tree
pub same_labels : (cs : Choices) → labels_work cs ≡ label_weights (lowered_choices cs)
same_labels tree.no_more = refl
same_labels (tree.case x rest) = ap (λ k. 7 + k) (same_labels rest)
same_labels (tree.default rest) = ap (λ k. 2 + k) (same_labels rest)
same_labels (tree.body s rest) = same_labels rest

module _ (calls : evaluated.Calls) (work : CallsWork) where
  -- an optional test or part
  pub third_counted : (env : Env) (e : Expr) → third_of calls work env (Some e) ≡ (evaluation.eval calls work env e >>= λ _. give (tt {0}))
  third_counted env e = bind_first (λ _. store.give (tt {0})) (evaluated.eval calls env e) (expression_work calls work env e)

  pub no_third_counted : (env : Env) → third_of calls work env None ≡ give (tt {0})
  no_third_counted env = counted_nothing (store.give (tt {0}))

  pub no_test_counted : (env : Env) → test_or_true calls work env None ≡ give true
  no_test_counted env = counted_nothing (store.give true)

  module _ (n : ℕ) where
    abbrev does : Stmt → Env → Does Flow
    does s env = exec calls work n s env

    abbrev stmt : Stmt → Env → store.Does Flow
    stmt s env = plain.exec calls n s env

    pub block_counted : (declared : List VarRef) (ss : Stmts) (env : Env)
        → does (tree.Block declared ss) env ≡ ticked 1 (enter declared env >>= λ e. exec_all calls work n ss e.0 >>= λ flow. leave e.1 >>= λ _. give flow)
    block_counted declared ss env =
        let last : List ℕ → Flow → store.Does Flow = λ numbers flow. store.◌>>=◌ (plain.leave numbers) (λ _. store.give flow) in
        let body : Env × List ℕ → store.Does Flow = λ e. store.◌>>=◌ (plain.exec_all calls n ss e.0) (last e.1) in
        counted_node (store.◌>>=◌ (plain.enter declared env) body) 1 (λ w. following (plain.enter declared env w) (λ e. exec_all_work calls work n ss e.0))
        ∙ ap (ticked 1) (bind_later (plain.enter declared env) body (λ e. exec_all_work calls work n ss e.0)
        ∙ then_same (enter declared env) (λ e. bind_first (last e.1) (plain.exec_all calls n ss e.0) (exec_all_work calls work n ss e.0)
        ∙ then_same (exec_all calls work n ss e.0) (λ flow. bind_free (λ _. store.give flow) (plain.leave e.1))))

    pub fill_counted : (k : ℕ) (env : Env) → does (tree.Fill k) env ≡ ticked (fill_work (slice_get env.function.locals k)) (fill (slice_get env.function.locals k) (env.local k))
    fill_counted k env = refl

    pub do_counted : (e : Expr) (env : Env) → does (tree.Do_expr e) env ≡ ticked 1 (evaluation.eval calls work env e >>= λ _. give Next)
    do_counted e env =
        counted_node (stmt (tree.Do_expr e) env) 1 (expression_work calls work env e) ∙ ap (ticked 1) (bind_first (λ _. store.give Next) (evaluated.eval calls env e) (expression_work calls work env e))

    pub if_counted : (e : Expr) (a b : Stmt) (env : Env) → does (tree.If e a b) env ≡ ticked 6 (evaluation.condition calls work env e >>= λ t. choose t (does a env) (does b env))
    if_counted e a b env =
        let arms : Bool → Work = λ t. if t then exec_work calls work n a env else exec_work calls work n b env in
        counted_node (stmt (tree.If e a b) env) 6 (in_turn (evaluated.condition calls env e) (expression_work calls work env e) arms)
        ∙ ap (ticked 6) (bind_counted (evaluated.condition calls env e) (λ t. evaluated.choose t (stmt a env) (stmt b env)) (expression_work calls work env e) arms
        ∙ then_same (evaluation.condition calls work env e) (λ t. chosen_counted t (stmt a env) (stmt b env) (exec_work calls work n a env) (exec_work calls work n b env)))

    abbrev each : Stmt → Env → Part Flow
    each s env = record { does = stmt s env; work = exec_work calls work n s env }

    pub while_counted : (e : Expr) (s : Stmt) (env : Env) → does (tree.While e s) env ≡ ticked 14 (turns n (evaluation.condition calls work env e) (does s env) (give (tt {0})))
    while_counted e s env =
        counted_node (stmt (tree.While e s) env) 14 (turns_work n (costs.test_part calls work n e env) (each s env) (costs.third_part calls work n None env))
        ∙ ap (ticked 14) (turns_counted n (costs.test_part calls work n e env) (each s env) (costs.third_part calls work n None env)
        ∙ ap (turns n (evaluation.condition calls work env e) (does s env)) (no_third_counted env))

    pub do_while_counted : (s : Stmt) (e : Expr) (env : Env) → does (tree.Do_while s e) env ≡ ticked 14 (turns_first n (does s env) (evaluation.condition calls work env e))
    do_while_counted s e env =
        counted_node (stmt (tree.Do_while s e) env) 14 (turns_first_work n (each s env) (costs.test_part calls work n e env)) ∙ ap (ticked 14) (turns_first_counted n (each s env) (costs.test_part calls work n e env))

    pub for_counted : (x y z : Option Expr) (s : Stmt) (env : Env)
        → does (tree.For x y z s) env ≡ ticked 14 (third_of calls work env x >>= λ _. turns n (test_or_true calls work env y) (does s env) (third_of calls work env z))
    for_counted x y z s env =
        let loop : store.Does Flow = plain.turns n (plain.test_or_true calls env y) (stmt s env) (plain.third_of calls env z) in
        let loop_work : Work = turns_work n (costs.optional_test_part calls work n y env) (each s env) (costs.third_part calls work n z env) in
        counted_node (stmt (tree.For x y z s) env) 14 (in_turn (plain.third_of calls env x) (optional_work calls work env x) (λ _. loop_work))
        ∙ ap (ticked 14) (bind_counted (plain.third_of calls env x) (λ _. loop) (optional_work calls work env x) (λ _. loop_work)
        ∙ then_same (third_of calls work env x) (λ _. turns_counted n (costs.optional_test_part calls work n y env) (each s env) (costs.third_part calls work n z env)))

    pub switch_counted : (e : Expr) (cs : Choices) (env : Env)
        → does (tree.Switch e cs) env
        ≡ ticked (8 + label_weights (lowered_choices cs)) (evaluation.value calls work env e >>= λ v. choose (has_case (word_or_zero v) cs) (from_case calls work n (word_or_zero v) cs env) (from_default calls work n cs env) >>= behind_switch)
    switch_counted e cs env =
        let entry : Value → store.Does Flow = λ v. evaluated.choose (has_case (word_or_zero v) cs) (plain.from_case calls n (word_or_zero v) cs env) (plain.from_default calls n cs env) in
        let entry_work : Value → Work = λ v. if has_case (word_or_zero v) cs then costs.from_case_work calls work n (word_or_zero v) cs env else costs.from_default_work calls work n cs env in
        counted_node (stmt (tree.Switch e cs) env) (8 + labels_work cs) (in_turn (evaluated.value calls env e) (expression_work calls work env e) entry_work)
        ∙ ap (λ k. ticked (8 + k) (counted (stmt (tree.Switch e cs) env) (in_turn (evaluated.value calls env e) (expression_work calls work env e) entry_work))) (same_labels cs)
        ∙ ap (ticked (8 + label_weights (lowered_choices cs))) (bind_counted (evaluated.value calls env e) (λ v. store.◌>>=◌ (entry v) plain.behind_switch) (expression_work calls work env e) entry_work
        ∙ then_same (evaluation.value calls work env e) (λ v. bind_first plain.behind_switch (entry v) (entry_work v)
        ∙ first_same behind_switch (chosen_counted (has_case (word_or_zero v) cs) (plain.from_case calls n (word_or_zero v) cs env) (plain.from_default calls n cs env) (costs.from_case_work calls work n (word_or_zero v) cs env) (costs.from_default_work calls work n cs env))))

    pub break_counted : (env : Env) → does tree.Break env ≡ ticked 2 (give Broke)
    break_counted env = refl

    pub continue_counted : (env : Env) → does tree.Continue env ≡ ticked 2 (give Continued)
    continue_counted env = refl

    pub return_counted : (env : Env) → does (tree.Return None) env ≡ ticked 3 (give (Returned None))
    return_counted env = counted_node (store.give (Returned None)) 3 no_work ∙ ap (ticked 3) (counted_nothing (store.give (Returned None)))

    pub return_value_counted : (e : Expr) (env : Env) → does (tree.Return (Some e)) env ≡ ticked 3 (evaluation.value calls work env e >>= λ v. give (Returned (Some v)))
    return_value_counted e env =
        counted_node (stmt (tree.Return (Some e)) env) 3 (expression_work calls work env e) ∙ ap (ticked 3) (bind_first (λ v. store.give (Returned (Some v))) (evaluated.value calls env e) (expression_work calls work env e))

    -- statements, one after another
    list_counted : (s : Stmt) (env : Env) (rest : store.Does Flow) (w : Work)
        → counted (store.◌>>=◌ (stmt s env) (λ flow. plain.in_order flow rest)) (in_turn (stmt s env) (exec_work calls work n s env) (λ flow. in_order_work flow w)) ≡ (does s env >>= λ flow. in_order flow (counted rest w))
    list_counted s env rest w =
        bind_counted (stmt s env) (λ flow. plain.in_order flow rest) (exec_work calls work n s env) (λ flow. in_order_work flow w) ∙ then_same (does s env) (λ flow. in_order_counted flow rest w)

    pub next_counted : counted (store.give Next) no_work ≡ give Next
    next_counted = counted_nothing (store.give Next)

    pub both_counted : (s : Stmt) (rest : Stmts) (env : Env) → exec_all calls work n (tree.both s rest) env ≡ (does s env >>= λ flow. in_order flow (exec_all calls work n rest env))
    both_counted s rest env = list_counted s env (plain.exec_all calls n rest env) (exec_all_work calls work n rest env)

    pub body_counted : (s : Stmt) (rest : Choices) (env : Env) → run_choices calls work n (tree.body s rest) env ≡ (does s env >>= λ flow. in_order flow (run_choices calls work n rest env))
    body_counted s rest env = list_counted s env (plain.run_choices calls n rest env) (costs.run_choices_work calls work n rest env)

    pub case_counted : (x y : ℕ) (rest : Choices) (env : Env) → from_case calls work n x (tree.case y rest) env ≡ choose (x == y) (run_choices calls work n rest env) (from_case calls work n x rest env)
    case_counted x y rest env = chosen_counted (x == y) (plain.run_choices calls n rest env) (plain.from_case calls n x rest env) (costs.run_choices_work calls work n rest env) (costs.from_case_work calls work n x rest env)

    -- a call
    pub function_counted : (f : FunctionTree) (args : List Value)
        → call_function calls work n (Some f) args ≡ ticked 10 (enter f.params (nothing_named f) >>= λ e. pass f.params args e.0 >>= λ _. does f.body e.0 >>= λ flow. leave e.1 >>= λ _. give (result_of flow))
    function_counted f args =
        let last : List ℕ → Flow → store.Does (Option Value) = λ numbers flow. store.◌>>=◌ (plain.leave numbers) (λ _. store.give (result_of flow)) in
        let body : Env × List ℕ → store.Does (Option Value) = λ e. store.◌>>=◌ (stmt f.body e.0) (last e.1) in
        let passed : Env × List ℕ → store.Does (Option Value) = λ e. store.◌>>=◌ (run.pass f.params args e.0) (λ _. body e) in
        let body_work : Env × List ℕ → Work = λ e v. following (run.pass f.params args e.0 v) (λ _. exec_work calls work n f.body e.0) in
        counted_node (store.◌>>=◌ (plain.enter f.params (nothing_named f)) passed) 10 (λ w. following (plain.enter f.params (nothing_named f) w) body_work)
        ∙ ap (ticked 10) (bind_later (plain.enter f.params (nothing_named f)) passed body_work
        ∙ then_same (enter f.params (nothing_named f)) (λ e. bind_later (run.pass f.params args e.0) (λ _. body e) (λ _. exec_work calls work n f.body e.0)
        ∙ then_same (pass f.params args e.0) (λ _. bind_first (last e.1) (stmt f.body e.0) (exec_work calls work n f.body e.0)
        ∙ then_same (does f.body e.0) (λ flow. bind_free (λ _. store.give (result_of flow)) (plain.leave e.1)))))
