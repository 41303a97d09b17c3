-- The work of a run of a typed program: the weight of each node, as often as it is evaluated, counted when its evaluation begins. Each function
-- is named for the one of c_tree whose work it gives: its own weight, and the work of the parts that it evaluates, from the world in which each of
-- them begins. A value that is used and one that isn't cost the same.
use Rattle.std.specs.Prelude.{[], ℕ, zero, suc, ◌+◌, ◌*◌, Bool, ◌==◌, if◌then◌else◌, List, length, slice_get, Option, Some, None}
use Rattle.word_base.specs.declared.outcome.Outcome.{Outcome}
use Rattle.word_base.specs.declared.outcome.Outcome.TheVariants as source
use Rattle.word_base.specs.Ports.{Input}
use Rattle.c_tree.specs.TypedTree.{Expr, Node, Lvalue, Named, At, Const, Read, AddressOf, Load, Unary, Binary, And, Or, Not, Pick, Assign, AssignOp, StepBefore, StepAfter, Call, In, Out, Comma, Convert, Exprs, none, more, Stmt, Block, Fill, Do_expr, If, While, Do_while, For, Switch, Break, Continue, Return, Stmts, done, both, Choices, no_more, case, default, body, ObjectTree, FunctionTree, ProgramTree}
use Rattle.c_tree.specs.Store.{Value, World, Res, Gives, Finished, TooMany, Fails, Does, ◌>>=◌, load}
use Rattle.c_tree.specs.Eval.{Env, Calls, points, lvalue_place, test_of, eval, value, spot, values, condition}
use Rattle.c_tree.specs.Exec.{Flow, Next, Broke, Continued, Returned, enter, third_of, test_or_true, word_or_zero, exec}
use Rattle.c_tree.specs.Labels.{has_case}
use Rattle.c_tree.specs.SourceRun.{nothing_named, pass, call_within, main_of, first_world, source_run}
use Rattle.ir_semantics.specs.WorkOutcomes.{WorkOutcome, Ended, More, Undefined}

-- the work of a part of a run, from the world in which it begins
abbrev pub Work : Type 0
Work = World → ℕ

abbrev pub no_work : Work
no_work w = 0

-- the work of what follows a part: none where the run stopped
abbrev pub following : {A : Type 0} → Res A → (A → Work) → ℕ
following (Gives a w) next = next a w
following (Finished ending outs) next = 0
following (TooMany outs) next = 0
following (Fails kind at outs) next = 0

-- the work of a part, and of what follows it
abbrev pub in_turn : {A : Type 0} → Does A → Work → (A → Work) → Work
in_turn part work next w = work w + following (part w) next

-- what calls of functions cost
abbrev pub CallsWork : Type 0
CallsWork = ℕ → List Value → Work

module _ (calls : Calls) (calls_work : CallsWork) (env : Env) where
  -- whether a value is true
  abbrev pub truth_of : Expr → ℕ → Does Bool
  truth_of e at = value calls env e >>= λ v. test_of v at

  -- the value that an operator with an assignment reads
  abbrev pub old_value : Lvalue → Bool → Does Value
  old_value l pointing = spot calls env l >>= λ s. load s.0 s.1 pointing (lvalue_place l)

  abbrev mutual
    pub expression_work : Expr → Work
    expression_work (Node (Const x) kind at) w = 2
    expression_work (Node (Read v) kind at) w = 5
    expression_work (Node (AddressOf v) kind at) w = 2
    expression_work (Node (Load e) kind at) w = 5 + expression_work e w
    expression_work (Node (Unary o e) kind at) w = 1 + expression_work e w
    expression_work (Node (Binary o a b) kind at) w = 24 + in_turn (value calls env a) (expression_work a) (λ _. expression_work b) w
    expression_work (Node (And a b) kind at) w = 20 + in_turn (truth_of a at) (expression_work a) (λ t. if t then expression_work b else no_work) w
    expression_work (Node (Or a b) kind at) w = 20 + in_turn (truth_of a at) (expression_work a) (λ t. if t then no_work else expression_work b) w
    expression_work (Node (Not a) kind at) w = 10 + expression_work a w
    expression_work (Node (Pick c a b) kind at) w = 14 + in_turn (truth_of c at) (expression_work c)
        (λ t. if t then expression_work a else expression_work b) w
    expression_work (Node (Assign (Named v place) e) kind at) w = 19 + expression_work e w
    expression_work (Node (Assign (At p place) e) kind at) w = 19 + in_turn (value calls env p) (expression_work p) (λ _. expression_work e) w
    expression_work (Node (AssignOp o l e) kind at) w = 48 + in_turn (old_value l (points kind)) (lvalue_work l) (λ _. expression_work e) w
    expression_work (Node (StepBefore up l) kind at) w = 14 + lvalue_work l w
    expression_work (Node (StepAfter up l) kind at) w = 14 + lvalue_work l w
    expression_work (Node (Call f es) kind at) w = 2 + in_turn (values calls env es) (arguments_work es) (calls_work f) w
    expression_work (Node (In port) kind at) w = 4
    expression_work (Node (Out port e) kind at) w = 4 + expression_work e w
    expression_work (Node (Comma a b) kind at) w = 1 + in_turn (eval calls env a) (expression_work a) (λ _. expression_work b) w
    expression_work (Node (Convert e) kind at) w = 1 + expression_work e w

    pub lvalue_work : Lvalue → Work
    lvalue_work (Named v place) w = 0
    lvalue_work (At p place) w = expression_work p w

    -- an argument counts besides what it is
    pub arguments_work : Exprs → Work
    arguments_work none w = 0
    arguments_work (more e rest) w = 12 + in_turn (value calls env e) (expression_work e) (λ _. arguments_work rest) w

  abbrev pub optional_work : Option Expr → Work
  optional_work None = no_work
  optional_work (Some e) = expression_work e

-- after a statement: the rest, unless a jump leaves the list or the loop; a continue is the end of its turn
abbrev pub in_order_work : Flow → Work → Work
in_order_work Next rest = rest
in_order_work Broke rest = no_work
in_order_work Continued rest = no_work
in_order_work (Returned v) rest = no_work

abbrev pub after_turn_work : Flow → Work → Work
after_turn_work Next again = again
after_turn_work Broke again = no_work
after_turn_work Continued again = again
after_turn_work (Returned v) again = no_work

-- what is evaluated in each turn of a loop, with its work
pub record Part (A : Type 0) : Type 0 where
  pub does : Does A
  pub work : Work

-- a turn counts 14 when it begins
abbrev pub turn_work : Part Flow → Work → Work
turn_work each again w = 14 + in_turn each.does each.work (λ flow. after_turn_work flow again) w

-- at most n turns, each after a test, and each before one
abbrev pub turns_work : ℕ → Part Bool → Part Flow → Part (Unit {0}) → Work
turns_work zero test each third = test.work
turns_work (suc n) test each third = in_turn test.does test.work
    (λ t. if t then turn_work each (in_turn third.does third.work (λ _. turns_work n test each third)) else no_work)

abbrev pub turns_first_work : ℕ → Part Flow → Part Bool → Work
turns_first_work zero each test = no_work
turns_first_work (suc n) each test =
    turn_work each (in_turn test.does test.work (λ t. if t then turns_first_work n each test else no_work))

-- the labels of a switch count whenever it is evaluated
abbrev pub labels_work : Choices → ℕ
labels_work no_more = 0
labels_work (case x rest) = 7 + labels_work rest
labels_work (default rest) = 2 + labels_work rest
labels_work (body s rest) = labels_work rest

-- a local array counts by its list and by its length
abbrev pub fill_work : Option ObjectTree → ℕ
fill_work None = 9
fill_work (Some o) = 9 + (9 * length o.initial + 64 * o.length)

-- where a loop makes at most n turns each time that it is executed
module _ (calls : Calls) (calls_work : CallsWork) (n : ℕ) where
  -- what a loop evaluates in each turn besides its statement: a test, which may be absent in a for, and the third part of a for
  abbrev pub test_part : Expr → Env → Part Bool
  test_part e env = record { does = condition calls env e; work = expression_work calls calls_work env e }

  abbrev pub optional_test_part : Option Expr → Env → Part Bool
  optional_test_part e env = record { does = test_or_true calls env e; work = optional_work calls calls_work env e }

  abbrev pub third_part : Option Expr → Env → Part (Unit {0})
  third_part e env = record { does = third_of calls env e; work = optional_work calls calls_work env e }

  abbrev mutual
    pub exec_work : Stmt → Env → Work
    exec_work (Block declared all) env w = 1 + following (enter declared env w) (λ e. exec_all_work all e.0)
    exec_work (Fill k) env w = fill_work (slice_get env.function.locals k)
    exec_work (Do_expr e) env w = 1 + expression_work calls calls_work env e w
    exec_work (If test s other) env w = 6 + in_turn (condition calls env test) (expression_work calls calls_work env test)
        (λ t. if t then exec_work s env else exec_work other env) w
    exec_work (While test s) env w = 14 + turns_work n (test_part test env)
        (record { does = exec calls n s env; work = exec_work s env }) (third_part None env) w
    exec_work (Do_while s test) env w = 14 + turns_first_work n (record { does = exec calls n s env; work = exec_work s env }) (test_part test env) w
    exec_work (For first test third s) env w = 14 + in_turn (third_of calls env first) (optional_work calls calls_work env first)
        (λ _. turns_work n (optional_test_part test env) (record { does = exec calls n s env; work = exec_work s env }) (third_part third env)) w
    exec_work (Switch e choices) env w = 8 + labels_work choices + in_turn (value calls env e) (expression_work calls calls_work env e)
        (λ v. if has_case (word_or_zero v) choices then from_case_work (word_or_zero v) choices env else from_default_work choices env) w
    exec_work Break env w = 2
    exec_work Continue env w = 2
    exec_work (Return e) env w = 3 + optional_work calls calls_work env e w

    pub exec_all_work : Stmts → Env → Work
    exec_all_work done env = no_work
    exec_all_work (both s rest) env = in_turn (exec calls n s env) (exec_work s env) (λ flow. in_order_work flow (exec_all_work rest env))

    pub from_case_work : ℕ → Choices → Env → Work
    from_case_work x no_more env = no_work
    from_case_work x (case y rest) env = if x == y then run_choices_work rest env else from_case_work x rest env
    from_case_work x (default rest) env = from_case_work x rest env
    from_case_work x (body s rest) env = from_case_work x rest env

    pub from_default_work : Choices → Env → Work
    from_default_work no_more env = no_work
    from_default_work (case x rest) env = from_default_work rest env
    from_default_work (default rest) env = run_choices_work rest env
    from_default_work (body s rest) env = from_default_work rest env

    pub run_choices_work : Choices → Env → Work
    run_choices_work no_more env = no_work
    run_choices_work (case x rest) env = run_choices_work rest env
    run_choices_work (default rest) env = run_choices_work rest env
    run_choices_work (body s rest) env = in_turn (exec calls n s env) (exec_work s env) (λ flow. in_order_work flow (run_choices_work rest env))

-- a call counts 10, besides the body that runs once the parameters are passed
abbrev pub function_work : Calls → CallsWork → ℕ → Option FunctionTree → List Value → Work
function_work calls calls_work n None args w = 0
function_work calls calls_work n (Some f) args w = 10 + following (enter f.params (nothing_named f) w)
    (λ e v. following (pass f.params args e.0 v) (λ _. exec_work calls calls_work n f.body e.0))

abbrev pub call_within_work : ProgramTree → ℕ → ℕ → CallsWork
call_within_work p n zero f args w = 0
call_within_work p n (suc depth) f args w = function_work (call_within p n depth) (call_within_work p n depth) n (slice_get p.functions f) args w

-- the work of a whole run
abbrev pub source_work : ProgramTree → Input → ℕ → ℕ
source_work p input n =
    function_work (call_within p n (length p.functions)) (call_within_work p n (length p.functions)) n (main_of p.functions) [] (first_world p input)

-- an outcome with that work, where the run ended
abbrev pub with_work : Outcome → ℕ → WorkOutcome
with_work (source.Ended outs ending) work = Ended outs ending work
with_work (source.More outs) work = More outs
with_work (source.Undefined outs kind at) work = Undefined outs

-- the run of a typed program with its work
abbrev pub worked_run : ProgramTree → Input → ℕ → WorkOutcome
worked_run p input n = with_work (source_run p input n) (source_work p input n)
