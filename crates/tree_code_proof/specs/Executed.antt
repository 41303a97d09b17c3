-- The parts of statements that count nothing by themselves, turns of loops, and statements with their work.
use Rattle.std.specs.Prelude.{ℕ, zero, suc, Bool, List, Option}
use Rattle.c_tree.specs.declared.program.VarRef.{VarRef}
use Rattle.c_tree.specs.TypedTree.{Expr, Stmt, Stmts, Choices, ObjectTree, FunctionTree, ProgramTree}
use Rattle.c_tree.specs.Store.{Value}
use Rattle.c_tree.specs.Eval as evaluation
use Rattle.c_tree.specs.Eval.{Env}
use Rattle.c_tree.specs.Exec as plain
use Rattle.c_tree.specs.SourceRun as run
use Rattle.ir_semantics.specs.SourceWork.{CallsWork, optional_work, exec_work, exec_all_work, from_case_work, from_default_work, run_choices_work, function_work, call_within_work}
use Rattle.tree_code_proof.specs.Counted.{Does, TooMany, ◌>>=◌, give, ticked, free, counted}
use Rattle.tree_code_proof.specs.Evaluated.{Calls, choose}
pub use Rattle.c_tree.specs.Exec.{Flow, Next, Broke, Continued, Returned, word_or_zero, fresh}

abbrev pub too_many : {A : Type 0} → Does A
too_many = λ w. TooMany w.outs

abbrev pub enter : List VarRef → Env → Does (Env × List ℕ)
enter vs env = free (plain.enter vs env)

abbrev pub leave : List ℕ → Does (Unit {0})
leave numbers = free (plain.leave numbers)

abbrev pub fill : Option ObjectTree → ℕ → Does Flow
fill o object = free (plain.fill o object)

abbrev pub pass : List VarRef → List Value → Env → Does (Unit {0})
pass ps vs env = free (run.pass ps vs env)

abbrev pub after_turn : Flow → Does Flow → Does Flow
after_turn Next again = again
after_turn Continued again = again
after_turn Broke again = give Next
after_turn (Returned v) again = give (Returned v)

abbrev pub in_order : Flow → Does Flow → Does Flow
in_order Next rest = rest
in_order Broke rest = give Broke
in_order Continued rest = give Continued
in_order (Returned v) rest = give (Returned v)

abbrev pub behind_switch : Flow → Does Flow
behind_switch flow = free (plain.behind_switch flow)

-- a turn counts 14
abbrev pub turns : ℕ → Does Bool → Does Flow → Does (Unit {0}) → Does Flow
turns zero test each third = test >>= λ t. choose t too_many (give Next)
turns (suc n) test each third =
    test >>= λ t. choose t (ticked 14 (each >>= λ flow. after_turn flow (third >>= λ _. turns n test each third))) (give Next)

abbrev pub turns_first : ℕ → Does Flow → Does Bool → Does Flow
turns_first zero each test = too_many
turns_first (suc n) each test = ticked 14 (each >>= λ flow. after_turn flow (test >>= λ t. choose t (turns_first n each test) (give Next)))

module _ (calls : evaluation.Calls) (work : CallsWork) where
  abbrev pub third_of : Env → Option Expr → Does (Unit {0})
  third_of env e = counted (plain.third_of calls env e) (optional_work calls work env e)

  abbrev pub test_or_true : Env → Option Expr → Does Bool
  test_or_true env e = counted (plain.test_or_true calls env e) (optional_work calls work env e)

  module _ (n : ℕ) where
    abbrev pub exec : Stmt → Env → Does Flow
    exec s env = counted (plain.exec calls n s env) (exec_work calls work n s env)

    abbrev pub exec_all : Stmts → Env → Does Flow
    exec_all ss env = counted (plain.exec_all calls n ss env) (exec_all_work calls work n ss env)

    abbrev pub from_case : ℕ → Choices → Env → Does Flow
    from_case x cs env = counted (plain.from_case calls n x cs env) (from_case_work calls work n x cs env)

    abbrev pub from_default : Choices → Env → Does Flow
    from_default cs env = counted (plain.from_default calls n cs env) (from_default_work calls work n cs env)

    abbrev pub run_choices : Choices → Env → Does Flow
    run_choices cs env = counted (plain.run_choices calls n cs env) (run_choices_work calls work n cs env)

    -- a call of a function
    abbrev pub call_function : Option FunctionTree → List Value → Does (Option Value)
    call_function f args = counted (run.call_function calls n f args) (function_work calls work n f args)

abbrev pub call_within : ProgramTree → ℕ → ℕ → Calls
call_within p n depth f args = counted (run.call_within p n depth f args) (call_within_work p n depth f args)
