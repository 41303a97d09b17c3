-- Calls, their bodies and their arguments: ISO 9899:1990 6.3.2.2.
use Rattle.std.proofs.Common.{◌≡◌, ◌<◌, ◌≤◌, ◌+◌, arith, ◌∙◌, refl, sym, ap, subst, ℕ, zero, suc, List, [], ◌∷◌, ◌++◌, append_assoc, map, length, get_or, drop, Some, None}
use Rattle.std.specs.Prelude.{slice_get}
use Rattle.word_base.specs.Ports.{Outputs}
use Rattle.c_tree.specs.declared.program.Program.{Program}
use Rattle.c_tree.specs.declared.program.Function.{Function}
use Rattle.c_tree.specs.declared.typed_expression.TypedExpr.{TypedExpr}
use Rattle.c_tree.specs.Store as runs
use Rattle.c_tree.specs.Store.{World, Res, Gives, TooMany, Does, after, ◌>>=◌, give}
use Rattle.c_tree.specs.TypedTree.{Expr, Exprs, FunctionTree, none, more}
use Rattle.c_tree.specs.Eval.{Calls, Env, value, values}
use Rattle.c_tree.specs.Exec.{Flow, enter, leave, exec}
use Rattle.c_tree.specs.SourceRun.{call_within, call_function, pass, nothing_named, result_of}
use Rattle.c_tree.specs.ProgramView.{program_of}
use Rattle.c_tree.specs.View.{function_of, argument_list, expr_of}
use Rattle.c_tree.specs.declared.program.VarRef.{VarRef}
use Rattle.c_means.specs.declared.frame.Run.{Run}
use Rattle.c_state.specs.declared.names.Names.{Names}
use Rattle.c_state.specs.declared.value.Stop.{Stop}
use Rattle.c_means.specs.Frames.{env_in}
use Rattle.c_state.specs.Worlds.{Stops}
use Rattle.c_means.proofs.Sizes.{get_mapped, get_missing}
use Rattle.c_means.proofs.TurnLemmas.{grouped, same_behind, stops_behind}

-- a call by a number
pub call_there : (p : Program) (n depth d f : ℕ) (g : Function) (args : List runs.Value) (w : World) → depth ≡ suc d → slice_get p.functions f ≡ Some g
    → call_within (program_of p) n depth f args w ≡ call_function (call_within (program_of p) n d) n (Some (function_of g)) args w
call_there p n depth d f g args w deep at =
    ap (λ k. call_within (program_of p) n k f args w) deep
    ∙ ap (λ o. call_function (call_within (program_of p) n d) n o args w) (get_mapped function_of p.functions f g at)

pub call_missing : (p : Program) (n depth d f : ℕ) (args : List runs.Value) (w : World) → depth ≡ suc d → slice_get p.functions f ≡ None
    → call_within (program_of p) n depth f args w ≡ TooMany w.outs
call_missing p n depth d f args w deep at =
    ap (λ k. call_within (program_of p) n k f args w) deep
    ∙ ap (λ o. call_function (call_within (program_of p) n d) n o args w) (get_missing function_of p.functions f at)

-- a body between the entry and the end of its parameters
module _ (calls : Calls) (n : ℕ) (f : FunctionTree) (args : List runs.Value) (env : Env) (os : List ℕ) (w w1 w2 : World)
    (entered : enter f.params (nothing_named f) w ≡ Gives (env, os) w1) (passed : pass f.params args env w1 ≡ Gives (tt {0}) w2) where
  starts : call_function calls n (Some f) args w ≡ after (exec calls n f.body env w2) (λ flow. leave os >>= λ _. give (result_of flow))
  starts =
      ap (λ r. after r (λ (e : Env × List ℕ). pass f.params args e.0 >>= λ _. exec calls n f.body e.0 >>= λ flow. leave e.1 >>= λ _. give (result_of flow))) entered
      ∙ ap (λ r. after r (λ _. exec calls n f.body env >>= λ flow. leave os >>= λ _. give (result_of flow))) passed

  pub body_stops : (outs : Outputs) (s : Stop) → Stops (exec calls n f.body env w2) outs s → Stops (call_function calls n (Some f) args w) outs s
  body_stops outs s h = subst (λ r. Stops r outs s) (sym starts) (stops_behind _ (λ flow. leave os >>= λ _. give (result_of flow)) outs s h)

  pub body_gives : (flow : Flow) (w3 w4 : World) → exec calls n f.body env w2 ≡ Gives flow w3 → leave os w3 ≡ Gives (tt {0}) w4
      → call_function calls n (Some f) args w ≡ Gives (result_of flow) w4
  body_gives flow w3 w4 ran left =
      starts
      ∙ ap (λ r. after r (λ flow. leave os >>= λ _. give (result_of flow))) ran
      ∙ ap (λ r. after r (λ _. give (result_of flow))) left

-- arguments, behind those that were evaluated
pub all_of : (r : Res (List runs.Value)) → after r (λ vs. give ([] ++ vs)) ≡ r
all_of (Gives vs w) = refl
all_of (runs.Finished e outs) = refl
all_of (TooMany outs) = refl
all_of (runs.Fails kind at outs) = refl

module _ (calls : Calls) (env : Env) (e : Expr) (rest : Exprs) (before : List runs.Value) where
  pub next_argument : (v : runs.Value) (w w1 : World) → value calls env e w ≡ Gives v w1
      → after (values calls env (more e rest) w) (λ vs. give (before ++ vs)) ≡ after (values calls env rest w1) (λ vs. give ((before ++ v ∷ []) ++ vs))
  next_argument v w w1 gave =
      ap (λ r. after (after r (λ x. values calls env rest >>= λ vs. give (x ∷ vs))) (λ vs. give (before ++ vs))) gave
      ∙ grouped (values calls env rest w1) (λ vs. give (v ∷ vs)) (λ vs. give (before ++ vs))
      ∙ same_behind (values calls env rest w1) _ _ (λ vs w2. ap (λ l. Gives l w2) (sym (append_assoc before (v ∷ []) vs)))

  pub argument_stops : (w : World) (outs : Outputs) (s : Stop) → Stops (value calls env e w) outs s
      → Stops (after (values calls env (more e rest) w) (λ vs. give (before ++ vs))) outs s
  argument_stops w outs s h =
      stops_behind _ (λ vs. give (before ++ vs)) outs s (stops_behind _ (λ x. values calls env rest >>= λ vs. give (x ∷ vs)) outs s h)

-- the arguments from a place on
pub from_here : (es : List TypedExpr) (k : ℕ) (e : TypedExpr) → k < length es → e ≡ get_or es k e → argument_list (drop k es) ≡ more (expr_of e) (argument_list (drop (suc k) es))
from_here [] k e less at = absurd (omega (arith, less))
from_here (x ∷ es) zero e less at = ap (λ y. more (expr_of y) (argument_list es)) (sym at)
from_here (x ∷ es) (suc k) e less at = from_here es k e (omega (arith, less)) at

-- none is left
pub none_from : (es : List TypedExpr) (k : ℕ) → length es ≤ k → argument_list (drop k es) ≡ none
none_from [] zero all = refl
none_from [] (suc k) all = refl
none_from (x ∷ es) zero all = absurd (omega (arith, all))
none_from (x ∷ es) (suc k) all = none_from es k (omega (arith, all))

-- the parameters are the first names of a call
pub entered_first : (r : Run) (names : Names) (declared : List VarRef) (w w1 : World) (given : Env × List ℕ) → declared ≡ r.function.now.params → env_in r names ≡ nothing_named (function_of r.function.now)
    → enter declared (env_in r names) w ≡ Gives given w1 → enter (function_of r.function.now).params (nothing_named (function_of r.function.now)) w ≡ Gives given w1
entered_first r names declared w w1 given same none_named is =
    ap (λ (ps : List VarRef). enter ps (nothing_named (function_of r.function.now)) w) (sym same)
    ∙ ap {B = Res (Env × List ℕ)} (λ (e : Env). enter declared e w) (sym none_named)
    ∙ is

pub plus_one : (k : ℕ) → k + 1 ≡ suc k
plus_one k = omega arith

pub mapped_behind : {A B : Type 0} (f : A → B) (xs : List A) (x : A) → map f (xs ++ x ∷ []) ≡ map f xs ++ f x ∷ []
mapped_behind f [] x = refl
mapped_behind f (y ∷ xs) x = ap (λ l. f y ∷ l) (mapped_behind f xs x)
