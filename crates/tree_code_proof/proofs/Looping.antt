-- Loops: turns beside turns, so that one has a turn too many where the other has.
use Rattle.std.proofs.Common.{ℕ, zero, suc, ◌+◌, Bool, List, Option, sym}
use Rattle.c_tree.specs.declared.enclosing.Enclosing.{Enclosing}
use Rattle.c_tree.specs.declared.enclosing.Enclosing.TheVariants as within
use Rattle.c_tree.specs.declared.program.VarRef.{VarRef}
use Rattle.c_tree.specs.TypedTree.{ProgramTree}
use Rattle.tree_code_proof.specs.Counted as source
use Rattle.tree_code_proof.specs.Counted.{World}
use Rattle.c_tree.specs.Eval.{Env}
use Rattle.tree_code_proof.specs.Executed as execution
use Rattle.c_tree.specs.WellFormed.{Shape, Names}
use Rattle.ir_semantics.specs.Outside.{Places}
use Rattle.ir_semantics.specs.Parts.{Does, Flow, Next, Broke, Continued, Returned, give}
use Rattle.ir_semantics.specs.TreeRun as run
use Rattle.ir_semantics.specs.TreeRun.{Tree}
use Rattle.tree_code_proof.specs.Seats.{Seats}
use Rattle.tree_code_proof.specs.Beside.{Held, Alike}
use Rattle.tree_code_proof.specs.Surroundings.{Surrounds}
use Rattle.tree_code_proof.proofs.Growing.{too_many_grows, give_grows, bind_grows, ticked, choose_grows}
use Rattle.tree_code_proof.proofs.GrowingStatements.{turn_grows, turns_grow, turns_first_grow}
use Rattle.tree_code_proof.proofs.Rules.{Rel, rel_after}
use Rattle.tree_code_proof.proofs.Forms.{worked}
use Rattle.tree_code_proof.proofs.Truths.{Same}
use Rattle.tree_code_proof.proofs.Joining.{chosen}
use Rattle.tree_code_proof.proofs.Interfaces.{Left, Runs}
use Rattle.tree_code_proof.proofs.Leaving.{Asks, Acts, Still}

module _ (q : Places) (p : ProgramTree) (f : ℕ) (objects : VarRef → Option Shape) (pointing : Bool) (names : Names) (c : Enclosing) where
  -- behind a turn
  turned : (env : Env) (seats : Seats) (hs : List Held) (again : source.Does execution.Flow) (then_again : Does Tree Flow) → ((w : World) (t : Tree) → Alike seats hs w t → Rel (Left seats hs pointing c) (again w) (then_again t))
      → (x : execution.Flow) (y : Flow) (w : World) (t : Tree) → Left seats hs pointing within.Loop x y w t → Rel (Left seats hs pointing c) (execution.after_turn x again w) (run.after_turn y then_again t)
  turned env seats hs again then_again next execution.Next Next w t e = next w t e
  turned env seats hs again then_again next execution.Next Broke w t e = absurd e
  turned env seats hs again then_again next execution.Next Continued w t e = absurd e
  turned env seats hs again then_again next execution.Next Returned w t e = absurd e
  turned env seats hs again then_again next execution.Broke Next w t e = absurd e
  turned env seats hs again then_again next execution.Broke Broke w t e = e.1
  turned env seats hs again then_again next execution.Broke Continued w t e = absurd e
  turned env seats hs again then_again next execution.Broke Returned w t e = absurd e
  turned env seats hs again then_again next execution.Continued Next w t e = absurd e
  turned env seats hs again then_again next execution.Continued Broke w t e = absurd e
  turned env seats hs again then_again next execution.Continued Continued w t e = next w t e.1
  turned env seats hs again then_again next execution.Continued Returned w t e = absurd e
  turned env seats hs again then_again next (execution.Returned v) Next w t e = absurd e
  turned env seats hs again then_again next (execution.Returned v) Broke w t e = absurd e
  turned env seats hs again then_again next (execution.Returned v) Continued w t e = absurd e
  turned env seats hs again then_again next (execution.Returned v) Returned w t e = e

  module _ {test : Env → source.Does Bool} {decide : Does Tree Bool} {s : Env → source.Does execution.Flow} {does : Does Tree Flow} (asks : Asks q p f objects names.object test decide) (body : Runs q p f objects pointing names within.Loop s does) where
    -- each turn behind a test
    module _ {third : Env → source.Does (Unit {0})} {then_third : Does Tree (Unit {0})} (acts : Acts q p f objects names.object third then_third) where
      turns_keep : (n : ℕ) (env : Env) (seats : Seats) → Surrounds q p f objects names.object env seats → (hs : List Held) (w : World) (t : Tree) → Alike seats hs w t
          → Rel (Left seats hs pointing c) (execution.turns n (test env) (s env) (third env) w) (run.turns n decide does then_third t)
      turns_keep zero env seats around hs w t a =
          rel_after (Same seats hs) (Left seats hs pointing c) (test env w) (decide t) _ _ (asks.by env seats around hs w t a) (λ b. choose_grows b too_many_grows (give_grows Next))
          (λ x y w t e. chosen seats (Left seats hs pointing c) x y execution.too_many (source.give execution.Next) run.too_many (give Next) w t e.0 (sym e.1.outs) e.1)
      turns_keep (suc n) env seats around hs w t a =
          rel_after (Same seats hs) (Left seats hs pointing c) (test env w) (decide t) _ _ (asks.by env seats around hs w t a)
          (λ b. choose_grows b (bind_grows (ticked 14 (λ _. body.grows)) (λ flow. turn_grows flow (bind_grows acts.grows (λ _. turns_grow n asks.grows body.grows acts.grows)))) (give_grows Next))
          (λ x y w t e.
          chosen seats (Left seats hs pointing c) x y _ (source.give execution.Next) _ (give Next) w t e.0
          (rel_after (Left seats hs pointing within.Loop) (Left seats hs pointing c) (s env (record w { work = w.work + 14 })) (does (record t { work = t.work + 14 })) _ _ (body.by env seats around hs _ _ (worked seats hs w t _ e.1))
          (λ flow. turn_grows flow (bind_grows acts.grows (λ _. turns_grow n asks.grows body.grows acts.grows)))
          (turned env seats hs _ _ (λ w t a. rel_after (Still seats hs) (Left seats hs pointing c) (third env w) (then_third t) _ _ (acts.by env seats around hs w t a) (λ _. turns_grow n asks.grows body.grows acts.grows) (λ x y w t e. turns_keep n env seats around hs w t e))))
          e.1)

      pub loop_runs : (n : ℕ) → Runs q p f objects pointing names c (λ env. execution.turns n (test env) (s env) (third env)) (run.turns n decide does then_third)
      loop_runs n = record { by = turns_keep n; grows = turns_grow n asks.grows body.grows acts.grows }

    -- each turn before a test
    turns_first_keep : (n : ℕ) (env : Env) (seats : Seats) → Surrounds q p f objects names.object env seats → (hs : List Held) (w : World) (t : Tree) → Alike seats hs w t
        → Rel (Left seats hs pointing c) (execution.turns_first n (s env) (test env) w) (run.turns_first n does decide t)
    turns_first_keep zero env seats around hs w t a = sym a.outs
    turns_first_keep (suc n) env seats around hs w t a =
        rel_after (Left seats hs pointing within.Loop) (Left seats hs pointing c) (s env (record w { work = w.work + 14 })) (does (record t { work = t.work + 14 })) _ _ (body.by env seats around hs _ _ (worked seats hs w t _ a))
        (λ flow. turn_grows flow (bind_grows asks.grows (λ b. choose_grows b (turns_first_grow n body.grows asks.grows) (give_grows Next))))
        (turned env seats hs _ _
        (λ w t a. rel_after (Same seats hs) (Left seats hs pointing c) (test env w) (decide t) _ _ (asks.by env seats around hs w t a) (λ b. choose_grows b (turns_first_grow n body.grows asks.grows) (give_grows Next))
        (λ x y w t e. chosen seats (Left seats hs pointing c) x y _ (source.give execution.Next) _ (give Next) w t e.0 (turns_first_keep n env seats around hs w t e.1) e.1)))

    pub loop_first_runs : (n : ℕ) → Runs q p f objects pointing names c (λ env. execution.turns_first n (s env) (test env)) (run.turns_first n does decide)
    loop_first_runs n = record { by = turns_first_keep n; grows = turns_first_grow n body.grows asks.grows }
