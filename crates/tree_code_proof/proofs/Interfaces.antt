-- What the parts of a function keep, as its expressions, its statements and its calls ask it of each other.
use Rattle.std.proofs.Common.{◌≡◌, ℕ, Bool, true, List, [], ◌∷◌, ◌++◌, Option, Some, None, refl, sym, ap, subst}
use Rattle.std.specs.Prelude.{◌≢◌, map}
use Rattle.std.specs.List.{AllByRecursion, Contains}
use Rattle.std.proofs.lemmas.List.Elements as elements
use Rattle.c_tree.specs.declared.enclosing.Enclosing.{Enclosing}
use Rattle.c_tree.specs.declared.program.VarRef.{VarRef}
use Rattle.c_tree.specs.declared.uses.Use.{Use}
use Rattle.c_tree.specs.declared.uses.Use.TheVariants as use_of
use Rattle.c_tree.specs.TypedTree.{ProgramTree}
use Rattle.tree_code_proof.specs.Counted as source
use Rattle.c_tree.specs.Store.{Value}
use Rattle.tree_code_proof.specs.Counted.{World}
use Rattle.tree_code_proof.specs.Evaluated as evaluation
use Rattle.c_tree.specs.Eval.{Env, object_number, points}
use Rattle.tree_code_proof.specs.Executed as execution
use Rattle.c_tree.specs.Labels.{may_break, may_continue}
use Rattle.c_tree.specs.Rounds.{CallsAmong}
use Rattle.c_tree.specs.Uses.{called}
use Rattle.c_tree.specs.WellFormed.{Shape, Signature, Names}
use Rattle.c_tree.specs.WellFormedProgram.{program_calls}
use Rattle.ir_semantics.specs.Outside.{Places}
use Rattle.ir_semantics.specs.Parts.{Does, Flow, Next, Broke, Continued, Returned}
use Rattle.ir_semantics.specs.TreeRun as run
use Rattle.ir_semantics.specs.TreeRun.{Tree}
use Rattle.tree_code_proof.specs.Seats.{Seats}
use Rattle.tree_code_proof.specs.Beside.{Held, Alike}
use Rattle.tree_code_proof.specs.Surroundings.{MayBeCalled, Surrounds}
use Rattle.tree_code_proof.proofs.Growing.{Grows}
use Rattle.tree_code_proof.proofs.Rules.{Post, Rel}
use Rattle.tree_code_proof.proofs.Reading.{Valued}

-- what a call gives: a value and its word, or neither
abbrev pub Given : Seats → List Held → Bool → Post (Option Value) (Option ℕ)
Given seats hs pointing None None w t = Alike seats hs w t
Given seats hs pointing None (Some x) w t = ⊥
Given seats hs pointing (Some v) None w t = ⊥
Given seats hs pointing (Some v) (Some x) w t = Valued seats hs pointing v x w t

-- what a call of a function keeps, whose arguments are held
pub record CallKeeps (seats : Seats) (calls : evaluation.Calls) (does : run.Calls) (f : ℕ) (s : Signature) : Type 0 where
  pub by : (args : List Held) → map (λ h. h.pointing) args ≡ map points s.parameters → (hs : List Held) (w : World) (t : Tree) → Alike seats (args ++ hs) w t
      → Rel (Given seats hs (points s.result)) (calls f (map (λ h. h.value) args) w) (does f (map (λ h. h.word) args) t)

-- the calls of a function, wherever what they reach has open seats
pub record CallsKeep (q : Places) (p : ProgramTree) (f : ℕ) (functions : ℕ → Option Signature) (calls : evaluation.Calls) (does : run.Calls) : Type 0 where
  pub by : (g : ℕ) (s : Signature) → CallsAmong (program_calls p.functions) f g → functions g ≡ Some s → (seats : Seats) → MayBeCalled q p g seats → CallKeeps seats calls does g s
  pub there : (g : ℕ) → CallsAmong (program_calls p.functions) f g → functions g ≢ None
  pub grow : (g : ℕ) (xs : List ℕ) → Grows (does g xs)

-- what is called in these uses the function calls
abbrev pub CallsOf : ProgramTree → ℕ → List Use → Type 0
CallsOf p f us = (g : ℕ) → Contains (called us) g → CallsAmong (program_calls p.functions) f g

called_append : (us vs : List Use) → called (us ++ vs) ≡ called us ++ called vs
called_append [] vs = refl
called_append (use_of.Address r ∷ us) vs = called_append us vs
called_append (use_of.Cases n ∷ us) vs = called_append us vs
called_append (use_of.Call m at ∷ us) vs = ap (λ l. m ∷ l) (called_append us vs)

module _ (p : ProgramTree) (f : ℕ) (us vs : List Use) where
  pub calls_left : CallsOf p f (us ++ vs) → CallsOf p f us
  calls_left h g is = h g (subst (λ l. Contains l g) (sym (called_append us vs)) (elements.Contains-append_left (called us) (called vs) g is))

  pub calls_right : CallsOf p f (us ++ vs) → CallsOf p f vs
  calls_right h g is = h g (subst (λ l. Contains l g) (sym (called_append us vs)) (elements.Contains-append_right (called us) (called vs) g is))

-- how a statement is left, in what encloses it: a value that is returned is held
abbrev pub Left : Seats → List Held → Bool → Enclosing → Post execution.Flow Flow
Left seats hs pointing c execution.Next Next w t = Alike seats hs w t
Left seats hs pointing c execution.Next Broke w t = ⊥
Left seats hs pointing c execution.Next Continued w t = ⊥
Left seats hs pointing c execution.Next Returned w t = ⊥
Left seats hs pointing c execution.Broke Next w t = ⊥
Left seats hs pointing c execution.Broke Broke w t = (may_break c ≡ true) × Alike seats hs w t
Left seats hs pointing c execution.Broke Continued w t = ⊥
Left seats hs pointing c execution.Broke Returned w t = ⊥
Left seats hs pointing c execution.Continued Next w t = ⊥
Left seats hs pointing c execution.Continued Broke w t = ⊥
Left seats hs pointing c execution.Continued Continued w t = (may_continue c ≡ true) × Alike seats hs w t
Left seats hs pointing c execution.Continued Returned w t = ⊥
Left seats hs pointing c (execution.Returned v) Next w t = ⊥
Left seats hs pointing c (execution.Returned v) Broke w t = ⊥
Left seats hs pointing c (execution.Returned v) Continued w t = ⊥
Left seats hs pointing c (execution.Returned v) Returned w t = Given seats hs pointing v t.result w t

-- what a statement keeps, wherever its function runs
pub record Runs (q : Places) (p : ProgramTree) (f : ℕ) (objects : VarRef → Option Shape) (pointing : Bool) (names : Names) (c : Enclosing) (s : Env → source.Does execution.Flow) (does : Does Tree Flow) : Type 0 where
  pub by : (env : Env) (seats : Seats) → Surrounds q p f objects names.object env seats → (hs : List Held) (w : World) (t : Tree) → Alike seats hs w t → Rel (Left seats hs pointing c) (s env w) (does t)
  pub grows : Grows does

-- names that got objects: what surrounds then, and that the objects end again
pub record Entered (q : Places) (p : ProgramTree) (f : ℕ) (objects names : VarRef → Option Shape) (outer : Seats) (hs : List Held) (declared : List VarRef) (before : Env) (w : World) (t : Tree) : Type 0 where
  pub env : Env
  pub numbers : List ℕ
  pub seats : Seats
  pub world : World
  pub gives : execution.enter declared before w ≡ source.Gives (env, numbers) world
  pub surrounds : Surrounds q p f objects names env seats
  pub fresh : AllByRecursion (λ v. world.store.living (object_number env v) ≡ execution.fresh before.function v) declared
  pub alike : Alike seats hs world t
  pub back : (kept : List Held) (v : World) (u : Tree) → Alike seats kept v u → (x : World) × ((execution.leave numbers v ≡ source.Gives (tt {0}) x) × Alike outer kept x u)
