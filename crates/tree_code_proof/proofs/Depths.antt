-- Calls that are nested at most so deep keep their runs, as bodies do over calls that are one level less deep.
use Rattle.std.proofs.Common.{◌≡◌, ℕ, zero, suc, List, ◌++◌, Option, Some, None, refl, sym, ap, ◌∙◌, subst}
use Rattle.std.specs.Prelude.{◌≢◌, All, map, option_map, slice_get}
use Rattle.std.proofs.lemmas.Option.{none-some, same_Some, slice_get-map, slice_get_within, get_or_from_slice_get}
use Rattle.c_tree.specs.TypedTree.{FunctionTree, ProgramTree}
use Rattle.tree_code_proof.specs.Counted.{World}
use Rattle.c_tree.specs.Eval as plain
use Rattle.ir_semantics.specs.SourceWork.{CallsWork, call_within_work}
use Rattle.tree_code_proof.specs.Evaluated as evaluation
use Rattle.tree_code_proof.specs.Executed as execution
use Rattle.c_tree.specs.Eval.{points}
use Rattle.c_tree.specs.Rounds.{CallsAmong}
use Rattle.c_tree.specs.SourceRun as source_run
use Rattle.c_tree.specs.WellFormed.{Signature}
use Rattle.c_tree.specs.WellFormedProgram.{IsFunction, IsProgram, program_calls, kind_of_parameter, signature, names_within}
use Rattle.tree_code.specs.Lowered.{lowered_function}
use Rattle.ir_semantics.specs.Outside.{Places}
use Rattle.ir_semantics.specs.TreeRun as run
use Rattle.ir_semantics.specs.TreeRun.{Tree}
use Rattle.tree_code_proof.specs.Seats.{Seats}
use Rattle.tree_code_proof.specs.Beside.{Held, Alike}
use Rattle.tree_code_proof.specs.Surroundings.{ArePlaces, MayBeCalled}
use Rattle.tree_code_proof.proofs.GrowingStatements.{calls_grow}
use Rattle.tree_code_proof.proofs.Rules.{Rel}
use Rattle.tree_code_proof.proofs.Interfaces.{Given, CallKeeps, CallsKeep}
use Rattle.tree_code_proof.proofs.Parameters.{there}
use Rattle.tree_code_proof.proofs.Calling.{BodyKeeps, call_kept}

-- what is asked of bodies: each keeps its run wherever the calls of its function do
abbrev pub BodiesKeep : Places → ProgramTree → ℕ → Type 0
BodiesKeep q p n = (f : ℕ) (g : FunctionTree) → slice_get p.functions f ≡ Some g → (calls : plain.Calls) (work : CallsWork) (does : run.Calls) → CallsKeep q p f (names_within p g).function (evaluation.calling calls work) does → BodyKeeps q p n f g calls work does

-- what is said of all of them is said of each
pub element_of : {X : Type 0} (P : X → Type 0) (xs : List X) → All P xs → (m : ℕ) (x : X) → slice_get xs m ≡ Some x → P x
element_of P xs all m x is = subst P (get_or_from_slice_get xs m x x is) (all m x (slice_get_within xs m x is))

module _ (q : Places) (p : ProgramTree) (places : ArePlaces q p) (is : IsProgram p) (n : ℕ) (bodies : BodiesKeep q p n) where
  -- a function that is called is there
  callee_there : (f g : ℕ) → CallsAmong (program_calls p.functions) f g → signature (slice_get p.functions g) ≢ None
  callee_there f g call none = let k = there p.functions g (is.bodies f g call) in none-some _ (sym none ∙ ap signature k.1)

  abbrev SomeKeep : ℕ → Type 0
  SomeKeep depth = (f : ℕ) (k : FunctionTree) → CallsKeep q p f (names_within p k).function (evaluation.calling (source_run.call_within p n depth) (call_within_work p n depth)) (run.call_within q (map lowered_function p.functions) n depth)

  module _ (depth : ℕ) (lower : SomeKeep depth) where
    -- one level deeper
    pub function_called : (f : ℕ) (g : FunctionTree) → slice_get p.functions f ≡ Some g → (seats : Seats) → MayBeCalled q p f seats → (args : List Held) → map (λ h. h.pointing) args ≡ map points (map (kind_of_parameter g) g.params) → (hs : List Held) (w : World) (t : Tree) → Alike seats (args ++ hs) w t
        → Rel (Given seats hs (points g.result)) (execution.call_function (source_run.call_within p n depth) (call_within_work p n depth) n (Some g) (map (λ h. h.value) args) w) (run.called (run.call_within q (map lowered_function p.functions) n depth) q n f (Some (lowered_function g)) (map (λ h. h.word) args) t)
    function_called f g at seats may args kinds hs w t a =
        call_kept q p places is.no_cycle n f g at (element_of (IsFunction p) p.functions is.functions f g at) (source_run.call_within p n depth) (call_within_work p n depth) (run.call_within q (map lowered_function p.functions) n depth) (bodies f g at _ _ _ (lower f g)) seats may hs args w t a kinds

    slot_called : (f : ℕ) (slot : Option FunctionTree) (s : Signature) → slice_get p.functions f ≡ slot → signature slot ≡ Some s → (seats : Seats) → MayBeCalled q p f seats → (args : List Held) → map (λ h. h.pointing) args ≡ map points s.parameters → (hs : List Held) (w : World) (t : Tree) → Alike seats (args ++ hs) w t
        → Rel (Given seats hs (points s.result)) (execution.call_function (source_run.call_within p n depth) (call_within_work p n depth) n slot (map (λ h. h.value) args) w) (run.called (run.call_within q (map lowered_function p.functions) n depth) q n f (option_map lowered_function slot) (map (λ h. h.word) args) t)
    slot_called f None s at sig seats may args kinds hs w t a = absurd (none-some s sig)
    slot_called f (Some g) s at sig seats may args kinds hs w t a =
        let same = same_Some (record { parameters = map (kind_of_parameter g) g.params; result = g.result }) s sig in
        subst (λ (s : Signature). Rel (Given seats hs (points s.result)) (execution.call_function (source_run.call_within p n depth) (call_within_work p n depth) n (Some g) (map (λ h. h.value) args) w) (run.called (run.call_within q (map lowered_function p.functions) n depth) q n f (Some (lowered_function g)) (map (λ h. h.word) args) t)) same
        (function_called f g at seats may args (kinds ∙ ap (λ (s : Signature). map points s.parameters) (sym same)) hs w t a)

    deeper : (f : ℕ) (s : Signature) → signature (slice_get p.functions f) ≡ Some s → (seats : Seats) → MayBeCalled q p f seats → CallKeeps seats (evaluation.calling (source_run.call_within p n (suc depth)) (call_within_work p n (suc depth))) (run.call_within q (map lowered_function p.functions) n (suc depth)) f s
    deeper f s sig seats may = record {
      by = λ args kinds hs w t a.
          subst (λ slot. Rel (Given seats hs (points s.result)) (execution.call_function (source_run.call_within p n depth) (call_within_work p n depth) n (slice_get p.functions f) (map (λ h. h.value) args) w) (run.called (run.call_within q (map lowered_function p.functions) n depth) q n f slot (map (λ h. h.word) args) t))
          (sym (slice_get-map lowered_function p.functions f)) (slot_called f (slice_get p.functions f) s refl sig seats may args kinds hs w t a);
    }

  pub calls_kept : (depth : ℕ) → SomeKeep depth
  calls_kept zero f k = record {
    by = λ g s call sig seats may. record { by = λ args kinds hs w t a. sym a.outs };
    there = λ g call. callee_there f g call;
    grow = λ g xs. calls_grow q (map lowered_function p.functions) n zero g xs;
  }
  calls_kept (suc depth) f k = record {
    by = λ g s call sig seats may. deeper depth (calls_kept depth) g s sig seats may;
    there = λ g call. callee_there f g call;
    grow = λ g xs. calls_grow q (map lowered_function p.functions) n (suc depth) g xs;
  }
