-- A call of a function: parameters get objects and arguments, the body runs, and behind it the caller's state stands again.
use Rattle.std.proofs.Common.{◌≡◌, ℕ, ◌+◌, List, ◌∷◌, ◌++◌, Option, Some, None, refl, sym, subst}
use Rattle.std.specs.Prelude.{map, slice_get}
use Rattle.std.proofs.lemmas.Bool.{false≢true}
use Rattle.std.proofs.lemmas.List.Elements.{recursion_from_All}
use Rattle.c_tree.specs.declared.enclosing.Enclosing.TheVariants as around
use Rattle.c_tree.specs.TypedTree.{FunctionTree, ProgramTree}
use Rattle.tree_code_proof.specs.Counted as source
use Rattle.c_tree.specs.Store.{Value}
use Rattle.tree_code_proof.specs.Counted.{World}
use Rattle.c_tree.specs.Eval as plain
use Rattle.ir_semantics.specs.SourceWork.{CallsWork}
use Rattle.tree_code_proof.proofs.CountedStatements.{function_counted}
use Rattle.c_tree.specs.Eval.{Env, points}
use Rattle.tree_code_proof.specs.Executed as execution
use Rattle.c_tree.specs.Rounds.{CallsAmong, HasNoRound}
use Rattle.c_tree.specs.SourceRun.{nothing_named, result_of}
use Rattle.c_tree.specs.WellFormed.{opened}
use Rattle.c_tree.specs.WellFormedProgram.{IsFunction, IsParameter, program_calls, kind_of_parameter, object_in, names_within}
use Rattle.tree_code.specs.Lowered.{lowered_statement, lowered_function}
use Rattle.tree_code.specs.WordTree.{FunctionCode}
use Rattle.ir_semantics.specs.Outside.{Frame, Places, address_of}
use Rattle.ir_semantics.specs.Parts.{Res, Gives, Finished, TooMany, Fails, Does, after, Flow, Next, Broke, Continued, Returned}
use Rattle.ir_semantics.specs.TreeRun as run
use Rattle.ir_semantics.specs.TreeRun.{Tree}
use Rattle.tree_code_proof.specs.Seats.{Seats}
use Rattle.tree_code_proof.specs.Beside.{Held, Alike}
use Rattle.tree_code_proof.specs.Surroundings.{ArePlaces, MayBeCalled}
use Rattle.tree_code_proof.proofs.Growing.{Grows, prefix_refl, fail_grows, bind_grows}
use Rattle.tree_code_proof.proofs.Rules.{Rel, rel_after}
use Rattle.tree_code_proof.proofs.Interfaces.{Given, Left, Runs, Entered}
use Rattle.tree_code_proof.proofs.Callees.{inner_seats, surrounds_called}
use Rattle.tree_code_proof.proofs.Turning.{on_entry, on_return}
use Rattle.tree_code_proof.proofs.Parameters.{parameters_ready, parameters_new}
use Rattle.tree_code_proof.proofs.Opening.{enter_keeps}
use Rattle.tree_code_proof.proofs.Passing.{Passed, passed, parameters_seated}

-- what is asked of the body of a function
abbrev pub BodyKeeps : Places → ProgramTree → ℕ → ℕ → FunctionTree → plain.Calls → CallsWork → run.Calls → Type 0
BodyKeeps q p n f g calls work does =
    Runs q p f (object_in p g) (points g.result) (opened (object_in p g) g.params (names_within p g)) around.Body (λ env. execution.exec calls work n g.body env) (run.exec does (address_of q f) q g.locals n (lowered_statement g.body))

-- a part behind two others
pub after_after : {A B C : Type 0} (y : Res Tree A) (h : A → Does Tree B) (k : B → Does Tree C) → after y (λ a t. after (h a t) k) ≡ after (after y h) k
after_after (Gives a t) h k = refl
after_after (Finished ending outs work) h k = refl
after_after (TooMany outs) h k = refl
after_after (Fails outs) h k = refl

back_grows : (q : Places) (f : ℕ) (g : FunctionCode) (caller : Frame) (flow : Flow) → Grows (run.back q f g caller flow)
back_grows q f g caller Next = record { by = λ v. prefix_refl v.outside.outs }
back_grows q f g caller Broke = fail_grows
back_grows q f g caller Continued = fail_grows
back_grows q f g caller Returned = record { by = λ v. prefix_refl v.outside.outs }

-- a function of the program, whose body keeps its run
module _ (q : Places) (p : ProgramTree) (places : ArePlaces q p) (no_round : HasNoRound (CallsAmong (program_calls p.functions))) (n f : ℕ) (g : FunctionTree) (is : slice_get p.functions f ≡ Some g) (function : IsFunction p g) (calls : plain.Calls) (work : CallsWork) (does : run.Calls) (body : BodyKeeps q p n f g calls work does) (seats : Seats) (may : MayBeCalled q p f seats) (hs args : List Held) (w : World) (t : Tree) (a : Alike seats (args ++ hs) w t) where
  abbrev inner : Seats
  inner = inner_seats q f g w.store.living w.store.made seats

  abbrev start : Tree
  start = run.entered q f (lowered_function g) t

  abbrev counted : World
  counted = record w { work = w.work + 10 }

  abbrev HasEntered : Type 0
  HasEntered = Entered q p f (object_in p g) (opened (object_in p g) g.params (names_within p g)).object inner (args ++ hs) g.params (nothing_named g) counted start

  module _ (e : HasEntered) where
    -- the objects of parameters end, and the value is given
    returned : (v : Option Value) (r : Option ℕ) (x : World) (u : Tree) → Given e.seats hs (points g.result) v r x u
        → Rel (Given seats hs (points g.result)) (source.after (execution.leave e.numbers x) (λ _. source.give v)) (Gives r (run.left q f (lowered_function g) t.frame u))
    returned None None x u h =
        let b = e.back hs x u h in
        subst (λ y. Rel (Given seats hs (points g.result)) (source.after y (λ _. source.give None)) (Gives None (run.left q f (lowered_function g) t.frame u))) (sym b.1.0) (on_return q p f g is seats may (args ++ hs) w t a hs b.0 u b.1.1)
    returned None (Some y) x u h = absurd h
    returned (Some v) None x u h = absurd h
    returned (Some v) (Some y) x u h =
        let kept : List Held = record { pointing = points g.result; value = v; word = y } ∷ hs in
        let b = e.back kept x u h in
        subst (λ z. Rel (Given seats hs (points g.result)) (source.after z (λ _. source.give (Some v))) (Gives (Some y) (run.left q f (lowered_function g) t.frame u))) (sym b.1.0) (on_return q p f g is seats may (args ++ hs) w t a kept b.0 u b.1.1)

    -- a body ends, or is left by a return
    ending : (flow : execution.Flow) (way : Flow) (x : World) (u : Tree) → Left e.seats hs (points g.result) around.Body flow way x u
        → Rel (Given seats hs (points g.result)) (source.after (execution.leave e.numbers x) (λ _. source.give (result_of flow))) (run.back q f (lowered_function g) t.frame way u)
    ending execution.Next Next x u h = returned None None x u h
    ending execution.Next Broke x u h = absurd h
    ending execution.Next Continued x u h = absurd h
    ending execution.Next Returned x u h = absurd h
    ending execution.Broke Next x u h = absurd h
    ending execution.Broke Broke x u h = absurd (false≢true h.0)
    ending execution.Broke Continued x u h = absurd h
    ending execution.Broke Returned x u h = absurd h
    ending execution.Continued Next x u h = absurd h
    ending execution.Continued Broke x u h = absurd h
    ending execution.Continued Continued x u h = absurd (false≢true h.0)
    ending execution.Continued Returned x u h = absurd h
    ending (execution.Returned v) Next x u h = absurd h
    ending (execution.Returned v) Broke x u h = absurd h
    ending (execution.Returned v) Continued x u h = absurd h
    ending (execution.Returned v) Returned x u h = returned v u.result x u h

    -- the body behind the arguments
    body_kept : (x : World) (u : Tree) → Alike e.seats hs x u
        → Rel (Given seats hs (points g.result)) (source.after (execution.exec calls work n g.body e.env x) (λ flow. source.◌>>=◌ (execution.leave e.numbers) (λ _. source.give (result_of flow))))
        (after (run.exec does (address_of q f) q g.locals n (lowered_statement g.body) u) (run.back q f (lowered_function g) t.frame))
    body_kept x u b =
        rel_after (Left e.seats hs (points g.result) around.Body) (Given seats hs (points g.result)) (execution.exec calls work n g.body e.env x) (run.exec does (address_of q f) q g.locals n (lowered_statement g.body) u)
        (λ flow. source.◌>>=◌ (execution.leave e.numbers) (λ _. source.give (result_of flow))) (run.back q f (lowered_function g) t.frame) (body.by e.env e.seats e.surrounds hs x u b) (back_grows q f (lowered_function g) t.frame) ending

    abbrev rest_of : Env × List ℕ → source.Does (Option Value)
    rest_of d = source.◌>>=◌ (execution.pass g.params (map (λ h. h.value) args) d.0) (λ _. source.◌>>=◌ (execution.exec calls work n g.body d.0) (λ flow. source.◌>>=◌ (execution.leave d.1) (λ _. source.give (result_of flow))))

    entered_kept : map (λ h. h.pointing) args ≡ map points (map (kind_of_parameter g) g.params)
        → Rel (Given seats hs (points g.result)) (source.after (execution.enter g.params (nothing_named g) counted) rest_of) (run.called does q n f (Some (lowered_function g)) (map (λ h. h.word) args) t)
    entered_kept kinds =
        let are = recursion_from_All (IsParameter g) g.params function.parameters in
        let xs = map (λ (h : Held). h.word) args in
        let does_body : Does Tree Flow = run.exec does (address_of q f) q g.locals n (lowered_statement g.body) in
        subst (λ r. Rel (Given seats hs (points g.result)) (source.after r rest_of) (run.called does q n f (Some (lowered_function g)) xs t)) (sym e.gives)
        (subst (λ y. Rel (Given seats hs (points g.result)) (rest_of (e.env, e.numbers) e.world) y) (after_after (run.pass (address_of q f) g.params xs start) (λ _. does_body) (run.back q f (lowered_function g) t.frame))
        (rel_after (Passed e.seats hs) (Given seats hs (points g.result)) (execution.pass g.params (map (λ h. h.value) args) e.env e.world) (run.pass (address_of q f) g.params xs start)
        (λ _. source.◌>>=◌ (execution.exec calls work n g.body e.env) (λ flow. source.◌>>=◌ (execution.leave e.numbers) (λ _. source.give (result_of flow)))) (λ _ u. after (does_body u) (run.back q f (lowered_function g) t.frame))
        (passed q f g e.env e.seats hs g.params args e.world start kinds (parameters_seated q p f g e.env e.seats e.surrounds are) (parameters_ready g e.world e.env g.params are e.fresh) e.alike)
        (λ _. bind_grows body.grows (back_grows q f (lowered_function g) t.frame))
        (λ _ _ x u b. body_kept x u b)))

  pub call_kept : map (λ h. h.pointing) args ≡ map points (map (kind_of_parameter g) g.params)
      → Rel (Given seats hs (points g.result)) (execution.call_function calls work n (Some g) (map (λ h. h.value) args) w) (run.called does q n f (Some (lowered_function g)) (map (λ h. h.word) args) t)
  call_kept kinds =
      let values = map (λ (h : Held). h.value) args in
      subst (λ c. Rel (Given seats hs (points g.result)) (c w) (run.called does q n f (Some (lowered_function g)) (map (λ h. h.word) args) t)) (sym (function_counted calls work n g values))
      (entered_kept
      (enter_keeps q p f g is places (names_within p g) (nothing_named g) inner (args ++ hs) counted start g.params (parameters_new p g function) (surrounds_called q p f g is seats may w.store.living w.store.made places no_round) (on_entry q p f g is seats may (args ++ hs) w t a))
      kinds)
