-- Arguments go to parameters: to the objects of a typed program, and to the names of its word tree.
use Rattle.std.proofs.Common.{◌≡◌, ℕ, true, cond, List, [], ◌∷◌, ◌++◌, Some, refl, sym, ap, ◌∙◌, subst}
use Rattle.std.specs.Prelude.{map}
use Rattle.std.specs.List.{AllByRecursion}
use Rattle.std.proofs.lemmas.Bool.{eq-eqb, or_left, or_right}
use Rattle.c_tree.specs.declared.program.VarRef.{VarRef}
use Rattle.c_tree.specs.declared.program.VarRef.TheVariants.{Scalar, Local, Static}
use Rattle.tree_code_proof.specs.Counted as source
use Rattle.tree_code_proof.specs.Counted.{World, store_value}
use Rattle.c_tree.specs.Eval.{Env, object_number, points}
use Rattle.tree_code_proof.specs.Executed as execution
use Rattle.c_tree.specs.TypedTree.{FunctionTree, ProgramTree}
use Rattle.c_tree.specs.WellFormed.{Shape, opened, same_reference, is_among}
use Rattle.c_tree.specs.WellFormedProgram.{IsParameter, kind_of_parameter, object_in, static_names, names_within}
use Rattle.ir_semantics.specs.Outside.{Places, address_of}
use Rattle.ir_semantics.specs.Parts.{Res, Gives, Finished, TooMany, Fails, Does, after}
use Rattle.ir_semantics.specs.TreeRun as run
use Rattle.ir_semantics.specs.TreeRun.{Tree}
use Rattle.tree_code_proof.specs.Seats.{Seats}
use Rattle.tree_code_proof.specs.Beside.{Held, Alike, IsSeatOf}
use Rattle.tree_code_proof.specs.Surroundings.{place_of_name, Surrounds}
use Rattle.tree_code_proof.proofs.Assigning.{write_named}
use Rattle.tree_code_proof.proofs.Parameters.{IsReady, AreReady, stay_ready, parameter_shape}
use Rattle.tree_code_proof.proofs.Reading.{Valued, let_go}
use Rattle.tree_code_proof.proofs.Rules.{Post, Rel}

-- the seats of parameters
seat_is : (q : Places) (f : ℕ) (v : VarRef) (count : ℕ) → IsSeatOf (address_of q f) v (place_of_name q f v count)
seat_is q f (Scalar n) count = refl
seat_is q f (Local n) count = refl
seat_is q f (Static n) count = refl

same_name : (v : VarRef) → same_reference v v ≡ true
same_name (Scalar n) = eq-eqb n n refl
same_name (Local n) = eq-eqb n n refl
same_name (Static n) = eq-eqb n n refl

module _ (q : Places) (p : ProgramTree) (f : ℕ) (g : FunctionTree) (env : Env) (seats : Seats) (h : Surrounds q p f (object_in p g) (opened (object_in p g) g.params (names_within p g)).object env seats) where
  abbrev pub AreSeated : List VarRef → Type 0
  AreSeated vs = AllByRecursion (λ v. IsSeatOf (address_of q f) v (seats.seat (object_number env v))) vs

  seated : (v : VarRef) (s : Shape) → is_among v g.params ≡ true → object_in p g v ≡ Some s → IsSeatOf (address_of q f) v (seats.seat (object_number env v))
  seated v s among is =
      let known = ap (λ b. cond b (object_in p g v) (static_names p v)) among ∙ is in
      subst (IsSeatOf (address_of q f) v) (sym (h.named v s known)) (seat_is q f v s.length)

  all_seated : (vs : List VarRef) → ((v : VarRef) → is_among v vs ≡ true → is_among v g.params ≡ true) → AllByRecursion (IsParameter g) vs → AreSeated vs
  all_seated [] among are = tt
  all_seated (v ∷ vs) among are =
      let s = parameter_shape p g v are.0 in
      (seated v s.0 (among v (or_left (same_reference v v) (is_among v vs) (same_name v))) s.1, all_seated vs (λ r e. among r (or_right (same_reference v r) (is_among r vs) e)) are.1)

  pub parameters_seated : AllByRecursion (IsParameter g) g.params → AreSeated g.params
  parameters_seated are = all_seated g.params (λ v e. e) are

-- what a word tree does behind a part that gives beside one that gave
pub given_then : {A B C D : Type 0} (q : Post A B) (r : Post C D) (a : A) (w : World) (y : Res Tree B) (x : source.Res C) (h : B → Does Tree D) → Rel q (source.Gives a w) y → ((b : B) (t : Tree) → q a b w t → Rel r x (h b t)) → Rel r x (after y h)
given_then q r a w (Gives b t) x h e next = next b t e
given_then q r a w (Finished ending outs work) x h e next = absurd e
given_then q r a w (TooMany outs) x h e next = absurd e
given_then q r a w (Fails outs) x h e next = absurd e

-- behind all parameters, only what was held before the arguments is held
abbrev pub Passed : Seats → List Held → Post (Unit {0}) (Unit {0})
Passed seats hs a b w t = Alike seats hs w t

module _ (q : Places) (f : ℕ) (g : FunctionTree) (env : Env) (seats : Seats) (hs : List Held) where
  stored : (v : VarRef) (x : Held) (args : List Held) (w : World) (t : Tree) → IsSeatOf (address_of q f) v (seats.seat (object_number env v)) → IsReady w (object_number env v) x.pointing → Alike seats (x ∷ args ++ hs) w t
      → Rel (Valued seats (args ++ hs) x.pointing) (source.Gives x.value (store_value (object_number env v) 0 x.value w)) (run.write_name (address_of q f) v x.word t)
  stored v x args w t seat ready a =
      subst (λ c. Rel (Valued seats (args ++ hs) x.pointing) (source.write_cell c (object_number env v) 0 x.value 0 w) (run.write_name (address_of q f) v x.word t)) ready.1
      (write_named seats (address_of q f) v (args ++ hs) w t x.pointing x.value x.word a (object_number env v) 0 seat)

  pub passed : (vs : List VarRef) (args : List Held) (w : World) (t : Tree) → map (λ h. h.pointing) args ≡ map points (map (kind_of_parameter g) vs) → AllByRecursion (λ v. IsSeatOf (address_of q f) v (seats.seat (object_number env v))) vs → AreReady w env g vs
      → Alike seats (args ++ hs) w t → Rel (Passed seats hs) (execution.pass vs (map (λ h. h.value) args) env w) (run.pass (address_of q f) vs (map (λ h. h.word) args) t)
  passed [] [] w t kinds seated ready a = a
  passed [] (x ∷ args) w t kinds seated ready a = absurd cc
  passed (v ∷ vs) [] w t kinds seated ready a = absurd cc
  passed (v ∷ vs) (x ∷ args) w t kinds seated ready a =
      let kind : x.pointing ≡ points (kind_of_parameter g v) = cc in
      let rest : map (λ (h : Held). h.pointing) args ≡ map points (map (kind_of_parameter g) vs) = cc in
      let at = object_number env v in
      given_then (Valued seats (args ++ hs) x.pointing) (Passed seats hs) x.value (store_value at 0 x.value w) (run.write_name (address_of q f) v x.word t) (execution.pass vs (map (λ h. h.value) args) env (store_value at 0 x.value w)) (λ _. run.pass (address_of q f) vs (map (λ h. h.word) args))
      (stored v x args w t seated.0 (subst (IsReady w at) (sym kind) ready.0) a)
      (λ b u e. passed vs args (store_value at 0 x.value w) u rest seated.1 (stay_ready w env g at x.value vs ready.1) (let_go seats (args ++ hs) _ _ u e))
