-- The objects of parameters: each is made where its function is entered, of one cell of its type, and has its place.
use Rattle.std.proofs.Common.{◌≡◌, ℕ, zero, suc, ◌<◌, Bool, true, false, cond, List, [], ◌∷◌, length, Option, Some, None, refl, sym, ap, ◌∙◌, arith}
use Rattle.std.specs.Prelude.{◌==◌, slice_get, slice_set, replicate}
use Rattle.std.specs.List.{AllByRecursion}
use Rattle.std.proofs.lemmas.Bool.{eqb-true}
use Rattle.std.proofs.lemmas.List.Elements.{All-weaker}
use Rattle.std.proofs.lemmas.Option.{none-some}
use Rattle.c_tree.specs.declared.program.VarRef.{VarRef}
use Rattle.c_tree.specs.declared.program.VarRef.TheVariants.{Scalar, Local, Static}
use Rattle.c_tree.specs.TypedTree.{FunctionTree, ProgramTree}
use Rattle.c_tree.specs.Store.{Value, Cell, Unset, Holds, Obj, is_pointer, same, cell_of, with_cell}
use Rattle.tree_code_proof.specs.Counted.{World, store_value}
use Rattle.c_tree.specs.Eval.{Env, object_number, points}
use Rattle.c_tree.specs.Exec.{fresh, unset_scalar, unset_object}
use Rattle.c_tree.specs.WellFormed.{Shape, IsThere, IsNew, AreNew}
use Rattle.c_tree.specs.WellFormedProgram.{IsFunction, IsParameter, kind_of_parameter, object_kind, scalar_shape, object_shape, object_in, names_within}
use Rattle.tree_code_proof.proofs.Cells.{found}

-- an object that has a first cell, read as a pointer or as a word
abbrev pub IsReady : World → ℕ → Bool → Type 0
IsReady w object wanted = (c : Cell) × (cell_of (w.store.living object) 0 wanted ≡ Some c)

-- parameters that are ready
abbrev pub AreReady : World → Env → FunctionTree → List VarRef → Type 0
AreReady w env g ps = AllByRecursion (λ v. IsReady w (object_number env v) (points (kind_of_parameter g v))) ps

-- a value that is stored leaves objects ready
same_as : (b : Bool) → same b b ≡ true
same_as true = refl
same_as false = refl

first_set : (o : Obj) (cells : List Cell) (wanted : Bool) (v : Value) (c : Cell) → is_pointer o.kind ≡ wanted → slice_get cells 0 ≡ Some c → cell_of (Some (record o { cells = slice_set cells 0 (Holds v) })) 0 wanted ≡ Some (Holds v)
first_set o [] wanted v c is get = absurd (none-some c get)
first_set o (d ∷ ds) wanted v c is get = ap (λ b. cond b (Some (Holds v)) None) (ap (λ b. same b wanted) is ∙ same_as wanted)

set_ready : (o : Option Obj) (wanted : Bool) (v : Value) (c : Cell) → cell_of o 0 wanted ≡ Some c → (d : Cell) × (cell_of (with_cell o 0 v) 0 wanted ≡ Some d)
set_ready None wanted v c e = absurd (none-some c e)
set_ready (Some o) wanted v c e = let h = found o 0 wanted c e in (Holds v, first_set o o.cells wanted v c h.0 h.1)

stored_by : (w : World) (object k : ℕ) (wanted : Bool) (v : Value) (b : Bool) → (k == object) ≡ b → IsReady w k wanted → (d : Cell) × (cell_of (cond b (with_cell (w.store.living object) 0 v) (w.store.living k)) 0 wanted ≡ Some d)
stored_by w object k wanted v true e h = set_ready (w.store.living object) wanted v h.0 (ap (λ j. cell_of (w.store.living j) 0 wanted) (sym (eqb-true k object e)) ∙ h.1)
stored_by w object k wanted v false e h = h

pub stays_ready : (w : World) (object k : ℕ) (wanted : Bool) (v : Value) → IsReady w k wanted → IsReady (store_value object 0 v w) k wanted
stays_ready w object k wanted v h = stored_by w object k wanted v (k == object) refl h

pub stay_ready : (w : World) (env : Env) (g : FunctionTree) (object : ℕ) (v : Value) (ps : List VarRef) → AreReady w env g ps → AreReady (store_value object 0 v w) env g ps
stay_ready w env g object v [] h = tt
stay_ready w env g object v (p ∷ ps) h = (stays_ready w object (object_number env p) (points (kind_of_parameter g p)) v h.0, stay_ready w env g object v ps h.1)

-- an element below the length
pub there : {X : Type 0} (xs : List X) (n : ℕ) → n < length xs → (x : X) × (slice_get xs n ≡ Some x)
there [] n lt = absurd (omega (arith, lt))
there (x ∷ xs) zero lt = (x, refl)
there (x ∷ xs) (suc n) lt = there xs n (omega (arith, lt))

-- a new object of a parameter
fresh_ready : (g : FunctionTree) (v : VarRef) (o : Option Obj) → IsParameter g v → o ≡ fresh g v → (c : Cell) × (cell_of o 0 (points (kind_of_parameter g v)) ≡ Some c)
fresh_ready g (Scalar n) o h is =
    let kind = there g.scalars n h in (
      Unset,
      ap (λ x. cell_of x 0 (points (slice_get g.scalars n))) (is ∙ ap unset_scalar kind.1) ∙ ap (λ x. cond (same (is_pointer kind.0) (points x)) (Some Unset) None) kind.1 ∙ ap (λ b. cond b (Some Unset) None) (same_as (is_pointer kind.0)),
    )
fresh_ready g (Local n) o h is =
    let r = h.0 in (
      Unset,
      ap (λ x. cell_of x 0 (points (object_kind (slice_get g.locals n)))) (is ∙ ap unset_object h.1) ∙ ap (λ x. cond (same (is_pointer r.kind) (points (object_kind x))) (slice_get (replicate r.length Unset) 0) None) h.1
          ∙ ap (λ b. cond b (slice_get (replicate r.length Unset) 0) None) (same_as (is_pointer r.kind))
          ∙ ap (λ l. slice_get (replicate l Unset) 0) h.2,
    )
fresh_ready g (Static n) o h is = absurd h

pub parameters_ready : (g : FunctionTree) (w : World) (env : Env) (vs : List VarRef) → AllByRecursion (IsParameter g) vs → AllByRecursion (λ v. w.store.living (object_number env v) ≡ fresh g v) vs → AreReady w env g vs
parameters_ready g w env [] h new = tt
parameters_ready g w env (v ∷ vs) h new = (fresh_ready g v (w.store.living (object_number env v)) h.0 new.0, parameters_ready g w env vs h.1 new.1)

-- the shapes of parameters, and that a call opens them anew
pub parameter_shape : (p : ProgramTree) (g : FunctionTree) (v : VarRef) → IsParameter g v → (s : Shape) × (object_in p g v ≡ Some s)
parameter_shape p g (Scalar n) h = let kind = there g.scalars n h in (record { kind = kind.0; length = 1 }, ap scalar_shape kind.1)
parameter_shape p g (Local n) h = (record { kind = h.0.kind; length = h.0.length }, ap object_shape h.1)
parameter_shape p g (Static n) h = absurd h

is_there : (x : Option Shape) (s : Shape) → x ≡ Some s → IsThere x
is_there None s e = absurd (none-some s e)
is_there (Some o) s e = tt

is_new : (p : ProgramTree) (g : FunctionTree) (v : VarRef) → IsParameter g v → IsNew (object_in p g) (names_within p g) v
is_new p g (Scalar n) h = let s = parameter_shape p g (Scalar n) h in record { automatic = tt; there = is_there (object_in p g (Scalar n)) s.0 s.1; new = refl }
is_new p g (Local n) h = let s = parameter_shape p g (Local n) h in record { automatic = tt; there = is_there (object_in p g (Local n)) s.0 s.1; new = refl }
is_new p g (Static n) h = absurd h

pub parameters_new : (p : ProgramTree) (g : FunctionTree) → IsFunction p g → AreNew (object_in p g) (names_within p g) g.params
parameters_new p g h = record { differ = h.differ; each = All-weaker (IsParameter g) (IsNew (object_in p g) (names_within p g)) (is_new p g) g.params h.parameters }
