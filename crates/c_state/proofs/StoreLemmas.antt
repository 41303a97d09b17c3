-- The objects of numbers as functions, where one is found, ends, is changed or is made.
use Rattle.std.proofs.Common.{◌≡◌, ℕ, suc, Bool, true, false, not, cond, List, [], ◌∷◌, ◌++◌, set, Option, Some, None, refl, sym, ap, ◌∙◌}
use Rattle.std.specs.Prelude.{◌==◌, nat_lt, if◌then◌else◌, slice_get, slice_set}
use mathlib.Core.Bool.{beq}
use Rattle.std.specs.List.{remove}
use mathlib.Core.Path.{fun_ext}
use Rattle.c_tree.specs.Store as runs
use Rattle.c_state.specs.declared.value.Living.{Living}
use Rattle.c_state.specs.Objects.{living_object, living_of, AreNumbered}
use Rattle.c_state.proofs.ObjectLemmas.{found_at, without, changed, added}

-- the object that is found
pub there : (os : List Living) (made number place : ℕ) (o : Living) → AreNumbered 0 made os → slice_get os place ≡ Some o → o.number ≡ number
    → living_of os number ≡ Some (living_object o)
there os made number place o numbered at is = ap (living_of os) (sym is) ∙ (found_at os 0 made place o numbered at).1

-- objects with equal functions make equal stores
pub same_store : (made : ℕ) (f g : ℕ → Option runs.Obj) → f ≡ g → ◌≡◌ {A = runs.Store} (record { made = made; living = f }) (record { made = made; living = g })
same_store made f g same = ap {B = runs.Store} (λ (h : ℕ → Option runs.Obj). record { made = made; living = h }) same

-- it ends
pub gone : (os : List Living) (made number place : ℕ) (o : Living) → AreNumbered 0 made os → slice_get os place ≡ Some o → o.number ≡ number
    → living_of (remove os place) ≡ (λ k. if k == number then None else living_of os k)
gone os made number place o numbered at is =
    fun_ext (λ k. without os 0 made place o numbered at k ∙ ap (λ n. cond (k == n) None (living_of os k)) is)

-- it changes
pub written : (os : List Living) (made number place : ℕ) (o new : Living) (object : Option runs.Obj) → AreNumbered 0 made os → slice_get os place ≡ Some o → o.number ≡ number
    → new.number ≡ o.number → Some (living_object new) ≡ object
    → living_of (set os place new) ≡ (λ k. if k == number then object else living_of os k)
written os made number place o new object numbered at is same gives =
    fun_ext (λ k. changed os 0 made place o new numbered at same k ∙ ap (λ n. cond (k == n) (Some (living_object new)) (living_of os k)) is ∙ ap (λ x. cond (k == number) x (living_of os k)) gives)

-- one is made
pub with_one : (os : List Living) (o : Living) → AreNumbered 0 o.number os
    → living_of (os ++ o ∷ []) ≡ (λ k. if k == o.number then Some (living_object o) else living_of os k)
with_one os o numbered = fun_ext (added os 0 o numbered)

-- its cells change, and its kind stays
pub holding : (os : List Living) (made number place : ℕ) (o : Living) (i : ℕ) (v : runs.Value) (cells : List runs.Cell) → AreNumbered 0 made os → slice_get os place ≡ Some o → o.number ≡ number
    → cells ≡ slice_set o.cells i (runs.Holds v) → Some (record { cells = cells; kind = o.kind }) ≡ runs.with_cell (living_of os number) i v
holding os made number place o i v cells numbered at is written =
    ap (λ (l : List runs.Cell). Some (record { cells = l; kind = o.kind })) written
    ∙ ap (λ x. runs.with_cell x i v) (sym (there os made number place o numbered at is))

-- the store with a new object
pub made_store : (os after : List Living) (made : ℕ) (o : Living) → AreNumbered 0 o.number os → after ≡ os ++ o ∷ [] → made ≡ suc o.number
    → ◌≡◌ {A = runs.Store} (record { made = made; living = living_of after }) (runs.with_new (living_object o) (record { made = o.number; living = living_of os }))
made_store os after made o numbered is next =
    ap {B = runs.Store} (λ n. record { made = n; living = living_of after }) next ∙ same_store (suc o.number) _ _ (ap living_of is ∙ with_one os o numbered)

-- whether an object is of the wanted kind, as the code tests it
kind_differs : (a b : Bool) → not (beq a b) ≡ true → runs.same a b ≡ false
kind_differs true true test = absurd (cc test)
kind_differs true false test = refl
kind_differs false true test = refl
kind_differs false false test = absurd (cc test)

kind_agrees : (a b : Bool) → not (beq a b) ≡ false → runs.same a b ≡ true
kind_agrees true true test = refl
kind_agrees true false test = absurd (cc test)
kind_agrees false true test = absurd (cc test)
kind_agrees false false test = refl

-- an object of the other kind has no cell
pub cell_refused : (o : Living) (i : ℕ) (wanted : Bool) → not (beq (nat_lt 0 o.kind.stars) wanted) ≡ true
    → None ≡ runs.cell_of (Some (living_object o)) i wanted
cell_refused o i wanted test =
    ap (λ b. cond b (slice_get o.cells i) None) (sym (kind_differs _ _ test))

-- one of the wanted kind has its cells
pub cell_given : (o : Living) (i : ℕ) (wanted : Bool) (r : Option runs.Cell) → not (beq (nat_lt 0 o.kind.stars) wanted) ≡ false
    → r ≡ slice_get o.cells i → r ≡ runs.cell_of (Some (living_object o)) i wanted
cell_given o i wanted r test is =
    is ∙ ap (λ b. cond b (slice_get o.cells i) None) (sym (kind_agrees _ _ test))
