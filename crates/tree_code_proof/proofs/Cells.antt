-- Cells of objects, where one is found and where one was set.
use Rattle.std.proofs.Common.{◌≡◌, ◌≢◌, ℕ, zero, suc, Bool, true, false, List, [], ◌∷◌, length, Option, Some, None, refl, ap}
use Rattle.std.specs.Prelude.{if◌then◌else◌, slice_get, slice_set}
use Rattle.std.proofs.lemmas.Option.{none-some, same_Some}
use Rattle.c_tree.specs.Store.{Cell, Obj, is_pointer, same, cell_of}

found_where : (p wanted : Bool) (x : Option Cell) (c : Cell) → (if same p wanted then x else None) ≡ Some c → (p ≡ wanted) × (x ≡ Some c)
found_where true true x c e = (refl, e)
found_where true false x c e = absurd (none-some c e)
found_where false true x c e = absurd (none-some c e)
found_where false false x c e = (refl, e)

-- a cell is found in an object of the wanted kind
pub found : (o : Obj) (i : ℕ) (wanted : Bool) (c : Cell) → cell_of (Some o) i wanted ≡ Some c → (is_pointer o.kind ≡ wanted) × (slice_get o.cells i ≡ Some c)
found o i wanted c e = found_where (is_pointer o.kind) wanted (slice_get o.cells i) c e

pub set_here : (cs : List Cell) (i : ℕ) (x c : Cell) → slice_get (slice_set cs i x) i ≡ Some c → x ≡ c
set_here [] i x c e = absurd (none-some c e)
set_here (d ∷ cs) zero x c e = same_Some x c e
set_here (d ∷ cs) (suc i) x c e = set_here cs i x c e

pub set_apart : (cs : List Cell) (i j : ℕ) (x : Cell) → j ≢ i → slice_get (slice_set cs i x) j ≡ slice_get cs j
set_apart [] i j x ne = refl
set_apart (d ∷ cs) zero zero x ne = absurd (ne refl)
set_apart (d ∷ cs) zero (suc j) x ne = refl
set_apart (d ∷ cs) (suc i) zero x ne = refl
set_apart (d ∷ cs) (suc i) (suc j) x ne = set_apart cs i j x (λ e. ne (ap suc e))

pub set_length : (cs : List Cell) (i : ℕ) (x : Cell) → length (slice_set cs i x) ≡ length cs
set_length [] i x = refl
set_length (d ∷ cs) zero x = refl
set_length (d ∷ cs) (suc i) x = ap suc (set_length cs i x)
