-- A row in which elements are replaced, one after another.
use Rattle.std.specs.Prelude.{◌≡◌, ◌<◌, ◌≤◌, ℕ, List, length, get_or}

-- the elements before a place are seen as what a function makes of the old ones, and the others are the old ones
abbrev pub IsReplacedTo : {A X : Type 0} (view : A → X) (make : X → X) (i : ℕ) (old new : List A) → Type 0
IsReplacedTo {A = A} view make i old new = record {
  long : length new ≡ length old;
  done : (k : ℕ) (d : A) → k < i → view (get_or new k d) ≡ make (view (get_or old k d));
  kept : (k : ℕ) (d : A) → i ≤ k → get_or new k d ≡ get_or old k d;
}
