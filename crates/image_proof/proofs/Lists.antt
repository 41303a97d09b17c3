-- What stands in lists.
use Rattle.std.proofs.Common.{◌≡◌, ◌<◌, ℕ, zero, suc, ◌||◌, Bool, true, false, true≢false, List, [], ◌∷◌, length, Some, refl, sym, ap, ◌∙◌, zero-lt-suc, eqb-true, arith}
use Rattle.std.specs.Prelude.{◌==◌, slice_get, map, option_map, Contains}
use Rattle.std.proofs.lemmas.Option.{slice_get-map}
use Rattle.acc_select.specs.IsSelected.{is_listed}
use Rattle.mem_plan.specs.DataNeeds.{has_any}

pub element_there : {X : Type 0} (xs : List X) (n : ℕ) → n < length xs → (x : X) × (slice_get xs n ≡ Some x)
element_there [] n less = absurd (omega (arith, less))
element_there (x ∷ xs) zero less = (x, refl)
element_there (x ∷ xs) (suc n) less = element_there xs n (omega (arith, less))

pub mapped_there : {X Y : Type 0} (f : X → Y) (xs : List X) (n : ℕ) (x : X) → slice_get xs n ≡ Some x → slice_get (map f xs) n ≡ Some (f x)
mapped_there f xs n x is = slice_get-map f xs n ∙ ap (option_map f) is

-- an element is one of the list behind another one
behind_one : (m n : ℕ) (ms : List ℕ) → Contains ms n → Contains (m ∷ ms) n
behind_one m n ms h = let less = h.1 in (suc h.0, omega (arith, less), h.2)

listed_by : (n m : ℕ) (ms : List ℕ) → (is_listed n ms ≡ true → Contains ms n) → (b : Bool) → (n == m) ≡ b → (b || is_listed n ms) ≡ true → Contains (m ∷ ms) n
listed_by n m ms rest true is e = (0, zero-lt-suc (length ms), sym (eqb-true n m is))
listed_by n m ms rest false is e = behind_one m n ms (rest e)

pub listed_contained : (n : ℕ) (ms : List ℕ) → is_listed n ms ≡ true → Contains ms n
listed_contained n [] e = absurd (true≢false (sym e))
listed_contained n (m ∷ ms) e = listed_by n m ms (listed_contained n ms) (n == m) refl e

pub contained_any : (n : ℕ) (ms : List ℕ) → Contains ms n → has_any ms ≡ true
contained_any n [] h = let less = h.1 in absurd (omega (arith, less))
contained_any n (m ∷ ms) h = refl
