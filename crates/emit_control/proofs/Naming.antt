-- Labels in a table.
use Rattle.std.proofs.Common.{◌≡◌, ◌≢◌, ◌∙◌, ℕ, zero, suc, ◌<◌, ◌==◌, ◌||◌, Bool, true, false, List, [], ◌∷◌, ◌++◌, length, get_or, set, Option, Some, None, refl, sym, ap, eqb-true, get_or-set_same, get_or-set_other}
use mathlib.Core.Path.{fun_ext}
use Rattle.std.specs.Prelude.{slice_get, unwrap_or}
use Rattle.std.proofs.lemmas.Bool.{eqb-false}
use Rattle.std.proofs.lemmas.Option.{unwrap_or-slice_get}
use Rattle.emit_control.specs.Marked.{or_false, is_marked}

more_marked_at : (xs : List Bool) (l : ℕ) → is_marked (xs ++ false ∷ []) l ≡ is_marked xs l
more_marked_at [] zero = refl
more_marked_at [] (suc l) = refl
more_marked_at (x ∷ xs) zero = refl
more_marked_at (x ∷ xs) (suc l) = more_marked_at xs l

-- a label more that isn't named
pub more_marked : (xs : List Bool) → is_marked (xs ++ false ∷ []) ≡ is_marked xs
more_marked xs = fun_ext (more_marked_at xs)

or_else : (o : Option Bool) → or_false o ≡ unwrap_or o false
or_else None = refl
or_else (Some b) = refl

read : (xs : List Bool) (l : ℕ) → is_marked xs l ≡ get_or xs l false
read xs l = or_else (slice_get xs l) ∙ unwrap_or-slice_get xs l false

chosen : (b x z : Bool) → (b ≡ true → z ≡ true) → (b ≡ false → z ≡ x) → z ≡ (b || x)
chosen true x z h k = h refl
chosen false x z h k = k refl

marked_at : (xs : List Bool) (n l : ℕ) → n < length xs → is_marked (set xs n true) l ≡ (l == n || is_marked xs l)
marked_at xs n l within =
    chosen (l == n) (is_marked xs l) (is_marked (set xs n true) l)
    (λ e. let same : l ≡ n = eqb-true l n e in read (set xs n true) l ∙ (rw (same, get_or-set_same)))
    (λ e. let other : l ≢ n = eqb-false l n e in read (set xs n true) l ∙ get_or-set_other xs n l true false other ∙ sym (read xs l))

-- a label that is named
pub now_marked : (xs : List Bool) (n : ℕ) → n < length xs → is_marked (set xs n true) ≡ λ l. l == n || is_marked xs l
now_marked xs n within = fun_ext (λ l. marked_at xs n l within)
