-- Turns of the loop over two lists of types.
use Rattle.std.proofs.Common.{◌≡◌, ◌≢◌, ℕ, suc, ◌+◌, ◌<◌, ◌&&◌, Bool, true, false, List, [], ◌∷◌, drop, get_or, length, refl, ap, ◌∙◌}
use Rattle.c_tree.specs.declared.program.ScalarType.{ScalarType}
use Rattle.c_rules.specs.Kinds.{same_type}
use Rattle.c_rules.specs.Units.{same_types}
use Rattle.c_rules.proofs.Turns.{first_left}

pub same_false : (b : Bool) → (b && false) ≡ false
same_false true = refl
same_false false = refl

-- lists of two lengths aren't the same
pub unlike_lengths : (a b : List ScalarType) → length a ≢ length b → same_types a b ≡ false
unlike_lengths [] [] unlike = absurd (unlike refl)
unlike_lengths [] (y ∷ ys) unlike = refl
unlike_lengths (x ∷ xs) [] unlike = refl
unlike_lengths (x ∷ xs) (y ∷ ys) unlike = ap (λ r. same_type x y && r) (unlike_lengths xs ys (λ e. unlike (ap suc e))) ∙ same_false (same_type x y)

pub same_turn : (a b : List ScalarType) (i : ℕ) (x y : ScalarType) → x ≡ get_or a i x → i < length a → y ≡ get_or b i y → i < length b → same_types (drop i a) (drop i b) ≡ (same_type x y && same_types (drop (i + 1) a) (drop (i + 1) b))
same_turn a b i x y x_is x_below y_is y_below =
    ap (λ l. same_types l (drop i b)) (first_left a i x x_is x_below) ∙ ap (same_types (x ∷ drop (i + 1) a)) (first_left b i y y_is y_below)
