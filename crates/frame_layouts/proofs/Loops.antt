-- One more turn of a loop over a list.
use Rattle.std.proofs.Common.{◌≡◌, ◌<◌, ◌+◌, ◌++◌, ◌∙◌, ℕ, zero, suc, List, [], ◌∷◌, length, map, take, sym, ap, arith}
use Rattle.std.specs.Prelude.{slice_index_or}

more : (n : ℕ) → suc n + 1 ≡ suc (n + 1)
more n = omega arith

-- a loop's list by two functions
pub mapped_further : {A B C : Type 0} (g : B → C) (f : A → B) (xs : List A) (n : ℕ) (x : A) → n < length xs → x ≡ slice_index_or xs n x → map g (map f (take n xs)) ++ g (f x) ∷ [] ≡ map g (map f (take (n + 1) xs))
mapped_further g f [] n x within is = absurd (omega (arith, within))
mapped_further g f (y ∷ ys) zero x within is = ap (λ z. g (f z) ∷ []) is
mapped_further g f (y ∷ ys) (suc n) x within is =
    ap (λ zs. g (f y) ∷ zs) (mapped_further g f ys n x (omega (arith, within)) is) ∙ ap (λ m. map g (map f (take m (y ∷ ys)))) (sym (more n))
