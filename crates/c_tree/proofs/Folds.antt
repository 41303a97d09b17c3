-- Loops that make a value of a row, element by element: one turn carries what is made of the part before a place one element further.
use Rattle.std.proofs.Common.{◌≡◌, ◌<◌, ◌+◌, ◌++◌, ◌∷◌, [], ℕ, List, length, take, get_or, ap, ◌∙◌, sym, arith}
use Rattle.std.proofs.lemmas.List.{take_more, length-take-le}
use Rattle.c_tree.specs.Monoids.{IsMonoid}

-- the part before the next place is the part before this one, with its element
one_more : {A : Type 0} (xs : List A) (i : ℕ) (x : A) → x ≡ get_or xs i x → i < length xs → take (i + 1) xs ≡ take i xs ++ x ∷ []
one_more xs i x is within = take_more xs i x within ∙ ap (λ y. take i xs ++ y ∷ []) (sym is)

-- a value by steps, of which each may know how many elements stand before its own
module _ {A V : Type 0} (whole : List A → V) (step : ℕ → V → A → V) (last : (xs : List A) (x : A) → whole (xs ++ x ∷ []) ≡ step (length xs) (whole xs) x) where
  pub step_further : (xs : List A) (i : ℕ) (x : A) → x ≡ get_or xs i x → i < length xs → {now : V} → now ≡ whole (take i xs) → step i now x ≡ whole (take (i + 1) xs)
  step_further xs i x is within so_far =
      ap (λ v. step i v x) so_far
      ∙ ap (λ n. step n (whole (take i xs)) x) (sym (length-take-le i xs (omega (arith, within))))
      ∙ sym (last (take i xs) x) ∙ ap whole (sym (one_more xs i x is within))

-- a value that joins those of the elements
module _ {A V : Type 0} {unit : V} {join : V → V → V} (laws : IsMonoid unit join) (one : A → V) (whole : List A → V)
    (empty : whole [] ≡ unit) (first : (x : A) (xs : List A) → whole (x ∷ xs) ≡ join (one x) (whole xs)) where
  joined_last : (xs : List A) (x : A) → whole (xs ++ x ∷ []) ≡ join (whole xs) (one x)
  joined_last [] x = first x [] ∙ ap (join (one x)) empty ∙ laws.right_identity (one x) ∙ sym (laws.left_identity (one x)) ∙ ap (λ v. join v (one x)) (sym empty)
  joined_last (y ∷ ys) x =
      first y (ys ++ x ∷ []) ∙ ap (join (one y)) (joined_last ys x) ∙ sym (laws.associative (one y) (whole ys) (one x)) ∙ ap (λ v. join v (one x)) (sym (first y ys))

  pub join_further : (xs : List A) (i : ℕ) (x : A) → x ≡ get_or xs i x → i < length xs
      → {now next : V} → now ≡ whole (take i xs) → next ≡ join now (one x) → next ≡ whole (take (i + 1) xs)
  join_further xs i x is within so_far joined = joined ∙ step_further whole (λ n v y. join v (one y)) joined_last xs i x is within so_far

  -- behind what there was before the loop
  pub join_behind : (old : V) (xs : List A) (i : ℕ) (x : A) → x ≡ get_or xs i x → i < length xs
      → {now next : V} → now ≡ join old (whole (take i xs)) → next ≡ join now (one x) → next ≡ join old (whole (take (i + 1) xs))
  join_behind old xs i x is within so_far joined =
      joined ∙ ap (λ v. join v (one x)) so_far ∙ laws.associative old (whole (take i xs)) (one x)
      ∙ ap (join old) (sym (joined_last (take i xs) x) ∙ ap whole (sym (one_more xs i x is within)))
