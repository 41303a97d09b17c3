-- Loops that replace each element of a list in place.
use Rattle.std.proofs.Common.{◌≡◌, ◌<◌, ◌≤◌, ◌++◌, ◌∷◌, [], ℕ, suc, List, length, map, take, drop, get_or, ap, ◌∙◌, refl, subst, append-nil, arith}
use Rattle.std.proofs.Math.ListN.{drop_of_length-le}
use Rattle.std.proofs.lemmas.List.{take_all}
use Rattle.c_tree.specs.Replaced.{IsReplacedTo}

-- a list that is put back where one as long was taken
put_back : {A : Type 0} (n : ℕ) (xs ys : List A) → length xs ≡ length ys → length ys ≤ n → take n (xs ++ drop (length xs) ys) ≡ xs
put_back n xs ys long within =
    ap (λ l. take n (xs ++ l)) (drop_of_length-le ys (omega (arith, long))) ∙ ap (take n) (append-nil xs) ∙ take_all n xs (omega (arith, long, within))

-- a row of elements, and what is made of it where one is made of each
module _ {A X R : Type 0} (view : A → X) (make : X → X) (row : List A → R) (whole : R → R) (empty : row [] ≡ whole (row []))
    (first : (x y : A) (xs ys : List A) → view x ≡ make (view y) → row xs ≡ whole (row ys) → row (x ∷ xs) ≡ whole (row (y ∷ ys))) where
  each : (new old : List A) → length new ≡ length old → ((k : ℕ) (d : A) → k < length old → view (get_or new k d) ≡ make (view (get_or old k d)))
      → row new ≡ whole (row old)
  each [] [] long made = empty
  each [] (y ∷ ys) long made = absurd (omega (arith, long))
  each (x ∷ xs) [] long made = absurd (omega (arith, long))
  each (x ∷ xs) (y ∷ ys) long made =
      first x y xs ys (made 0 y (omega arith)) (each xs ys (omega (arith, long)) (λ k d below. made (suc k) d (omega (arith, below))))

  -- the loop is done, and a list that was lent meanwhile is put back
  pub all_replaced : (n i : ℕ) (new old lent : List A) → lent ≡ old → length old ≤ n → length new ≤ i → IsReplacedTo view make i lent new
      → row (take n (new ++ drop (length new) old)) ≡ whole (row old)
  all_replaced n i new old lent same within ended replaced =
      let goal : List A → Type 0 = λ l. length l ≤ n → row (take n (new ++ drop (length new) l)) ≡ whole (row l) in
      subst goal same (λ fits. ap row (put_back n new lent replaced.long fits)
      ∙ each new lent replaced.long (λ k d below. replaced.done k d (omega (arith, below, ended, replaced.long)))) within

-- a list itself
pub list_replaced : {A : Type 0} (make : A → A) (n i : ℕ) (new old lent : List A) → lent ≡ old → length old ≤ n → length new ≤ i
    → IsReplacedTo (λ x. x) make i lent new → take n (new ++ drop (length new) old) ≡ map make old
list_replaced make = all_replaced (λ x. x) make (λ l. l) (map make) refl (λ x y xs ys one others. ap (λ z. z ∷ xs) one ∙ ap (λ l. make y ∷ l) others)
