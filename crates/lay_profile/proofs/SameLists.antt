-- Two lists whose elements are compared one by one, by what functions give of them.
use Rattle.std.proofs.Common.{◌≡◌, ◌≢◌, ◌<◌, ◌≤◌, ◌+◌, ◌∙◌, ℕ, zero, suc, Bool, true, false, not, List, [], ◌∷◌, length, map, take, refl, sym, ap, ap₂, arith}
use Rattle.std.specs.Prelude.{slice_index_or}
use Rattle.std.specs.Str.{bytes_eq}
use Rattle.std.proofs.lemmas.Bool.{true≢false}
use Rattle.std.proofs.lemmas.List.{length-map}
use Rattle.std.proofs.lemmas.Slice.Eq.{bytes_eq-Decides}

more : (n : ℕ) → suc n + 1 ≡ suc (n + 1)
more n = omega arith

-- one element more of both
pub same_further : {A B C : Type 0} (f : A → C) (g : B → C) (xs : List A) (ys : List B) (n : ℕ) (d : A) (e : B) → n < length xs → n < length ys → map f (take n xs) ≡ map g (take n ys)
    → f (slice_index_or xs n d) ≡ g (slice_index_or ys n e) → map f (take (n + 1) xs) ≡ map g (take (n + 1) ys)
same_further f g [] ys n d e first second before here = absurd (omega (arith, first))
same_further f g (x ∷ xs) [] n d e first second before here = absurd (omega (arith, second))
same_further f g (x ∷ xs) (y ∷ ys) zero d e first second before here = ap (λ c. c ∷ []) here
same_further f g (x ∷ xs) (y ∷ ys) (suc n) d e first second before here =
    ap (λ m. map f (take m (x ∷ xs))) (more n)
    ∙ ap₂ (λ c cs. c ∷ cs) (heads _ _ _ _ before) (same_further f g xs ys n d e (omega (arith, first)) (omega (arith, second)) (tails _ _ _ _ before) here)
    ∙ sym (ap (λ m. map g (take m (y ∷ ys))) (more n))
  where
    heads : {C : Type 0} (a b : C) (l m : List C) → (a ∷ l) ≡ (b ∷ m) → a ≡ b
    heads a b l m same = cc

    tails : {C : Type 0} (a b : C) (l m : List C) → (a ∷ l) ≡ (b ∷ m) → l ≡ m
    tails a b l m same = cc

-- two elements that differ
pub differ_at : {A B C : Type 0} (f : A → C) (g : B → C) (xs : List A) (ys : List B) (n : ℕ) (d : A) (e : B) → n < length xs → n < length ys
    → map f xs ≡ map g ys → f (slice_index_or xs n d) ≡ g (slice_index_or ys n e)
differ_at f g [] ys n d e first second same = absurd (omega (arith, first))
differ_at f g (x ∷ xs) [] n d e first second same = absurd (omega (arith, second))
differ_at f g (x ∷ xs) (y ∷ ys) zero d e first second same = cc
differ_at f g (x ∷ xs) (y ∷ ys) (suc n) d e first second same = differ_at f g xs ys n d e (omega (arith, first)) (omega (arith, second)) cc

-- the first so many of a list that has no more are all of it
pub all_taken : {A : Type 0} (xs : List A) (n : ℕ) → length xs ≤ n → take n xs ≡ xs
all_taken [] zero all = refl
all_taken [] (suc n) all = refl
all_taken (x ∷ xs) zero all = absurd (omega (arith, all))
all_taken (x ∷ xs) (suc n) all = ap (λ rest. x ∷ rest) (all_taken xs n (omega (arith, all)))

-- lists that are the same are as long
pub lengths_same : {A B C : Type 0} (f : A → C) (g : B → C) (xs : List A) (ys : List B) → map f xs ≡ map g ys → length xs ≡ length ys
lengths_same f g xs ys same = sym (length-map xs f) ∙ ap length same ∙ length-map ys g

module _ {A B : Type 0} (f : A → List ℕ) (g : B → List ℕ) (rs xs : List A) (ys : List B) (n : ℕ) (x : A) (y : B) (a b : List ℕ)
    (are : rs ≡ xs) (long : length rs ≡ length ys) (within : n < length ys) (left : a ≡ f (slice_index_or rs n x)) (right : b ≡ g (slice_index_or ys n y)) where
  inside : n < length xs
  inside = omega (arith, within, long, ap length are)

  at_first : f (slice_index_or rs n x) ≡ f (slice_index_or xs n x)
  at_first = ap (λ l. f (slice_index_or l n x)) are

  pub texts_differ : true ≡ not (bytes_eq a b) → map f xs ≢ map g ys
  texts_differ apart same =
      true≢false (apart ∙ ap not ((bytes_eq-Decides a b).1 (left ∙ at_first ∙ differ_at f g xs ys n x y inside within same ∙ sym right)))

  pub texts_same : false ≡ not (bytes_eq a b) → map f (take n xs) ≡ map g (take n ys) → map f (take (n + 1) xs) ≡ map g (take (n + 1) ys)
  texts_same alike before =
      same_further f g xs ys n x y inside within before (sym at_first ∙ sym left ∙ (bytes_eq-Decides a b).0 (by (bytes_eq a b) alike) ∙ right)
    where
      by : (t : Bool) → false ≡ not t → t ≡ true
      by true e = refl
      by false e = cc
