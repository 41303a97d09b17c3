-- Sums over lists.
use Rattle.std.proofs.Common.{◌≡◌, ◌≤◌, ◌+◌, ◌*◌, ◌∙◌, ◌++◌, ℕ, List, [], ◌∷◌, refl, ap, sym, subst, inl, inr, arith}
use Rattle.std.specs.Prelude.{sum_by}
use Rattle.std.proofs.lemmas.List.Sums.{sum_by-cons, sum_by-append}
use Rattle.lay_tree.proofs.Members.{IsIn, IsOnce, in_front, in_back, in_either}

pub sum_same : {X : Type 0} (f g : X → ℕ) (xs : List X) → ((x : X) → f x ≡ g x) → sum_by f xs ≡ sum_by g xs
sum_same f g [] h = refl
sum_same f g (x ∷ xs) h = rw (sum_by-cons f x xs, sum_by-cons g x xs, h x, sum_same f g xs h) refl

pub sum_le : {X : Type 0} (f g : X → ℕ) (xs : List X) → ((x : X) → IsIn x xs → f x ≤ g x) → sum_by f xs ≤ sum_by g xs
sum_le f g [] h = omega arith
sum_le f g (x ∷ xs) h =
    let first = h x (inl refl) in
    let more = sum_le f g xs (λ y i. h y (inr i))
    in omega (arith, sum_by-cons f x xs, sum_by-cons g x xs, first, more)

pub sum_add : {X : Type 0} (f g : X → ℕ) (xs : List X) → sum_by (λ x. f x + g x) xs ≡ sum_by f xs + sum_by g xs
sum_add f g [] = refl
sum_add f g (x ∷ xs) = omega (arith, sum_by-cons f x xs, sum_by-cons g x xs, sum_by-cons (λ y. f y + g y) x xs, sum_add f g xs)

pub sum_zero : {X : Type 0} (xs : List X) → sum_by (λ x. 0) xs ≡ 0
sum_zero [] = refl
sum_zero (x ∷ xs) = omega (arith, sum_by-cons (λ y. 0) x xs, sum_zero xs)

pub sum_times : {X : Type 0} (c : ℕ) (f : X → ℕ) (xs : List X) → sum_by (λ x. c * f x) xs ≡ c * sum_by f xs
sum_times c f [] = omega arith
sum_times c f (x ∷ xs) =
    let distribute : c * f x + c * sum_by f xs ≡ c * (f x + sum_by f xs) = omega arith
    in sum_by-cons (λ y. c * f y) x xs ∙ ap (λ n. c * f x + n) (sum_times c f xs) ∙ distribute ∙ ap (λ n. c * n) (sym (sum_by-cons f x xs))

-- the order of two sums
pub sum_swap : {X Y : Type 0} (f : X → Y → ℕ) (xs : List X) (ys : List Y) → sum_by (λ x. sum_by (f x) ys) xs ≡ sum_by (λ y. sum_by (λ x. f x y) xs) ys
sum_swap f [] ys = sym (sum_zero ys)
sum_swap f (x ∷ xs) ys =
    sum_by-cons (λ z. sum_by (f z) ys) x xs
    ∙ ap (λ n. sum_by (f x) ys + n) (sum_swap f xs ys)
    ∙ sym (sum_add (f x) (λ y. sum_by (λ z. f z y) xs) ys)
    ∙ sum_same (λ y. f x y + sum_by (λ z. f z y) xs) (λ y. sum_by (λ z. f z y) (x ∷ xs)) ys (λ y. sym (sum_by-cons (λ z. f z y) x xs))

-- a list round one of its elements
record Around {X : Type 0} (x : X) (ys : List X) : Type 0 where
  front : List X
  rest : List X
  is : ys ≡ front ++ (x ∷ rest)

around : {X : Type 0} (x : X) (ys : List X) → IsIn x ys → Around x ys
around x [] i = absurd i
around x (y ∷ ys) (inl e) = record { front = []; rest = ys; is = ap (λ z. z ∷ ys) (sym e) }
around x (y ∷ ys) (inr i) = let a = around x ys i in record { front = y ∷ a.front; rest = a.rest; is = ap (λ zs. y ∷ zs) a.is }

-- a sum over elements of another list, each once at most
pub sum_within : {X : Type 0} (f : X → ℕ) (xs ys : List X) → IsOnce xs → ((x : X) → IsIn x xs → IsIn x ys) → sum_by f xs ≤ sum_by f ys
sum_within f [] ys once inside = omega arith
sum_within f (x ∷ xs) ys once inside =
    let a = around x ys (inside x (inl refl)) in
    let rest : sum_by f xs ≤ sum_by f (a.front ++ a.rest) = sum_within f xs (a.front ++ a.rest) once.1 (λ y i. other y i a) in
    let whole : sum_by f ys ≡ sum_by f a.front + sum_by f (x ∷ a.rest) = ap (sum_by f) a.is ∙ sum_by-append f a.front (x ∷ a.rest)
    in omega (arith, sum_by-cons f x xs, rest, whole, sum_by-cons f x a.rest, sum_by-append f a.front a.rest)
  where
    other : (y : _) → IsIn y xs → (a : Around x ys) → IsIn y (a.front ++ a.rest)
    other y i a = elim (in_either y a.front (x ∷ a.rest) (subst (λ zs. IsIn y zs) a.is (inside y (inr i)))) [
      | inl h ↦ in_front y a.front a.rest h
      | inr h ↦ elim h [ inl same ↦ absurd (once.0 (subst (λ z. IsIn z xs) same i)) | inr h2 ↦ in_back y a.front a.rest h2 ]
    ]
