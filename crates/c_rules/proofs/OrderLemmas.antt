-- The order of lists by length and then by where they first differ.
use Rattle.std.proofs.Common.{◌<◌, ℕ, List, [], ◌∷◌, ◌++◌, length, ap, ◌∙◌, sym, refl, subst, inl, inr, length-append, arith}
use Rattle.std.proofs.lemmas.List.{append-nil}
use Rattle.c_rules.specs.Rounds.{IsLess, IsBefore, IsNotAfter}

less-trans : (xs ys zs : List ℕ) → IsLess xs ys → IsLess ys zs → IsLess xs zs
less-trans [] ys zs a b = absurd a
less-trans (x ∷ xs) [] zs a b = absurd a
less-trans (x ∷ xs) (y ∷ ys) [] a b = absurd b
less-trans (x ∷ xs) (y ∷ ys) (z ∷ zs) (inl a) (inl b) = inl (omega arith)
less-trans (x ∷ xs) (y ∷ ys) (z ∷ zs) (inl a) (inr b) = inl (omega (arith, b.0))
less-trans (x ∷ xs) (y ∷ ys) (z ∷ zs) (inr a) (inl b) = inl (omega (arith, a.0))
less-trans (x ∷ xs) (y ∷ ys) (z ∷ zs) (inr a) (inr b) = inr (a.0 ∙ b.0, less-trans xs ys zs a.1 b.1)

less-append : (xs ys vs ws : List ℕ) → IsLess xs ys → IsLess (xs ++ vs) (ys ++ ws)
less-append [] ys vs ws a = absurd a
less-append (x ∷ xs) [] vs ws a = absurd a
less-append (x ∷ xs) (y ∷ ys) vs ws (inl a) = inl a
less-append (x ∷ xs) (y ∷ ys) vs ws (inr a) = inr (a.0, less-append xs ys vs ws a.1)

less-last : (w : List ℕ) (x y : ℕ) → x < y → IsLess (w ++ x ∷ []) (w ++ y ∷ [])
less-last [] x y less = inl less
less-last (z ∷ w) x y less = inr (refl, less-last w x y less)

pub before-trans : (xs ys zs : List ℕ) → IsBefore xs ys → IsBefore ys zs → IsBefore xs zs
before-trans xs ys zs (inl a) (inl b) = inl (omega arith)
before-trans xs ys zs (inl a) (inr b) = inl (omega (arith, b.0))
before-trans xs ys zs (inr a) (inl b) = inl (omega (arith, a.0))
before-trans xs ys zs (inr a) (inr b) = inr (a.0 ∙ b.0, less-trans xs ys zs a.1 b.1)

pub not_after-trans : (xs ys zs : List ℕ) → IsNotAfter xs ys → IsNotAfter ys zs → IsNotAfter xs zs
not_after-trans xs ys zs (inl a) b = subst (λ v. IsNotAfter v zs) (sym a) b
not_after-trans xs ys zs (inr a) (inl b) = inr (subst (λ v. IsBefore xs v) b a)
not_after-trans xs ys zs (inr a) (inr b) = inr (before-trans xs ys zs a b)

-- of ways with one more at the end
pub before-more : (xs ys : List ℕ) (x y : ℕ) → IsBefore xs ys → IsBefore (xs ++ x ∷ []) (ys ++ y ∷ [])
before-more xs ys x y (inl a) = inl (omega (arith, length-append xs (x ∷ []), length-append ys (y ∷ [])))
before-more xs ys x y (inr a) = inr (omega (arith, a.0, length-append xs (x ∷ []), length-append ys (y ∷ [])), less-append xs ys (x ∷ []) (y ∷ []) a.1)

pub before-last : (w : List ℕ) (x y : ℕ) → x < y → IsBefore (w ++ x ∷ []) (w ++ y ∷ [])
before-last w x y less = inr (length-append w (x ∷ []) ∙ sym (length-append w (y ∷ [])), less-last w x y less)

pub not_after-more : (xs ys : List ℕ) (y : ℕ) → IsNotAfter xs ys → IsNotAfter (xs ++ y ∷ []) (ys ++ y ∷ [])
not_after-more xs ys y (inl a) = inl (ap (λ v. v ++ y ∷ []) a)
not_after-more xs ys y (inr a) = inr (before-more xs ys y y a)

before-front : (xs ys zs : List ℕ) → IsBefore xs ys → IsBefore xs (ys ++ zs)
before-front xs ys zs (inl a) = inl (omega (arith, length-append ys zs))
before-front xs ys [] (inr a) = subst (λ v. IsBefore xs v) (sym (append-nil ys)) (inr a)
before-front xs ys (z ∷ zs) (inr a) = inl (omega (arith, a.0, length-append ys (z ∷ zs)))

pub not_after-front : (xs ys zs : List ℕ) → IsNotAfter xs ys → IsNotAfter xs (ys ++ zs)
not_after-front xs ys [] (inl a) = inl (a ∙ sym (append-nil ys))
not_after-front xs ys (z ∷ zs) (inl a) = inr (inl (omega (arith, ap length a, length-append ys (z ∷ zs))))
not_after-front xs ys zs (inr a) = inr (before-front xs ys zs a)
