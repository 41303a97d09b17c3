-- Two scalars beside one another in a block, and in a list.
use Rattle.std.proofs.Common.{◌≡◌, ◌≤◌, ◌+◌, ◌∙◌, ◌++◌, ℕ, List, [], ◌∷◌, Bool, true, false, not, refl, map, sym, subst, inl, inr, arith}
use Rattle.std.specs.Prelude.{◌⊎◌, ◌&&◌, ◌==◌, sum_by, if◌then◌else◌}
use Rattle.std.proofs.lemmas.Bool.{cases_eq, or_cases, and_parts, eqb-true, eq-eqb, ne_eqb, eqb-false, not-true, and_from, or_left, or_right, not_from_false}
use Rattle.std.proofs.lemmas.List.Sums.{sum_by-cons, sum_by-append}
use Rattle.lay_cost.specs.Weights.{is_pair, times_beside}
use Rattle.lay_tree.specs.Bound.{sum_of_pairs, sum_of_adjacent}
use Rattle.lay_tree.proofs.Members.{IsIn, IsOnce}
use Rattle.lay_tree.proofs.Sums.{sum_add, sum_zero}

-- each two of a list, and each one with the next
abbrev pub pairs_in : List ℕ → List (ℕ × ℕ)
pairs_in [] = []
pairs_in (s ∷ ss) = map (λ t. (s, t)) ss ++ pairs_in ss

abbrev pub adjacent_in : List ℕ → List (ℕ × ℕ)
adjacent_in [] = []
adjacent_in (s ∷ []) = []
adjacent_in (s ∷ t ∷ ss) = (s, t) ∷ adjacent_in (t ∷ ss)

sum_map : {X Y : Type 0} (f : Y → ℕ) (g : X → Y) (xs : List X) → sum_by f (map g xs) ≡ sum_by (λ x. f (g x)) xs
sum_map f g [] = refl
sum_map f g (x ∷ xs) = omega (arith, sum_by-cons f (g x) (map g xs), sum_by-cons (λ y. f (g y)) x xs, sum_map f g xs)

pub of_pairs : (w : ℕ → ℕ → ℕ) (ss : List ℕ) → sum_of_pairs w ss ≡ sum_by (λ (p : ℕ × ℕ). w p.0 p.1) (pairs_in ss)
of_pairs w [] = refl
of_pairs w (s ∷ ss) = omega (arith, of_pairs w ss, sum_map (λ (p : ℕ × ℕ). w p.0 p.1) (λ t. (s, t)) ss, sum_by-append (λ (p : ℕ × ℕ). w p.0 p.1) (map (λ t. (s, t)) ss) (pairs_in ss))

pub of_adjacent : (w : ℕ → ℕ → ℕ) (ss : List ℕ) → sum_of_adjacent w ss ≡ sum_by (λ (p : ℕ × ℕ). w p.0 p.1) (adjacent_in ss)
of_adjacent w [] = refl
of_adjacent w (s ∷ []) = refl
of_adjacent w (s ∷ t ∷ ss) = omega (arith, of_adjacent w (t ∷ ss), sum_by-cons (λ (p : ℕ × ℕ). w p.0 p.1) (s, t) (adjacent_in (t ∷ ss)))

-- how often x and y, one behind the other, are one of some pairs
abbrev pub once_beside : List (ℕ × ℕ) → ℕ → ℕ → ℕ
once_beside ps x y = sum_by (λ (p : ℕ × ℕ). if is_pair p.0 p.1 x y then 1 else 0) ps

-- along a block
abbrev pub all_beside : List (ℕ × ℕ) → List ℕ → ℕ
all_beside ps a = sum_by (λ (p : ℕ × ℕ). times_beside p.0 p.1 a) ps

pub all_beside_none : (ps : List (ℕ × ℕ)) → all_beside ps [] ≡ 0
all_beside_none ps = sum_zero ps

pub all_beside_one : (ps : List (ℕ × ℕ)) (x : ℕ) → all_beside ps (x ∷ []) ≡ 0
all_beside_one ps x = sum_zero ps

pub all_beside_more : (ps : List (ℕ × ℕ)) (x y : ℕ) (a : List ℕ) → all_beside ps (x ∷ y ∷ a) ≡ once_beside ps x y + all_beside ps (y ∷ a)
all_beside_more ps x y a = sum_add (λ (p : ℕ × ℕ). if is_pair p.0 p.1 x y then 1 else 0) (λ (p : ℕ × ℕ). times_beside p.0 p.1 (y ∷ a)) ps

-- what a pair is
pub record IsPair (s t x y : ℕ) : Type 0 where
  pub differ : s ≡ t → ⊥
  pub are : ((x ≡ s) × (y ≡ t)) ⊎ ((x ≡ t) × (y ≡ s))

pub pair_of : (s t x y : ℕ) → is_pair s t x y ≡ true → IsPair s t x y
pair_of s t x y e =
    let parts = and_parts (not (s == t)) _ e in
    record {
      differ = eqb-false s t (not-true (s == t) parts.0);
      are = elim (or_cases (x == s && y == t) (x == t && y == s) parts.1) [
        | inl h ↦ let both = and_parts (x == s) (y == t) h in inl (eqb-true x s both.0, eqb-true y t both.1)
        | inr h ↦ let both = and_parts (x == t) (y == s) h in inr (eqb-true x t both.0, eqb-true y s both.1)
      ];
    }

pub pair_from : (s t x y : ℕ) → (s ≡ t → ⊥) → ((x ≡ s) × (y ≡ t)) ⊎ ((x ≡ t) × (y ≡ s)) → is_pair s t x y ≡ true
pair_from s t x y differ (inl h) = and_from (not (s == t)) _ (not_from_false (s == t) (ne_eqb s t differ)) (or_left (x == s && y == t) _ (and_from (x == s) (y == t) (eq-eqb x s h.0) (eq-eqb y t h.1)))
pair_from s t x y differ (inr h) = and_from (not (s == t)) _ (not_from_false (s == t) (ne_eqb s t differ)) (or_right (x == s && y == t) _ (and_from (x == t) (y == s) (eq-eqb x t h.0) (eq-eqb y s h.1)))

-- sums of what a test picks
abbrev pub bit : Bool → ℕ
bit b = if b then 1 else 0

pub none_picked : (test : ℕ → Bool) (ss : List ℕ) → ((t : ℕ) → IsIn t ss → test t ≡ true → ⊥) → sum_by (λ t. if test t then 1 else 0) ss ≡ 0
none_picked test [] h = refl
none_picked test (s ∷ ss) h = go (test s) refl (none_picked test ss (λ t i. h t (inr i)))
  where
    go : (b : Bool) → test s ≡ b → sum_by (λ t. if test t then 1 else 0) ss ≡ 0 → sum_by (λ t. if test t then 1 else 0) (s ∷ ss) ≡ 0
    go true is more = absurd (h s (inl refl) is)
    go false is more = let first : bit (test s) ≡ 0 = rw (is) refl in omega (arith, sum_by-cons (λ t. if test t then 1 else 0) s ss, first, more)

pub one_picked : (test : ℕ → Bool) (z : ℕ) (ss : List ℕ) → ((t : ℕ) → test t ≡ true → t ≡ z) → IsOnce ss → sum_by (λ t. if test t then 1 else 0) ss ≤ 1
one_picked test z [] h once = omega arith
one_picked test z (s ∷ ss) h once = go (test s) refl (one_picked test z ss h once.1)
  where
    go : (b : Bool) → test s ≡ b → sum_by (λ t. if test t then 1 else 0) ss ≤ 1 → sum_by (λ t. if test t then 1 else 0) (s ∷ ss) ≤ 1
    go true is more =
        let first : bit (test s) ≡ 1 = rw (is) refl in
        let rest = none_picked test ss (λ t i e. once.0 (subst (λ u. IsIn u ss) (h t e ∙ sym (h s is)) i))
        in omega (arith, sum_by-cons (λ t. if test t then 1 else 0) s ss, first, rest)
    go false is more = let first : bit (test s) ≡ 0 = rw (is) refl in omega (arith, sum_by-cons (λ t. if test t then 1 else 0) s ss, first, more)

-- among the pairs of a list x and y are at most one
abbrev picked : ℕ → ℕ → ℕ → ℕ → ℕ
picked x y s t = if is_pair s t x y then 1 else 0

-- and none where one of them isn't in the list
no_pair : (x y : ℕ) (ss : List ℕ) → (IsIn x ss → ⊥) ⊎ (IsIn y ss → ⊥) → sum_of_pairs (picked x y) ss ≡ 0
no_pair x y [] h = refl
no_pair x y (s ∷ ss) h = omega (arith, none_picked (λ t. is_pair s t x y) ss (λ t i e. clash t i (pair_of s t x y e)), no_pair x y ss (less h))
  where
    less : (IsIn x (s ∷ ss) → ⊥) ⊎ (IsIn y (s ∷ ss) → ⊥) → (IsIn x ss → ⊥) ⊎ (IsIn y ss → ⊥)
    less (inl absent) = inl (λ i. absent (inr i))
    less (inr absent) = inr (λ i. absent (inr i))

    both : (t : ℕ) → IsIn t ss → IsPair s t x y → IsIn x (s ∷ ss) × IsIn y (s ∷ ss)
    both t i p = elim (p.are) [
      | inl e ↦ (inl e.0, inr (subst (λ u. IsIn u ss) (sym e.1) i))
      | inr e ↦ (inr (subst (λ u. IsIn u ss) (sym e.0) i), inl e.1)
    ]

    clash : (t : ℕ) → IsIn t ss → IsPair s t x y → ⊥
    clash t i p = elim h [ inl absent ↦ absent (both t i p).0 | inr absent ↦ absent (both t i p).1 ]

one_pair : (x y : ℕ) (ss : List ℕ) → IsOnce ss → sum_of_pairs (picked x y) ss ≤ 1
one_pair x y [] once = omega arith
one_pair x y (s ∷ ss) once = go (cases_eq x s) (cases_eq y s) (one_pair x y ss once.1)
  where
    only_y : x ≡ s → (t : ℕ) → is_pair s t x y ≡ true → t ≡ y
    only_y same t e = let p = pair_of s t x y e in elim (p.are) [ inl h ↦ sym h.1 | inr h ↦ absurd (p.differ (sym same ∙ h.0)) ]

    only_x : y ≡ s → (t : ℕ) → is_pair s t x y ≡ true → t ≡ x
    only_x same t e = let p = pair_of s t x y e in elim (p.are) [ inl h ↦ absurd (p.differ (sym same ∙ h.1)) | inr h ↦ sym h.0 ]

    neither : (x ≡ s → ⊥) → (y ≡ s → ⊥) → (t : ℕ) → IsIn t ss → is_pair s t x y ≡ true → ⊥
    neither no_x no_y t i e = let p = pair_of s t x y e in elim (p.are) [ inl h ↦ no_x h.0 | inr h ↦ no_y h.1 ]

    go : (x ≡ s) ⊎ (x ≡ s → ⊥) → (y ≡ s) ⊎ (y ≡ s → ⊥) → sum_of_pairs (picked x y) ss ≤ 1 → sum_of_pairs (picked x y) (s ∷ ss) ≤ 1
    go (inl same) other more = omega (arith, one_picked (λ t. is_pair s t x y) y ss (only_y same) once.1, no_pair x y ss (inl (λ i. once.0 (subst (λ u. IsIn u ss) same i))))
    go (inr no_x) (inl same) more = omega (arith, one_picked (λ t. is_pair s t x y) x ss (only_x same) once.1, no_pair x y ss (inr (λ i. once.0 (subst (λ u. IsIn u ss) same i))))
    go (inr no_x) (inr no_y) more = omega (arith, none_picked (λ t. is_pair s t x y) ss (neither no_x no_y), more)

pub at_most_once : (x y : ℕ) (ss : List ℕ) → IsOnce ss → once_beside (pairs_in ss) x y ≤ 1
at_most_once x y ss once = omega (arith, of_pairs (picked x y) ss, one_pair x y ss once)

-- a scalar isn't beside itself
pub not_beside_itself : (ps : List (ℕ × ℕ)) (x y : ℕ) → x ≡ y → once_beside ps x y ≡ 0
not_beside_itself [] x y same = refl
not_beside_itself (p ∷ ps) x y same = go (is_pair p.0 p.1 x y) refl (not_beside_itself ps x y same)
  where
    go : (b : Bool) → is_pair p.0 p.1 x y ≡ b → once_beside ps x y ≡ 0 → once_beside (p ∷ ps) x y ≡ 0
    go true is more = let q = pair_of p.0 p.1 x y is in absurd (q.differ (elim (q.are) [ inl h ↦ sym h.0 ∙ same ∙ h.1 | inr h ↦ sym h.1 ∙ sym same ∙ h.0 ]))
    go false is more = let first : picked x y p.0 p.1 ≡ 0 = rw (is) refl in omega (arith, sum_by-cons (λ (q : ℕ × ℕ). if is_pair q.0 q.1 x y then 1 else 0) p ps, first, more)
