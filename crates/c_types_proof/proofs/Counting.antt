-- How often numbers stand in lists that are in order.
use Rattle.std.proofs.Common.{◌≡◌, ◌≤◌, ◌<◌, ◌+◌, ◌∷◌, [], ◌==◌, ℕ, zero, suc, false, if◌then◌else◌, List, slice_get, Some, inl, inr, refl, ap, sym}
use Rattle.std.proofs.Common.{subst, ◌∙◌, arith}
use Rattle.std.specs.Prelude.{◌≢◌}
use Rattle.std.specs.List.{range_with_len}
use Rattle.std.proofs.lemmas.Bool.{eq-eqb}
use Rattle.std.proofs.lemmas.Bool.Decides.{eqb_tells}
use Rattle.c_tree.specs.declared.program.Initial.{Initial}
use Rattle.c_tree.specs.TypedTree.{ObjectTree}
use Rattle.c_tree.specs.Declarations.{occurrences}
use Rattle.c_tree.specs.Fills.{fills_of}

-- a number at the head of a list, and another one
pub times_here : (n : ℕ) (ns : List ℕ) → occurrences n (n ∷ ns) ≡ 1 + occurrences n ns
times_here n ns = ap (λ b. (if b then 1 else 0) + occurrences n ns) (eq-eqb n n refl)

unequal : (m n : ℕ) → m ≢ n → (m == n) ≡ false
unequal m n differ = elim (eqb_tells m n) [ inl same ↦ absurd (differ same.1) | inr other ↦ other.0 ]

pub times_other : (m n : ℕ) (ns : List ℕ) → m ≢ n → occurrences n (m ∷ ns) ≡ occurrences n ns
times_other m n ns differ = let none : 0 + occurrences n ns ≡ occurrences n ns = omega arith in ap (λ b. (if b then 1 else 0) + occurrences n ns) (unequal m n differ) ∙ none

-- the numbers from one on
none_before : (n first count : ℕ) → n < first → occurrences n (range_with_len first count) ≡ 0
none_before n first zero low = refl
none_before n first (suc count) low =
    times_other first n (range_with_len (first + 1) count) (λ same. omega (arith, low, same)) ∙ none_before n (first + 1) count (omega (arith, low))

-- the first of them, or a later one
one_in : (n first count : ℕ) → first ≤ n → n < first + count → occurrences n (range_with_len first count) ≡ 1
one_in n first zero low high = absurd (omega (arith, low, high))
one_in n first (suc count) low high = elim (eqb_tells first n) [
  | inl same ↦ subst (λ m. occurrences m (first ∷ range_with_len (first + 1) count) ≡ 1) same.1
      (omega (arith, times_here first (range_with_len (first + 1) count), none_before first (first + 1) count (omega arith)))
  | inr other ↦ times_other first n (range_with_len (first + 1) count) other.1
      ∙ one_in n (first + 1) count (omega (arith, low, other.1)) (omega (arith, high))
]

pub one_below : (n count : ℕ) → n < count → occurrences n (range_with_len 0 count) ≡ 1
one_below n count less = one_in n 0 count (omega arith) (omega (arith, less))

-- of these objects from a number on, those are filled in order, and the others have no lists; where this is given, those have lists
pub data ObjectsFilled (Given : Type 0) : ℕ → List ObjectTree → List ℕ → Type 0 where
  no_more_objects : {n : ℕ} → ObjectsFilled Given n [] []
  object_filled : {n : ℕ} {o : ObjectTree} {os : List ObjectTree} {ks : List ℕ} → (Given → o.initial ≢ []) → ObjectsFilled Given (suc n) os ks
      → ObjectsFilled Given n (o ∷ os) (n ∷ ks)
  object_bare : {n : ℕ} {o : ObjectTree} {os : List ObjectTree} {ks : List ℕ} → o.initial ≡ [] → ObjectsFilled Given (suc n) os ks
      → ObjectsFilled Given n (o ∷ os) ks

some_fill : (is : List Initial) → is ≢ [] → fills_of is ≡ 1
some_fill [] some = absurd (some refl)
some_fill (i ∷ is) some = refl

module _ (Given : Type 0) where
  none_filled_before : (m n : ℕ) (os : List ObjectTree) (ks : List ℕ) → ObjectsFilled Given n os ks → m < n → occurrences m ks ≡ 0
  none_filled_before m n os ks no_more_objects low = refl
  none_filled_before m n os ks (object_filled {os = rest} {ks = fills} listed others) low =
      times_other n m fills (λ same. omega (arith, low, same)) ∙ none_filled_before m (suc n) rest fills others (omega (arith, low))
  none_filled_before m n os ks (object_bare {os = rest} bare others) low = none_filled_before m (suc n) rest ks others (omega (arith, low))

  pub filled_once : (m n : ℕ) (os : List ObjectTree) (ks : List ℕ) → ObjectsFilled Given n os ks → occurrences m ks ≤ 1
  filled_once m n os ks no_more_objects = omega arith
  filled_once m n os ks (object_filled {os = rest} {ks = fills} listed others) = elim (eqb_tells n m) [
    | inl same ↦ subst (λ k. occurrences k (n ∷ fills) ≤ 1) same.1 (omega (arith, times_here n fills, none_filled_before n (suc n) rest fills others (omega arith)))
    | inr other ↦ omega (arith, times_other n m fills other.1, filled_once m (suc n) rest fills others)
  ]
  filled_once m n os ks (object_bare {os = rest} bare others) = filled_once m (suc n) rest ks others

  -- an object with a list is filled, and where this is given no other one is
  pub filled_as_listed : (n k : ℕ) (o : ObjectTree) (os : List ObjectTree) (ks : List ℕ) → ObjectsFilled Given n os ks → slice_get os k ≡ Some o
      → (o.initial ≢ [] → occurrences (n + k) ks ≡ 1) × (Given → occurrences (n + k) ks ≡ fills_of o.initial)
  filled_as_listed n k o os ks no_more_objects there = absurd (cc there)
  filled_as_listed n zero o os ks (object_filled {o = first} {os = rest} {ks = fills} listed others) there =
      let same : first ≡ o = cc there in
      let here : occurrences n (n ∷ fills) ≡ 1 = omega (arith, times_here n fills, none_filled_before n (suc n) rest fills others (omega arith)) in
      let place : n + 0 ≡ n = omega arith in
      let once : occurrences (n + 0) (n ∷ fills) ≡ 1 = ap (λ m. occurrences m (n ∷ fills)) place ∙ here in
      ((λ some. once), (λ given. once ∙ sym (some_fill o.initial (subst (λ x. x.initial ≢ []) same (listed given)))))
  filled_as_listed n (suc k) o os ks (object_filled {os = rest} {ks = fills} listed others) there =
      let later = filled_as_listed (suc n) k o rest fills others there in
      let next : suc n + k ≡ n + suc k = omega arith in
      let kept : occurrences (n + suc k) (n ∷ fills) ≡ occurrences (suc n + k) fills =
      times_other n (n + suc k) fills (λ same. omega (arith, same)) ∙ ap (λ m. occurrences m fills) (sym next) in
      ((λ some. kept ∙ later.0 some), (λ given. kept ∙ later.1 given))
  filled_as_listed n zero o os ks (object_bare {o = first} {os = rest} bare others) there =
      let same : first ≡ o = cc there in
      let empty : o.initial ≡ [] = ap (λ x. x.initial) (sym same) ∙ bare in
      let none : occurrences (n + 0) ks ≡ 0 = none_filled_before (n + 0) (suc n) rest ks others (omega arith) in
      ((λ some. absurd (some empty)), (λ given. none ∙ sym (ap fills_of empty)))
  filled_as_listed n (suc k) o os ks (object_bare {os = rest} bare others) there =
      let later = filled_as_listed (suc n) k o rest ks others there in
      let next : n + suc k ≡ suc n + k = omega arith in
      let kept : occurrences (n + suc k) ks ≡ occurrences (suc n + k) ks = ap (λ m. occurrences m ks) next in
      ((λ some. kept ∙ later.0 some), (λ given. kept ∙ later.1 given))
