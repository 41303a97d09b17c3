-- A change of names that takes some names to others, made of swaps of two names each.
use Rattle.std.proofs.Common.{◌≡◌, ◌≢◌, ◌⊎◌, ℕ, Bool, true, false, List, [], ◌∷◌, refl, sym, ap, ◌∙◌, inl, inr}
use Rattle.std.specs.Prelude.{if◌then◌else◌}
use Rattle.std.specs.Str.{bytes_eq}
use Rattle.std.specs.List.{AllByRecursion}
use Rattle.std.proofs.lemmas.Slice.Eq.{bytes_eq-Decides}
use Rattle.c_units.proofs.ListLemmas.{IsMember}

same_true : (a b : List ℕ) → a ≡ b → bytes_eq a b ≡ true
same_true a b = (bytes_eq-Decides a b).1

cases : (a b : List ℕ) → (a ≡ b) ⊎ ((a ≢ b) × (bytes_eq a b ≡ false))
cases a b = by (bytes_eq a b) refl
  where
    by : (test : Bool) → bytes_eq a b ≡ test → (a ≡ b) ⊎ ((a ≢ b) × (bytes_eq a b ≡ false))
    by true is = inl ((bytes_eq-Decides a b).0 is)
    by false is = inr ((λ e. let both : true ≡ false = sym (same_true a b e) ∙ is in cc), is)

-- ---- one swap

abbrev swapped : List ℕ → List ℕ → List ℕ → List ℕ
swapped a b name = if bytes_eq name a then b else if bytes_eq name b then a else name

swapped_first : (a b : List ℕ) → swapped a b a ≡ b
swapped_first a b = ap (λ test. if test then b else if bytes_eq a b then a else a) (same_true a a refl)

swapped_second : (a b : List ℕ) → swapped a b b ≡ a
swapped_second a b = by (cases b a)
  where
    by : (b ≡ a) ⊎ ((b ≢ a) × (bytes_eq b a ≡ false)) → swapped a b b ≡ a
    by (inl e) = ap (λ x. swapped a b x) e ∙ swapped_first a b ∙ e
    by (inr other) = ap (λ test. if test then b else if bytes_eq b b then a else b) other.1 ∙ ap (λ test. if test then a else b) (same_true b b refl)

swapped_other : (a b name : List ℕ) → name ≢ a → name ≢ b → swapped a b name ≡ name
swapped_other a b name first second = by (cases name a) (cases name b)
  where
    by : (name ≡ a) ⊎ ((name ≢ a) × (bytes_eq name a ≡ false)) → (name ≡ b) ⊎ ((name ≢ b) × (bytes_eq name b ≡ false)) → swapped a b name ≡ name
    by (inl e) other = absurd (first e)
    by (inr one) (inl e) = absurd (second e)
    by (inr one) (inr two) = ap (λ test. if test then b else if bytes_eq name b then a else name) one.1 ∙ ap (λ test. if test then a else name) two.1

swapped_twice : (a b name : List ℕ) → swapped a b (swapped a b name) ≡ name
swapped_twice a b name = by (cases name a) (cases name b)
  where
    by : (name ≡ a) ⊎ ((name ≢ a) × (bytes_eq name a ≡ false)) → (name ≡ b) ⊎ ((name ≢ b) × (bytes_eq name b ≡ false)) → swapped a b (swapped a b name) ≡ name
    by (inl e) other = ap (λ x. swapped a b (swapped a b x)) e ∙ ap (swapped a b) (swapped_first a b) ∙ swapped_second a b ∙ sym e
    by (inr one) (inl e) = ap (λ x. swapped a b (swapped a b x)) e ∙ ap (swapped a b) (swapped_second a b) ∙ swapped_first a b ∙ sym e
    by (inr one) (inr two) = ap (swapped a b) (swapped_other a b name one.0 two.0) ∙ swapped_other a b name one.0 two.0

swapped_one : (a b m n : List ℕ) → swapped a b m ≡ swapped a b n → m ≡ n
swapped_one a b m n e = sym (swapped_twice a b m) ∙ ap (swapped a b) e ∙ swapped_twice a b n

-- ---- many swaps: each thing has a name, and gets another

module _ {A : Type 0} (old new : A → List ℕ) where
  abbrev pub changed : List A → List ℕ → List ℕ
  changed [] name = name
  changed (x ∷ xs) name = swapped (changed xs (old x)) (new x) (changed xs name)

  pub changed_one : (xs : List A) (m n : List ℕ) → changed xs m ≡ changed xs n → m ≡ n
  changed_one [] m n e = e
  changed_one (x ∷ xs) m n e = changed_one xs m n (swapped_one (changed xs (old x)) (new x) (changed xs m) (changed xs n) e)

  -- a name that is none of these stays
  pub changed_other : (xs : List A) (name : List ℕ) → AllByRecursion (λ x. (name ≢ old x) × (name ≢ new x)) xs → changed xs name ≡ name
  changed_other [] name other = refl
  changed_other (x ∷ xs) name other =
      let stays = changed_other xs name other.1 in
      ap (swapped (changed xs (old x)) (new x)) stays
      ∙ swapped_other (changed xs (old x)) (new x) name (λ e. other.0.0 (changed_one xs name (old x) (stays ∙ e))) other.0.1

  abbrev pub AreApart : (A → List ℕ) → List A → Type 0
  AreApart name xs = (x y : A) → IsMember x xs → IsMember y xs → name x ≡ name y → x ≡ y

  -- and each of these gets its other name
  pub changed_each : (xs : List A) → AreApart old xs → AreApart new xs → (y : A) → IsMember y xs → changed xs (old y) ≡ new y
  changed_each [] apart again y is = absurd is
  changed_each (x ∷ xs) apart again y is =
      by is (cases (new y) (new x)) (λ among. changed_each xs (λ u v a b. apart u v (inr a) (inr b)) (λ u v a b. again u v (inr a) (inr b)) y among)
    where
      by : (x ≡ y) ⊎ IsMember y xs → (new y ≡ new x) ⊎ ((new y ≢ new x) × (bytes_eq (new y) (new x) ≡ false)) → (IsMember y xs → changed xs (old y) ≡ new y)
          → changed (x ∷ xs) (old y) ≡ new y
      by among (inl same) later =
          let one : y ≡ x = again y x among (inl refl) same in
          ap (λ z. changed (x ∷ xs) (old z)) one ∙ swapped_first (changed xs (old x)) (new x) ∙ sym same
      by (inl e) (inr differ) later = absurd (differ.0 (ap new (sym e)))
      by (inr among) (inr differ) later =
          ap (swapped (changed xs (old x)) (new x)) (later among)
          ∙ swapped_other (changed xs (old x)) (new x) (new y)
          (λ e. differ.0 (ap new (apart y x (inr among) (inl refl) (changed_one xs (old y) (old x) (later among ∙ e)))))
          differ.0

  -- names are told apart as before
  pub changed_same : (xs : List A) (m n : List ℕ) → bytes_eq (changed xs m) (changed xs n) ≡ bytes_eq m n
  changed_same xs m n = by (cases m n) (cases (changed xs m) (changed xs n))
    where
      by : (m ≡ n) ⊎ ((m ≢ n) × (bytes_eq m n ≡ false)) → (changed xs m ≡ changed xs n) ⊎ ((changed xs m ≢ changed xs n) × (bytes_eq (changed xs m) (changed xs n) ≡ false))
          → bytes_eq (changed xs m) (changed xs n) ≡ bytes_eq m n
      by (inl e) image = same_true (changed xs m) (changed xs n) (ap (changed xs) e) ∙ sym (same_true m n e)
      by (inr differ) (inl e) = absurd (differ.0 (changed_one xs m n e))
      by (inr differ) (inr image) = image.1 ∙ sym differ.1
