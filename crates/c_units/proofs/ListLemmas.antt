-- What is true of each member of a list.
use Rattle.std.proofs.Common.{◌≡◌, ◌⊎◌, List, [], ◌∷◌, ◌++◌, map, refl, subst, inl, inr, arith}
use Rattle.std.specs.Prelude.{Contains}
use Rattle.std.specs.List.{AllByRecursion}
use Rattle.std.proofs.lemmas.List.Elements.{Contains-append_right, Contains-get_or}

pub all_weaker : {A : Type 0} (P Q : A → Type 0) → ((x : A) → P x → Q x) → (xs : List A) → AllByRecursion P xs → AllByRecursion Q xs
all_weaker P Q f [] h = tt {0}
all_weaker P Q f (x ∷ xs) h = (f x h.0, all_weaker P Q f xs h.1)

pub all_paired : {A : Type 0} (P Q : A → Type 0) (xs : List A) → AllByRecursion P xs → AllByRecursion Q xs → AllByRecursion (λ x. P x × Q x) xs
all_paired P Q [] h k = tt {0}
all_paired P Q (x ∷ xs) h k = ((h.0, k.0), all_paired P Q xs h.1 k.1)

pub all_mapped : {A B : Type 0} (P : B → Type 0) (f : A → B) (xs : List A) → AllByRecursion (λ x. P (f x)) xs → AllByRecursion P (map f xs)
all_mapped P f [] h = tt {0}
all_mapped P f (x ∷ xs) h = (h.0, all_mapped P f xs h.1)

pub all_unmapped : {A B : Type 0} (P : B → Type 0) (f : A → B) (xs : List A) → AllByRecursion P (map f xs) → AllByRecursion (λ x. P (f x)) xs
all_unmapped P f [] h = tt {0}
all_unmapped P f (x ∷ xs) h = (h.0, all_unmapped P f xs h.1)

pub all_joined : {A : Type 0} (P : A → Type 0) (xs ys : List A) → AllByRecursion P xs → AllByRecursion P ys → AllByRecursion P (xs ++ ys)
all_joined P [] ys h k = k
all_joined P (x ∷ xs) ys h k = (h.0, all_joined P xs ys h.1 k)

-- ---- members

abbrev pub IsMember : {A : Type 0} → A → List A → Type 0
IsMember x [] = ⊥
IsMember x (y ∷ ys) = (y ≡ x) ⊎ IsMember x ys

pub all_members : {A : Type 0} (P : A → Type 0) (xs : List A) → ((x : A) → IsMember x xs → P x) → AllByRecursion P xs
all_members P [] h = tt {0}
all_members P (x ∷ xs) h = (h x (inl refl), all_members P xs (λ y is. h y (inr is)))

pub member_first : {A : Type 0} (x : A) (xs ys : List A) → IsMember x xs → IsMember x (xs ++ ys)
member_first x [] ys is = absurd is
member_first x (y ∷ xs) ys (inl e) = inl e
member_first x (y ∷ xs) ys (inr is) = inr (member_first x xs ys is)

pub member_last : {A : Type 0} (x : A) (xs ys : List A) → IsMember x ys → IsMember x (xs ++ ys)
member_last x [] ys is = is
member_last x (y ∷ xs) ys is = inr (member_last x xs ys is)

pub contained : {A : Type 0} (x : A) (xs : List A) → IsMember x xs → Contains xs x
contained x [] is = absurd is
contained x (y ∷ xs) (inl e) = subst (Contains (y ∷ xs)) e (Contains-get_or (y ∷ xs) 0 y (omega arith))
contained x (y ∷ xs) (inr is) = Contains-append_right (y ∷ []) xs x (contained x xs is)
