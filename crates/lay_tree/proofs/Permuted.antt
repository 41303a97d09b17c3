-- Lists that have the same elements, each once.
use Rattle.std.proofs.Common.{◌≡◌, ◌≤◌, ◌∙◌, ◌++◌, ℕ, List, [], ◌∷◌, Bool, true, false, refl, reverse, sym, subst, inl, inr, arith}
use Rattle.std.specs.Prelude.{filter, flat_map, nat_le, if◌then◌else◌}
use Rattle.std.specs.List.{concat, list_all}
use Rattle.std.proofs.lemmas.Bool.{cases_Bool, both_ways, and_parts, and_from, leb-true, le-leb, cond-true, cond-false}
use Rattle.std.proofs.lemmas.List.{reverse-reverse}
use Rattle.std.proofs.lemmas.Grind.{reverse_onto}
use Rattle.lay_tree.proofs.Members.{IsIn, IsOnce, in_front, in_back, in_either, of_filter}

pub once_append : {X : Type 0} (xs ys : List X) → IsOnce xs → IsOnce ys → ((x : X) → IsIn x xs → IsIn x ys → ⊥) → IsOnce (xs ++ ys)
once_append [] ys a b apart = b
once_append (x ∷ xs) ys a b apart = ((λ i. elim (in_either x xs ys i) [ inl h ↦ a.0 h | inr h ↦ apart x (inl refl) h ]), once_append xs ys a.1 b (λ z i j. apart z (inr i) j))

-- the other way round
reverse_more : {X : Type 0} (x : X) (xs : List X) → reverse (x ∷ xs) ≡ reverse xs ++ (x ∷ [])
reverse_more x xs = reverse_onto xs x []

in_reverse : {X : Type 0} (z : X) (xs : List X) → IsIn z xs → IsIn z (reverse xs)
in_reverse z [] i = absurd i
in_reverse z (x ∷ xs) (inl same) = subst (λ ys. IsIn z ys) (sym (reverse_more x xs)) (in_back z (reverse xs) (x ∷ []) (inl same))
in_reverse z (x ∷ xs) (inr i) = subst (λ ys. IsIn z ys) (sym (reverse_more x xs)) (in_front z (reverse xs) (x ∷ []) (in_reverse z xs i))

of_reverse : {X : Type 0} (z : X) (xs : List X) → IsIn z (reverse xs) → IsIn z xs
of_reverse z xs i = subst (λ ys. IsIn z ys) (reverse-reverse xs) (in_reverse z (reverse xs) i)

once_reverse : {X : Type 0} (xs : List X) → IsOnce xs → IsOnce (reverse xs)
once_reverse [] once = tt
once_reverse (x ∷ xs) once = subst (λ ys. IsOnce ys) (sym (reverse_more x xs))
    (once_append (reverse xs) (x ∷ []) (once_reverse xs once.1) ((λ i. i), tt) (λ z i j. elim j [ inl same ↦ once.0 (subst (λ y. IsIn y xs) same (of_reverse z xs i)) | inr none ↦ none ]))

-- a list has the elements of another one, each once
pub record Permutes (members list : List ℕ) : Type 0 where
  pub once : IsOnce list
  pub of : (s : ℕ) → IsIn s list → IsIn s members
  pub all : (s : ℕ) → IsIn s members → IsIn s list

pub permutes_itself : (list : List ℕ) → IsOnce list → Permutes list list
permutes_itself list once = record { once = once; of = λ s i. i; all = λ s i. i }

pub turned : (b : Bool) (list : List ℕ) → IsOnce list → Permutes list (if b then list else reverse list)
turned true list once = permutes_itself list once
turned false list once = record { once = once_reverse list once; of = λ s i. of_reverse s list i; all = λ s i. in_reverse s list i }

-- elements of lists
pub in_concat : (s : ℕ) (list : List ℕ) (lists : List (List ℕ)) → IsIn s list → IsIn list lists → IsIn s (concat lists)
in_concat s list [] i j = absurd j
in_concat s list (l ∷ ls) i (inl same) = in_front s l (concat ls) (subst (λ ys. IsIn s ys) same i)
in_concat s list (l ∷ ls) i (inr j) = in_back s l (concat ls) (in_concat s list ls i j)

pub record Among (s : ℕ) (lists : List (List ℕ)) : Type 0 where
  pub list : List ℕ
  pub inside : IsIn s list
  pub listed : IsIn list lists

pub of_concat : (s : ℕ) (lists : List (List ℕ)) → IsIn s (concat lists) → Among s lists
of_concat s [] i = absurd i
of_concat s (l ∷ ls) i = elim (in_either s l (concat ls) i) [
  | inl h ↦ record { list = l; inside = h; listed = inl refl }
  | inr h ↦ let a = of_concat s ls h in record { list = a.list; inside = a.inside; listed = inr a.listed }
]

-- of some of the lists
pub filtered_in : (test : List ℕ → Bool) (s : ℕ) (lists : List (List ℕ)) → IsIn s (concat (filter test lists)) → IsIn s (concat lists)
filtered_in test s lists i =
    let a = of_concat s (filter test lists) i
    in in_concat s a.list lists a.inside (of_filter test a.list lists a.listed).0

pub parts_of_once : (xs ys : List ℕ) → IsOnce (xs ++ ys) → IsOnce xs × (IsOnce ys × ((s : ℕ) → IsIn s xs → IsIn s ys → ⊥))
parts_of_once [] ys once = (tt, (once, λ s i j. i))
parts_of_once (x ∷ xs) ys once =
    let h = parts_of_once xs ys once.1
    in ((λ i. once.0 (in_front x xs ys i), h.0), (h.1.0, λ s i j. elim i [ inl same ↦ once.0 (in_back x xs ys (subst (λ v. IsIn v ys) same j)) | inr i2 ↦ h.1.1 s i2 j ]))

pub once_filtered : (test : List ℕ → Bool) (lists : List (List ℕ)) → IsOnce (concat lists) → IsOnce (concat (filter test lists))
once_filtered test [] once = tt
once_filtered test (l ∷ ls) once = go (test l) refl (parts_of_once l (concat ls) once) (once_filtered test ls)
  where
    go : (b : Bool) → test l ≡ b → IsOnce l × (IsOnce (concat ls) × ((s : ℕ) → IsIn s l → IsIn s (concat ls) → ⊥)) → (IsOnce (concat ls) → IsOnce (concat (filter test ls))) → IsOnce (concat (filter test (l ∷ ls)))
    go true is parts more = subst (λ zs. IsOnce (concat zs)) (sym (cond-true (test l) (l ∷ filter test ls) (filter test ls) is))
        (once_append l (concat (filter test ls)) parts.0 (more parts.1.0) (λ s i j. parts.1.1 s i (filtered_in test s ls j)))
    go false is parts more = subst (λ zs. IsOnce (concat zs)) (sym (cond-false (test l) (l ∷ filter test ls) (filter test ls) is)) (more parts.1.0)

-- the lists of one element are the same
pub one_list_of : (r : ℕ) (l m : List ℕ) (ls : List (List ℕ)) → IsOnce (concat ls) → IsIn r l → IsIn r m → IsIn l ls → IsIn m ls → l ≡ m
one_list_of r l m [] o hl hm il im = absurd il
one_list_of r l m (x ∷ xs) o hl hm (inl sl) (inl sm) = sl ∙ sym sm
one_list_of r l m (x ∷ xs) o hl hm (inl sl) (inr jm) = absurd ((parts_of_once x (concat xs) o).1.1 r (subst (λ v. IsIn r v) sl hl) (in_concat r m xs hm jm))
one_list_of r l m (x ∷ xs) o hl hm (inr jl) (inl sm) = absurd ((parts_of_once x (concat xs) o).1.1 r (subst (λ v. IsIn r v) sm hm) (in_concat r l xs hl jl))
one_list_of r l m (x ∷ xs) o hl hm (inr jl) (inr jm) = one_list_of r l m xs (parts_of_once x (concat xs) o).1.0 hl hm jl jm

-- lists that pass two tests, which none passes both, have nothing in common
pub filtered_apart : (t u : List ℕ → Bool) (lists : List (List ℕ)) → IsOnce (concat lists) → ((l : List ℕ) → t l ≡ true → u l ≡ true → ⊥) → (s : ℕ) → IsIn s (concat (filter t lists)) → IsIn s (concat (filter u lists)) → ⊥
filtered_apart t u lists once differ s i j =
    let a = of_concat s (filter t lists) i in
    let b = of_concat s (filter u lists) j in
    let p = of_filter t a.list lists a.listed in
    let q = of_filter u b.list lists b.listed
    in differ a.list p.1 (subst (λ l. u l ≡ true) (one_list_of s b.list a.list lists once b.inside a.inside q.0 p.0) q.1)

-- lists made of each element
pub in_flat : (f : ℕ → List ℕ) (s x : ℕ) (members : List ℕ) → IsIn s members → IsIn x (f s) → IsIn x (flat_map f members)
in_flat f s x [] i j = absurd i
in_flat f s x (m ∷ ms) (inl same) j = in_front x (f m) (flat_map f ms) (subst (λ v. IsIn x (f v)) same j)
in_flat f s x (m ∷ ms) (inr i) j = in_back x (f m) (flat_map f ms) (in_flat f s x ms i j)

pub record FlatOrigin (f : ℕ → List ℕ) (members : List ℕ) (x : ℕ) : Type 0 where
  pub from : ℕ
  pub listed : IsIn from members
  pub inside : IsIn x (f from)

pub of_flat : (f : ℕ → List ℕ) (x : ℕ) (members : List ℕ) → IsIn x (flat_map f members) → FlatOrigin f members x
of_flat f x [] i = absurd i
of_flat f x (m ∷ ms) i = elim (in_either x (f m) (flat_map f ms) i) [
  | inl h ↦ record { from = m; listed = inl refl; inside = h }
  | inr h ↦ let o = of_flat f x ms h in record { from = o.from; listed = inr o.listed; inside = o.inside }
]

pub once_flat : (f : ℕ → List ℕ) (members : List ℕ) → IsOnce members → ((s : ℕ) → IsOnce (f s)) → ((s t x : ℕ) → IsIn x (f s) → IsIn x (f t) → s ≡ t) → IsOnce (flat_map f members)
once_flat f [] once each same = tt
once_flat f (m ∷ ms) once each same = once_append (f m) (flat_map f ms) (each m) (once_flat f ms once.1 each same)
    (λ x i j. let o = of_flat f x ms j in once.0 (subst (λ v. IsIn v ms) (sym (same m o.from x i o.inside)) o.listed))

-- the smallest number of a list
pub all_at_least : (s : ℕ) (list : List ℕ) → list_all (nat_le s) list ≡ true → (t : ℕ) → IsIn t list → s ≤ t
all_at_least s [] e t i = absurd i
all_at_least s (x ∷ xs) e t (inl same) = omega (arith, same, leb-true s x (and_parts (nat_le s x) (list_all (nat_le s) xs) e).0)
all_at_least s (x ∷ xs) e t (inr i) = all_at_least s xs (and_parts (nat_le s x) (list_all (nat_le s) xs) e).1 t i

pub at_least_all : (s : ℕ) (list : List ℕ) → ((t : ℕ) → IsIn t list → s ≤ t) → list_all (nat_le s) list ≡ true
at_least_all s [] h = refl
at_least_all s (x ∷ xs) h = and_from (nat_le s x) (list_all (nat_le s) xs) (le-leb s x (h x (inl refl))) (at_least_all s xs (λ t i. h t (inr i)))

pub record Smallest (list : List ℕ) : Type 0 where
  pub number : ℕ
  pub inside : IsIn number list
  pub least : (t : ℕ) → IsIn t list → number ≤ t

pub smallest_of : (x : ℕ) (xs : List ℕ) → Smallest (x ∷ xs)
smallest_of x [] = record { number = x; inside = inl refl; least = λ t i. elim i [ inl same ↦ omega (arith, same) | inr none ↦ absurd none ] }
smallest_of x (y ∷ ys) = let m = smallest_of y ys in elim (Rattle.std.proofs.lemmas.Bool.cases_lt x m.number) [
  | inl less ↦ record { number = x; inside = inl refl; least = λ t i. elim i [ inl same ↦ omega (arith, same) | inr j ↦ omega (arith, less, m.least t j) ] }
  | inr more ↦ record { number = m.number; inside = inr m.inside; least = λ t i. elim i [ inl same ↦ omega (arith, same, more) | inr j ↦ m.least t j ] }
]
