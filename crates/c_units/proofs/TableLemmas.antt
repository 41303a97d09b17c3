-- Tables of names and places, and the turns of loops over lists.
use Rattle.std.proofs.Common.{◌≡◌, ◌∙◌, ◌||◌, ◌==◌, ℕ, flat_map, ◌+◌, ◌<◌, ◌≤◌, Bool, true, false, cond, List, [], ◌∷◌, ◌++◌, map, drop, get_or, length, refl, sym, ap, append_assoc, append-nil, nat_eq}
use Rattle.std.proofs.lemmas.List.{drop_all}
use Rattle.std.specs.Str.{bytes_eq}
use Rattle.std.proofs.lemmas.Cmp.{nat_eq_equiv}
use Rattle.c_rules.specs.Units.{is_name_among}
use Rattle.c_rules.proofs.Turns.{first_left}
use Rattle.c_units.specs.Objects.{is_place_among}

pub or_cond : (b x : Bool) → cond b true x ≡ (x || b)
or_cond true true = refl
or_cond true false = refl
or_cond false true = refl
or_cond false false = refl

pub or_false : (b : Bool) → (b || false) ≡ b
or_false true = refl
or_false false = refl

pub or_assoc : (a b c : Bool) → ((a || b) || c) ≡ (a || (b || c))
or_assoc true b c = refl
or_assoc false b c = refl

pub or_swap : (a b : Bool) → (a || b) ≡ (b || a)
or_swap true true = refl
or_swap true false = refl
or_swap false true = refl
or_swap false false = refl

pub nothing_left : {A : Type 0} (list : List A) (i : ℕ) → length list ≡ i → drop i list ≡ []
nothing_left list i e = rw (sym e) (drop_whole list)
  where
    drop_whole : {A : Type 0} (list : List A) → drop (length list) list ≡ []
    drop_whole [] = refl
    drop_whole (x ∷ xs) = drop_whole xs

pub among_append : (name : List ℕ) (xs ys : List (List ℕ)) → is_name_among name (xs ++ ys) ≡ (is_name_among name xs || is_name_among name ys)
among_append name [] ys = refl
among_append name (x ∷ xs) ys = ap (λ b. bytes_eq x name || b) (among_append name xs ys) ∙ sym (or_assoc (bytes_eq x name) (is_name_among name xs) (is_name_among name ys))

-- a name that was inserted, among those that are left
pub name_turn : {A : Type 0} (f : A → List ℕ) (whole has new : Bool) (other : List ℕ) (list : List A) (i : ℕ) (x : A) → x ≡ get_or list i x → i < length list
    → (has || is_name_among other (map f (drop i list))) ≡ whole → new ≡ (has || bytes_eq (f x) other) → (new || is_name_among other (map f (drop (i + 1) list))) ≡ whole
name_turn f whole has new other list i x is below so_far h =
    ap (λ b. b || is_name_among other (map f (drop (i + 1) list))) h
    ∙ or_assoc has (bytes_eq (f x) other) _
    ∙ ap (λ l. has || is_name_among other (map f l)) (sym (first_left list i x is below))
    ∙ so_far

-- a place
pub place_turn : (whole has new : Bool) (other : ℕ) (list : List ℕ) (i x : ℕ) → x ≡ get_or list i x → i < length list
    → (has || is_place_among other (drop i list)) ≡ whole → new ≡ cond (nat_eq x other) true has → (new || is_place_among other (drop (i + 1) list)) ≡ whole
place_turn whole has new other list i x is below so_far h =
    ap (λ b. b || is_place_among other (drop (i + 1) list)) (h ∙ or_cond (nat_eq x other) has ∙ ap (λ b. has || b) (nat_eq_equiv.symm x other))
    ∙ or_assoc has (other == x) _
    ∙ ap (λ l. has || is_place_among other l) (sym (first_left list i x is below))
    ∙ so_far

-- a list that was added, and what is left
pub list_turn : {A B C : Type 0} (g : A → B) (f : B → List C) (whole made new : List C) (list : List A) (i : ℕ) (x : A) → x ≡ get_or list i x → i < length list
    → made ++ flat_map f (map g (drop i list)) ≡ whole → new ≡ made ++ f (g x) → new ++ flat_map f (map g (drop (i + 1) list)) ≡ whole
list_turn g f whole made new list i x is below so_far h =
    ap (λ l. l ++ flat_map f (map g (drop (i + 1) list))) h
    ∙ append_assoc made (f (g x)) _
    ∙ ap (λ l. made ++ flat_map f (map g l)) (sym (first_left list i x is below))
    ∙ so_far

-- names of lists, one of which is left
pub names_turn : {A B : Type 0} (g : A → B) (f : B → List (List ℕ)) (whole has new : Bool) (other : List ℕ) (list : List A) (i : ℕ) (x : A) → x ≡ get_or list i x → i < length list
    → (has || is_name_among other (flat_map f (map g (drop i list)))) ≡ whole → new ≡ (has || is_name_among other (f (g x)))
    → (new || is_name_among other (flat_map f (map g (drop (i + 1) list)))) ≡ whole
names_turn g f whole has new other list i x is below so_far h =
    ap (λ b. b || is_name_among other (flat_map f (map g (drop (i + 1) list)))) h
    ∙ or_assoc has (is_name_among other (f (g x))) _
    ∙ ap (λ b. has || b) (sym (among_append other (f (g x)) (flat_map f (map g (drop (i + 1) list)))))
    ∙ ap (λ l. has || is_name_among other (flat_map f (map g l))) (sym (first_left list i x is below))
    ∙ so_far

-- nothing is left
pub list_end : {A B C : Type 0} (g : A → B) (f : B → List C) (whole made : List C) (list : List A) (i : ℕ) → length list ≤ i → made ++ flat_map f (map g (drop i list)) ≡ whole → made ≡ whole
list_end g f whole made list i all so_far = sym (append-nil made) ∙ ap (λ l. made ++ flat_map f (map g l)) (sym (drop_all i list all)) ∙ so_far
