-- Tables of places: where scalars stand in lists, as they are put there one behind another.
use Rattle.std.proofs.Common.{◌≡◌, ℕ, suc, ◌+◌, Bool, true, false, ◌||◌, ◌==◌, List, [], ◌∷◌, ◌++◌, length, refl, ap, ap₂, sym, ◌∙◌, arith, if◌then◌else◌, eqb-true, true≢false}
use Rattle.std.specs.List.{concat}
use Rattle.std.proofs.Math.Bool.{or-false, or-true}
use Rattle.std.proofs.lemmas.Bool.{or_parts}
use Rattle.std.proofs.lemmas.Bool.Decides.{nat_tests}
use Rattle.std.proofs.lemmas.List.Folds.{list_any-append}
use Rattle.lay_cost.specs.declared.places.Place.{Place}
use Rattle.lay_cost.specs.Placements.{has, list_of, place_in, position_in}
use Rattle.lay_cost.specs.Memory.{placed, nowhere}

abbrev place : ℕ → ℕ → Place
place r i = record { register = r; offset = i }

-- in a list on a register, from an offset on
abbrev pub find_in : ℕ → ℕ → List ℕ → ℕ → Place
find_in r i [] s = nowhere
find_in r i (x ∷ xs) s = if x == s then place r i else find_in r (suc i) xs s

-- in lists, from a register on
abbrev pub find_from : ℕ → List (List ℕ) → ℕ → Place
find_from r [] s = nowhere
find_from r (l ∷ ls) s = if has l s then find_in r 0 l s else find_from (suc r) ls s

find_in_is : (r i : ℕ) (l : List ℕ) (s : ℕ) → find_in r i l s ≡ (if has l s then place r (i + position_in l s) else nowhere)
find_in_is r i [] s = refl
find_in_is r i (x ∷ xs) s = by (x == s) (find_in_is r (suc i) xs s ∙ at (has xs s))
  where
    at : (b : Bool) → (if b then place r (suc i + position_in xs s) else nowhere) ≡ (if b then place r (i + suc (position_in xs s)) else nowhere)
    at b = ap (λ n. if b then place r n else nowhere) (omega arith)

    by : (t : Bool) → find_in r (suc i) xs s ≡ (if has xs s then place r (i + suc (position_in xs s)) else nowhere) → (if t then place r i else find_in r (suc i) xs s) ≡ (if t || has xs s then place r (i + (if t then 0 else suc (position_in xs s))) else nowhere)
    by true rest = ap (place r) (omega arith)
    by false rest = rest

find_from_is : (r : ℕ) (ls : List (List ℕ)) (s : ℕ) → find_from r ls s ≡ (if has (concat ls) s then place (r + list_of ls s) (place_in ls s) else nowhere)
find_from_is r [] s = refl
find_from_is r (l ∷ ls) s = rw (list_any-append (λ x. x == s) l (concat ls)) (by (has l s) refl (find_from_is (suc r) ls s ∙ at (has (concat ls) s)))
  where
    at : (b : Bool) → (if b then place (suc r + list_of ls s) (place_in ls s) else nowhere) ≡ (if b then place (r + suc (list_of ls s)) (place_in ls s) else nowhere)
    at b = ap (λ n. if b then place n (place_in ls s) else nowhere) (omega arith)

    by : (t : Bool) → has l s ≡ t → find_from (suc r) ls s ≡ (if has (concat ls) s then place (r + suc (list_of ls s)) (place_in ls s) else nowhere) → (if t then find_in r 0 l s else find_from (suc r) ls s) ≡ (if t || has (concat ls) s then place (r + (if t then 0 else suc (list_of ls s))) (if t then position_in l s else place_in ls s) else nowhere)
    by true e rest = find_in_is r 0 l s ∙ rw e (ap₂ place (omega arith) (omega arith))
    by false e rest = rest

pub placed_is : (ls : List (List ℕ)) (s : ℕ) → placed ls s ≡ find_from 0 ls s
placed_is ls s = ap (λ n. if has (concat ls) s then place n (place_in ls s) else nowhere) (omega arith) ∙ sym (find_from_is 0 ls s)

eqb_comm : (a b : ℕ) → (a == b) ≡ (b == a)
eqb_comm a b = grind (arith, nat_tests)

other_than : (x c s : ℕ) → (s == c) ≡ true → (x == c) ≡ false → (x == s) ≡ false
other_than x c s e n = rw (eqb-true s c e) n

-- one more scalar at the end of a list that hasn't it
find_in_push : (r i : ℕ) (l : List ℕ) (c s : ℕ) → has l c ≡ false → find_in r i (l ++ (c ∷ [])) s ≡ (if s == c then place r (i + length l) else find_in r i l s)
find_in_push r i [] c s new = rw (eqb_comm c s) (ap (λ n. if s == c then place r n else nowhere) (omega arith))
find_in_push r i (x ∷ xs) c s new = by (x == s) (s == c) refl refl (find_in_push r (suc i) xs c s (or_parts (x == c) (has xs c) new).1 ∙ at (s == c))
  where
    at : (b : Bool) → (if b then place r (suc i + length xs) else find_in r (suc i) xs s) ≡ (if b then place r (i + suc (length xs)) else find_in r (suc i) xs s)
    at b = ap (λ n. if b then place r n else find_in r (suc i) xs s) (omega arith)

    by : (t u : Bool) → (x == s) ≡ t → (s == c) ≡ u → find_in r (suc i) (xs ++ (c ∷ [])) s ≡ (if u then place r (i + suc (length xs)) else find_in r (suc i) xs s) → (if t then place r i else find_in r (suc i) (xs ++ (c ∷ [])) s) ≡ (if u then place r (i + suc (length xs)) else (if t then place r i else find_in r (suc i) xs s))
    by true true e f rest = absurd (true≢false (sym e ∙ other_than x c s f (or_parts (x == c) (has xs c) new).0))
    by true false e f rest = refl
    by false u e f rest = rest

has_push : (l : List ℕ) (c s : ℕ) → (s == c) ≡ false → has (l ++ (c ∷ [])) s ≡ has l s
has_push l c s e = list_any-append (λ x. x == s) l (c ∷ []) ∙ rw (eqb_comm c s, e) (or-false (has l s))

has_pushed : (l : List ℕ) (c s : ℕ) → (s == c) ≡ true → has (l ++ (c ∷ [])) s ≡ true
has_pushed l c s e = list_any-append (λ x. x == s) l (c ∷ []) ∙ rw (eqb_comm c s, e) (or-true (has l s))

find_in_none : (r i : ℕ) (l : List ℕ) (s : ℕ) → has l s ≡ false → find_in r i l s ≡ nowhere
find_in_none r i l s e = find_in_is r i l s ∙ rw e refl

-- one more scalar at the end of the last list
find_from_push : (r : ℕ) (ls : List (List ℕ)) (l : List ℕ) (c s : ℕ) → has (concat ls) c ≡ false → has l c ≡ false → find_from r (ls ++ ((l ++ (c ∷ [])) ∷ [])) s ≡ (if s == c then place (r + length ls) (length l) else find_from r (ls ++ (l ∷ [])) s)
find_from_push r [] l c s new last = by (s == c) refl
  where
    by : (t : Bool) → (s == c) ≡ t → (if has (l ++ (c ∷ [])) s then find_in r 0 (l ++ (c ∷ [])) s else nowhere) ≡ (if t then place (r + 0) (length l) else (if has l s then find_in r 0 l s else nowhere))
    by true e = rw (has_pushed l c s e, find_in_push r 0 l c s last, e) (ap₂ place (omega arith) (omega arith))
    by false e = rw (has_push l c s e, find_in_push r 0 l c s last, e) refl
find_from_push r (k ∷ ks) l c s new last =
    let parts = or_parts (has k c) (has (concat ks) c) (sym (list_any-append (λ x. x == c) k (concat ks)) ∙ new) in
    by (has k s) (s == c) refl refl parts.0 (find_from_push (suc r) ks l c s parts.1 last ∙ at (s == c))
  where
    at : (b : Bool) → (if b then place (suc r + length ks) (length l) else find_from (suc r) (ks ++ (l ∷ [])) s) ≡ (if b then place (r + suc (length ks)) (length l) else find_from (suc r) (ks ++ (l ∷ [])) s)
    at b = ap (λ n. if b then place n (length l) else find_from (suc r) (ks ++ (l ∷ [])) s) (omega arith)

    by : (t u : Bool) → has k s ≡ t → (s == c) ≡ u → has k c ≡ false → find_from (suc r) (ks ++ ((l ++ (c ∷ [])) ∷ [])) s ≡ (if u then place (r + suc (length ks)) (length l) else find_from (suc r) (ks ++ (l ∷ [])) s) → (if t then find_in r 0 k s else find_from (suc r) (ks ++ ((l ++ (c ∷ [])) ∷ [])) s) ≡ (if u then place (r + suc (length ks)) (length l) else (if t then find_in r 0 k s else find_from (suc r) (ks ++ (l ∷ [])) s))
    by true true e f without rest = absurd (true≢false (sym e ∙ ap (has k) (eqb-true s c f) ∙ without))
    by true false e f without rest = refl
    by false u e f without rest = rest

-- an open list without a scalar changes nothing
find_from_open : (r : ℕ) (ls : List (List ℕ)) (s : ℕ) → find_from r (ls ++ ([] ∷ [])) s ≡ find_from r ls s
find_from_open r [] s = refl
find_from_open r (l ∷ ls) s = ap (λ rest. if has l s then find_in r 0 l s else rest) (find_from_open (suc r) ls s)

pub placed_push : (ls : List (List ℕ)) (l : List ℕ) (c s : ℕ) → has (concat ls) c ≡ false → has l c ≡ false → placed (ls ++ ((l ++ (c ∷ [])) ∷ [])) s ≡ (if s == c then place (length ls) (length l) else placed (ls ++ (l ∷ [])) s)
placed_push ls l c s new last = placed_is (ls ++ ((l ++ (c ∷ [])) ∷ [])) s ∙ find_from_push 0 ls l c s new last ∙ rw (placed_is (ls ++ (l ∷ [])) s) (ap (λ n. if s == c then place n (length l) else find_from 0 (ls ++ (l ∷ [])) s) (omega arith))

pub placed_open : (ls : List (List ℕ)) (s : ℕ) → placed (ls ++ ([] ∷ [])) s ≡ placed ls s
placed_open ls s = placed_is (ls ++ ([] ∷ [])) s ∙ find_from_open 0 ls s ∙ sym (placed_is ls s)
