-- AR0 is loaded where some move between the accesses of a run is by the step.
use Rattle.std.proofs.Common.{◌≡◌, ℕ, Bool, true, false, if◌then◌else◌, List, [], ◌∷◌, Option, Some, None, refl, sym, ap, ◌∙◌, eqb-true, eq-eqb, subst}
use Rattle.std.specs.Prelude.{◌==◌, pos, option_map}
use Rattle.std.proofs.lemmas.Bool.{or_left, or_right, or_from, ne_eqb, eqb-false}
use Rattle.emit_blocks.specs.declared.site.ScalarPlace.{ScalarPlace}
use Rattle.emit_blocks.specs.declared.step.Reach.{Reach}
use Rattle.emit_blocks.specs.declared.step.Reach.TheVariants as reach
use Rattle.emit_blocks.specs.declared.step.Step.{Step}
use Rattle.emit_blocks.specs.Moves.{address_for, next_address, change_to, is_by_index, change_of_step, moves_by_index}
use Rattle.lay_cost.specs.Cost.{steps}
use Rattle.image_proof.proofs.Costs.{move_costs}
use Rattle.image_proof.proofs.Tallies.{with_last, are_stepped, no_last}

-- the places that steps access through registers of lists
abbrev pub with_place : Reach → List ScalarPlace → List ScalarPlace
with_place (reach.Scalar p) ps = p ∷ ps
with_place r ps = ps

abbrev pub accessed : List Step → List ScalarPlace
accessed [] = []
accessed (x ∷ xs) = with_place x.reach (accessed xs)

-- equality the other way round
pub turned : (a b : ℕ) (t : Bool) → (a == b) ≡ t → (b == a) ≡ t
turned a b true e = eq-eqb b a (sym (eqb-true a b e))
turned a b false e = ne_eqb b a (λ same. eqb-false a b e (sym same))

-- whether the next move of a register is by the step
abbrev by_next : ℕ → ℕ → ℕ → List Step → Bool
by_next d r l xs = is_by_index (change_to d l (next_address r xs))

-- the two forms of what a register has to hold next, by whether the place is on it
here_by : (d r l : ℕ) (p : ScalarPlace) (later : Option ℕ) (b t : Bool) → (p.register == r) ≡ b → is_by_index (change_to d l (if p.register == r then Some p.address else later)) ≡ t → is_by_index (change_to d l (if b then Some p.address else later)) ≡ t
here_by d r l p later b t e by = subst (λ u. is_by_index (change_to d l (if u then Some p.address else later)) ≡ t) e by

-- a move from the last access of a register is by the step where its change is
steps_so : (d r l : ℕ) (p : ScalarPlace) (last : ℕ → Option ℕ) (t : Bool) → (p.register == r) ≡ true → last r ≡ Some l → is_by_index (change_to d l (Some p.address)) ≡ t → steps d (option_map pos (last p.register)) (pos p.address) ≡ t
steps_so d r l p last t e is by =
    ap (λ o. steps d (option_map pos o) (pos p.address)) (ap last (eqb-true p.register r e) ∙ is) ∙ sym (move_costs d l p.address).by_step ∙ by

-- a change by the step that is to come is made
comes_by : (d r l : ℕ) (x : Reach) (xs : List Step) (last : ℕ → Option ℕ) → ((other : ℕ → Option ℕ) → other r ≡ Some l → by_next d r l xs ≡ true → are_stepped d other (accessed xs) ≡ true) → last r ≡ Some l → is_by_index (change_to d l (address_for r x (next_address r xs))) ≡ true → are_stepped d last (with_place x (accessed xs)) ≡ true
comes_by d r l (reach.Scalar p) xs last rest is by = choose (p.register == r) refl
  where
    choose : (b : Bool) → (p.register == r) ≡ b → are_stepped d last (p ∷ accessed xs) ≡ true
    choose true e =
        or_left (steps d (option_map pos (last p.register)) (pos p.address)) (are_stepped d (with_last last p) (accessed xs))
        (steps_so d r l p last true e is (here_by d r l p (next_address r xs) true true e by))
    choose false e =
        or_right (steps d (option_map pos (last p.register)) (pos p.address)) (are_stepped d (with_last last p) (accessed xs))
        (rest (with_last last p) (ap (λ t. if t then Some p.address else last r) (turned p.register r false e) ∙ is) (here_by d r l p (next_address r xs) false true e by))
comes_by d r l reach.Pointer xs last rest is by = rest last is by
comes_by d r l (reach.Word a) xs last rest is by = rest last is by
comes_by d r l (reach.Constant c) xs last rest is by = rest last is by

comes : (d r l : ℕ) (xs : List Step) (last : ℕ → Option ℕ) → last r ≡ Some l → by_next d r l xs ≡ true → are_stepped d last (accessed xs) ≡ true
comes d r l [] last is by = absurd cc
comes d r l (x ∷ xs) last is by = comes_by d r l x.reach xs last (comes d r l xs) is by

-- where AR0 is loaded some move is by the step
loaded_by : (d : ℕ) (x : Reach) (xs : List Step) (last : ℕ → Option ℕ) → ((other : ℕ → Option ℕ) → moves_by_index d xs ≡ true → are_stepped d other (accessed xs) ≡ true) → (if is_by_index (change_of_step d x xs) then true else moves_by_index d xs) ≡ true → are_stepped d last (with_place x (accessed xs)) ≡ true
loaded_by d (reach.Scalar p) xs last rest by =
    or_right (steps d (option_map pos (last p.register)) (pos p.address)) (are_stepped d (with_last last p) (accessed xs))
    (choose (is_by_index (change_to d p.address (next_address p.register xs))) refl)
  where
    later : (b : Bool) → (if b then true else moves_by_index d xs) ≡ true → b ≡ false → moves_by_index d xs ≡ true
    later true e f = absurd cc
    later false e f = e

    choose : (b : Bool) → is_by_index (change_to d p.address (next_address p.register xs)) ≡ b → are_stepped d (with_last last p) (accessed xs) ≡ true
    choose true e = comes d p.register p.address xs (with_last last p) (ap (λ t. if t then Some p.address else last p.register) (eq-eqb p.register p.register refl)) e
    choose false e = rest (with_last last p) (later (is_by_index (change_to d p.address (next_address p.register xs))) by e)
loaded_by d reach.Pointer xs last rest by = rest last by
loaded_by d (reach.Word a) xs last rest by = rest last by
loaded_by d (reach.Constant c) xs last rest by = rest last by

loaded : (d : ℕ) (xs : List Step) (last : ℕ → Option ℕ) → moves_by_index d xs ≡ true → are_stepped d last (accessed xs) ≡ true
loaded d [] last by = absurd cc
loaded d (x ∷ xs) last by = loaded_by d x.reach xs last (loaded d xs) by

-- where none is to come and AR0 isn't loaded none is
abbrev NoneComes : ℕ → List Step → (ℕ → Option ℕ) → Type 0
NoneComes d xs last = (r l : ℕ) → last r ≡ Some l → by_next d r l xs ≡ false

neither : (b c : Bool) → (if b then true else c) ≡ false → (b ≡ false) × (c ≡ false)
neither true c e = absurd cc
neither false c e = (refl, e)

quiet_by : (d : ℕ) (x : Reach) (xs : List Step) (last : ℕ → Option ℕ) → ((other : ℕ → Option ℕ) → moves_by_index d xs ≡ false → NoneComes d xs other → are_stepped d other (accessed xs) ≡ false)
    → (if is_by_index (change_of_step d x xs) then true else moves_by_index d xs) ≡ false → ((r l : ℕ) → last r ≡ Some l → is_by_index (change_to d l (address_for r x (next_address r xs))) ≡ false) → are_stepped d last (with_place x (accessed xs)) ≡ false
quiet_by d (reach.Scalar p) xs last rest by none =
    or_from (steps d (option_map pos (last p.register)) (pos p.address)) (are_stepped d (with_last last p) (accessed xs))
    (first (last p.register) refl)
    (rest (with_last last p) parts.1 others)
  where
    parts : (is_by_index (change_to d p.address (next_address p.register xs)) ≡ false) × (moves_by_index d xs ≡ false)
    parts = neither (is_by_index (change_to d p.address (next_address p.register xs))) (moves_by_index d xs) by

    same : (p.register == p.register) ≡ true
    same = eq-eqb p.register p.register refl

    first : (known : Option ℕ) → last p.register ≡ known → steps d (option_map pos (last p.register)) (pos p.address) ≡ false
    first None e = ap (λ o. steps d (option_map pos o) (pos p.address)) e
    first (Some l) e = steps_so d p.register l p last false same e (here_by d p.register l p (next_address p.register xs) true false same (none p.register l e))

    others : NoneComes d xs (with_last last p)
    others r l is = choose (r == p.register) refl
      where
        choose : (b : Bool) → (r == p.register) ≡ b → by_next d r l xs ≡ false
        choose true e =
            let at : Some p.address ≡ Some l = sym (ap (λ t. if t then Some p.address else last r) e) ∙ is in
            let address : p.address ≡ l = cc in
            subst (λ q. by_next d q l xs ≡ false) (sym (eqb-true r p.register e)) (subst (λ a. by_next d p.register a xs ≡ false) address parts.0)
        choose false e =
            here_by d r l p (next_address r xs) false false (turned r p.register false e)
            (none r l (sym (ap (λ t. if t then Some p.address else last r) e) ∙ is))
quiet_by d reach.Pointer xs last rest by none = rest last by none
quiet_by d (reach.Word a) xs last rest by none = rest last by none
quiet_by d (reach.Constant c) xs last rest by none = rest last by none

quiet : (d : ℕ) (xs : List Step) (last : ℕ → Option ℕ) → moves_by_index d xs ≡ false → NoneComes d xs last → are_stepped d last (accessed xs) ≡ false
quiet d [] last by none = refl
quiet d (x ∷ xs) last by none = quiet_by d x.reach xs last (quiet d xs) by none

-- so AR0 is loaded where the block pays for the load of the step
pub index_is : (d : ℕ) (xs : List Step) → moves_by_index d xs ≡ are_stepped d no_last (accessed xs)
index_is d xs = choose (moves_by_index d xs) refl
  where
    choose : (b : Bool) → moves_by_index d xs ≡ b → b ≡ are_stepped d no_last (accessed xs)
    choose true e = sym (loaded d xs no_last e)
    choose false e = sym (quiet d xs no_last e (λ r l is. absurd cc))
