-- Where scalars stand whose lists have others behind them.
use Rattle.std.proofs.Common.{◌≡◌, ◌<◌, ◌+◌, ◌∙◌, ◌++◌, ℕ, suc, List, [], ◌∷◌, Bool, true, false, refl, length, ap, sym, arith}
use Rattle.std.specs.Prelude.{◌⊎◌, ◌||◌, if◌then◌else◌}
use Rattle.std.specs.List.{concat}
use Rattle.std.proofs.lemmas.Bool.{or_parts, both_ways}
use Rattle.std.proofs.lemmas.List.Folds.{list_any-append}
use Rattle.lay_cost.specs.Placements.{has, list_of, place_in, position_in}

pub has_append : (xs ys : List ℕ) (s : ℕ) → has (xs ++ ys) s ≡ (has xs s || has ys s)
has_append xs ys s = list_any-append (λ t. Rattle.std.specs.Prelude.◌==◌ t s) xs ys

-- a scalar of the first lists
pub record IsPlacedAs (cs os : List (List ℕ)) (s : ℕ) : Type 0 where
  pub register : list_of (cs ++ os) s ≡ list_of cs s
  pub below : list_of cs s < length cs
  pub place : place_in (cs ++ os) s ≡ place_in cs s

pub placed_in_front : (cs os : List (List ℕ)) (s : ℕ) → has (concat cs) s ≡ true → IsPlacedAs cs os s
placed_in_front [] os s e = absurd (both_ways false refl e)
placed_in_front (c ∷ cs) os s e = go (has c s) refl (λ f. placed_in_front cs os s (sym (ap (λ b. b || has (concat cs) s) f) ∙ sym (has_append c (concat cs) s) ∙ e))
  where
    go : (b : Bool) → has c s ≡ b → (has c s ≡ false → IsPlacedAs cs os s) → IsPlacedAs (c ∷ cs) os s
    go true is more = record { register = rw (is) refl; below = rw (is) (omega arith); place = rw (is) refl }
    go false is more = let h = more is in record { register = rw (is) (ap suc h.register); below = rw (is) (omega (arith, h.below)); place = rw (is) h.place }

-- another one
pub record IsPlacedBehind (cs os : List (List ℕ)) (s : ℕ) : Type 0 where
  pub register : list_of (cs ++ os) s ≡ length cs + list_of os s
  pub place : place_in (cs ++ os) s ≡ place_in os s

pub placed_behind : (cs os : List (List ℕ)) (s : ℕ) → has (concat cs) s ≡ false → IsPlacedBehind cs os s
placed_behind [] os s e = record { register = omega arith; place = refl }
placed_behind (c ∷ cs) os s e =
    let parts = or_parts (has c s) (has (concat cs) s) (sym (has_append c (concat cs) s) ∙ e) in
    let h = placed_behind cs os s parts.1
    in record { register = rw (parts.0) (omega (arith, h.register)); place = rw (parts.0) h.place }

-- the register of a list behind others
pub placed_last : (cs : List (List ℕ)) (list : List ℕ) (s : ℕ) → has (concat cs) s ≡ false → has list s ≡ true → (list_of (cs ++ (list ∷ [])) s ≡ length cs) × (place_in (cs ++ (list ∷ [])) s ≡ position_in list s)
placed_last cs list s out inside =
    let h = placed_behind cs (list ∷ []) s out in
    let first : list_of (list ∷ []) s ≡ 0 = rw (inside) refl in
    let at : place_in (list ∷ []) s ≡ position_in list s = rw (inside) refl
    in (omega (arith, h.register, first), h.place ∙ at)
