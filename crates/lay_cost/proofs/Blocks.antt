-- What is kept along a block.
use Rattle.std.proofs.Common.{◌≡◌, ℕ, ◌+◌, ◌<◌, ◌≤◌, Bool, true, false, cond, ◌||◌, nat_le, ℤ, List, [], ◌∷◌, length, get_or, take, replicate, Option, Some, None, fold, filter, refl, ap, ◌∙◌, ⊎_elim, arith, if◌then◌else◌, lit≤}
use Rattle.std.proofs.lemmas.List.{get_or-replicate, get_or_past, length-replicate}
use Rattle.std.proofs.lemmas.List.Elements.{filter_more}
use Rattle.std.proofs.lemmas.List.Sums.{fold-append}
use Rattle.std.proofs.lemmas.Bool.{cases_lt}
use Rattle.lay_cost.specs.Cost.{access_cost, is_by_step, distance}

-- a fold over what a filter keeps, with one more element
pub fold_filter_more : {X B : Type 0} (f : B → X → B) (a : B) (p : X → Bool) (xs : List X) (i : ℕ) (d : X) → i < length xs → fold f a (filter p (take (i + 1) xs)) ≡ (if p (get_or xs i d) then f (fold f a (filter p (take i xs))) (get_or xs i d) else fold f a (filter p (take i xs)))
fold_filter_more {X} {B} f a p xs i d h = ap (fold f a) (filter_more p xs i d h) ∙ fold-append f a (filter p (take i xs)) (cond (p x) (x ∷ []) []) ∙ by (p x) (fold f a (filter p (take i xs)))
  where
    x : X
    x = get_or xs i d

    by : (t : Bool) (z : B) → fold f z (cond t (get_or xs i d ∷ []) []) ≡ cond t (f z (get_or xs i d)) z
    by true z = refl
    by false z = refl

zero_or_one : (t : Bool) → (if t then 0 else 1) ≤ 1
zero_or_one true = lit≤ tt
zero_or_one false = lit≤ tt

pub access_cost_le : (step : ℕ) (last : Option ℤ) (offset : ℤ) → access_cost step last offset ≤ 1
access_cost_le step None offset = lit≤ tt
access_cost_le step (Some last) offset = zero_or_one (nat_le (distance last offset) 1 || is_by_step step (distance last offset))

-- a list of one value alone, read anywhere
pub get_or_same : {A : Type 0} (d : A) (n r : ℕ) → get_or (replicate n d) r d ≡ d
get_or_same d n r = ⊎_elim (λ lt. get_or-replicate n r d d lt) (λ le. get_or_past (replicate n d) r d (omega (arith, length-replicate n d))) (cases_lt r n)
