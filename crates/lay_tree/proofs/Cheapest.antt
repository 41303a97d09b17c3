-- The cheapest one of some.
use Rattle.std.proofs.Common.{◌≡◌, ◌≤◌, ◌∙◌, ℕ, List, [], ◌∷◌, Bool, true, false, not, refl, map, ap, inl, inr, arith}
use Rattle.std.specs.Prelude.{◌⊎◌, nat_lt, filter, if◌then◌else◌}
use Rattle.std.proofs.lemmas.Bool.{ltb-true, ltb-false, cond-true, cond-false}
use Rattle.lay_model.specs.Sequences.{Sequence}
use Rattle.lay_cost.specs.Cost.{arranged_cost}
use Rattle.lay_tree.specs.Tree.{is_empty, all_scalars}
use Rattle.lay_tree.specs.Greedy.{cheapest, greedy_list, spread, starting_lists}
use Rattle.lay_tree.proofs.Members.{IsIn}

cheaper : {X : Type 0} (cost : X → ℕ) (x y : X) → (cost (if nat_lt (cost y) (cost x) then y else x) ≤ cost x) × (cost (if nat_lt (cost y) (cost x) then y else x) ≤ cost y)
cheaper cost x y = go (nat_lt (cost y) (cost x)) refl
  where
    go : (b : Bool) → nat_lt (cost y) (cost x) ≡ b → (cost (if b then y else x) ≤ cost x) × (cost (if b then y else x) ≤ cost y)
    go true is = (omega (arith, ltb-true (cost y) (cost x) is), omega arith)
    go false is = (omega arith, ltb-false (cost y) (cost x) is)

pub cheapest_first : {X : Type 0} (cost : X → ℕ) (x : X) (more : List X) → cost (cheapest cost x more) ≤ cost x
cheapest_first cost x [] = omega arith
cheapest_first cost x (y ∷ ys) = omega (arith, cheapest_first cost (if nat_lt (cost y) (cost x) then y else x) ys, (cheaper cost x y).0)

pub cheapest_each : {X : Type 0} (cost : X → ℕ) (x : X) (more : List X) (z : X) → IsIn z more → cost (cheapest cost x more) ≤ cost z
cheapest_each cost x [] z i = absurd i
cheapest_each cost x (y ∷ ys) z (inl same) =
    let first = cheapest_first cost (if nat_lt (cost y) (cost x) then y else x) ys
    in omega (arith, first, (cheaper cost x y).1, ap cost same)
cheapest_each cost x (y ∷ ys) z (inr i) = cheapest_each cost (if nat_lt (cost y) (cost x) then y else x) ys z i

-- it is one of them
pub cheapest_is : {X : Type 0} (cost : X → ℕ) (x : X) (more : List X) → (cheapest cost x more ≡ x) ⊎ IsIn (cheapest cost x more) more
cheapest_is cost x [] = inl refl
cheapest_is {X} cost x (y ∷ ys) = go (nat_lt (cost y) (cost x)) refl (cheapest_is cost (if nat_lt (cost y) (cost x) then y else x) ys)
  where
    go : (b : Bool) → nat_lt (cost y) (cost x) ≡ b → (cheapest cost (if nat_lt (cost y) (cost x) then y else x) ys ≡ (if nat_lt (cost y) (cost x) then y else x)) ⊎ IsIn (cheapest cost (if nat_lt (cost y) (cost x) then y else x) ys) ys
        → (cheapest cost (if nat_lt (cost y) (cost x) then y else x) ys ≡ x) ⊎ ((cheapest cost (if nat_lt (cost y) (cost x) then y else x) ys ≡ y) ⊎ IsIn (cheapest cost (if nat_lt (cost y) (cost x) then y else x) ys) ys)
    go b is (inr i) = inr (inr i)
    go true is (inl e) = inr (inl (e ∙ cond-true _ y x is))
    go false is (inl e) = inl (e ∙ cond-false _ y x is)

-- the starting layout costs at most what the rising order does
pub start_at_most_rising : (k : ℕ) (seq : Sequence) → arranged_cost seq (starting_lists k seq) ≤ arranged_cost seq (all_scalars seq ∷ [])
start_at_most_rising k seq = cheapest_each (arranged_cost seq) (map (greedy_list seq) (filter (λ list. not (is_empty list)) (spread k seq))) ((greedy_list seq (all_scalars seq) ∷ []) ∷ (all_scalars seq ∷ []) ∷ []) (all_scalars seq ∷ []) (inr (inl refl))
