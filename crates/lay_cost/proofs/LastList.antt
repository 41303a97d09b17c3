-- At a step of 1 lists of all the scalars cost what the others cost, and what the last one adds.
use Rattle.std.proofs.Common.{◌≡◌, ℕ, ◌+◌, ◌*◌, Bool, true, false, cond, not, ◌||◌, List, [], ◌∷◌, ◌++◌, filter, sum_by, refl, ap, ap₂, sym, ◌∙◌, arith, if◌then◌else◌, append-nil}
use Rattle.std.specs.Prelude.{All}
use Rattle.std.specs.List.{concat, list_any}
use Rattle.std.proofs.Math.Path.{fun_ext}
use Rattle.std.proofs.lemmas.List.Elements.{All-head, All-tail, All-weaker}
use Rattle.std.proofs.lemmas.List.Sums.{sum_by-cons}
use Rattle.lay_model.specs.Sequences.{Sequence, Block}
use Rattle.lay_cost.specs.Placements.{has, placement_of}
use Rattle.lay_cost.specs.Cost.{cost_of, arranged_cost}
use Rattle.lay_cost.specs.Restricted.{loads}
use Rattle.lay_cost.specs.Weights.{times_beside, weight_between, sum_of_pairs, sum_of_adjacent}
use Rattle.lay_cost.specs.Parts.{part_cost_of, is_outside, StandOnce, AreMembers}
use Rattle.lay_cost.proofs.Restrictions.{Passes, restricted_to_all}
use Rattle.lay_cost.proofs.Adding.{parts_add, apart_from, in_both}
use Rattle.lay_cost.proofs.OneList.{list_costs}

abbrev Agree : (ℕ → Bool) → (ℕ → Bool) → ℕ → Type 0
Agree p q s = p s ≡ q s

filter_on : (p q : ℕ → Bool) (xs : List ℕ) → All (Agree p q) xs → filter p xs ≡ filter q xs
filter_on p q [] all = refl
filter_on p q (x ∷ xs) all = ap₂ (λ t l. cond t (x ∷ l) l) (All-head (Agree p q) x xs all) (filter_on p q xs (All-tail (Agree p q) x xs all))

any_on : (p q : ℕ → Bool) (xs : List ℕ) → All (Agree p q) xs → list_any p xs ≡ list_any q xs
any_on p q [] all = refl
any_on p q (x ∷ xs) all = ap₂ (λ s t. s || t) (All-head (Agree p q) x xs all) (any_on p q xs (All-tail (Agree p q) x xs all))

abbrev AgreeIn : (ℕ → Bool) → (ℕ → Bool) → Block → Type 0
AgreeIn p q b = All (Agree p q) b.accesses

sum_on : (f g : Block → ℕ) (bs : List Block) → All (λ b. f b ≡ g b) bs → sum_by f bs ≡ sum_by g bs
sum_on f g [] all = refl
sum_on f g (b ∷ bs) all = sum_by-cons f b bs ∙ ap₂ (λ m n. m + n) (All-head (λ b. f b ≡ g b) b bs all) (sum_on f g bs (All-tail (λ b. f b ≡ g b) b bs all)) ∙ sym (sum_by-cons g b bs)

-- sets that have the same accesses have the same loads and weights
loads_on : (seq : Sequence) (p q : ℕ → Bool) → All (AgreeIn p q) seq.blocks → loads seq p ≡ loads seq q
loads_on seq p q all = sum_on (λ b. if list_any p b.accesses then b.weight else 0) (λ b. if list_any q b.accesses then b.weight else 0) seq.blocks (All-weaker (AgreeIn p q) (λ b. (if list_any p b.accesses then b.weight else 0) ≡ (if list_any q b.accesses then b.weight else 0)) (λ b same. ap (λ t. if t then b.weight else 0) (any_on p q b.accesses same)) seq.blocks all)

weight_on : (seq : Sequence) (p q : ℕ → Bool) (x y : ℕ) → All (AgreeIn p q) seq.blocks → weight_between seq p x y ≡ weight_between seq q x y
weight_on seq p q x y all = sum_on (λ b. b.weight * times_beside x y (filter p b.accesses)) (λ b. b.weight * times_beside x y (filter q b.accesses)) seq.blocks (All-weaker (AgreeIn p q) (λ b. b.weight * times_beside x y (filter p b.accesses) ≡ b.weight * times_beside x y (filter q b.accesses)) (λ b same. ap (λ l. b.weight * times_beside x y l) (filter_on p q b.accesses same)) seq.blocks all)

-- a scalar of the lists is outside the closed ones where it is in the last one
outside_is_last : (cs : List (List ℕ)) (l : List ℕ) (s : ℕ) → StandOnce (concat (cs ++ (l ∷ []))) → has (concat (cs ++ (l ∷ []))) s ≡ true → is_outside cs s ≡ has l s
outside_is_last cs l s once e = by (has (concat cs) s) refl
  where
    alone : has (concat (l ∷ [])) s ≡ has l s
    alone = ap (λ k. has k s) (append-nil l)

    either : (has (concat cs) s || has (concat (l ∷ [])) s) ≡ true
    either = sym (in_both cs (l ∷ []) s) ∙ e

    by : (t : Bool) → has (concat cs) s ≡ t → not t ≡ has l s
    by true is = sym (apart_from cs (l ∷ []) s once is) ∙ alone
    by false is = sym (ap (λ t. t || has (concat (l ∷ [])) s) (sym is) ∙ either) ∙ alone

-- the lists cost what the closed ones do, the loads of the other scalars, and each two neighbours of these that don't lie beside one another
pub last_list_costs : (seq : Sequence) (cs : List (List ℕ)) (l ms : List ℕ) → seq.step ≡ 1 → StandOnce (concat (cs ++ (l ∷ []))) → All (λ b. All (Passes (has (concat (cs ++ (l ∷ []))))) b.accesses) seq.blocks → AreMembers l ms → arranged_cost seq (cs ++ (l ∷ [])) + sum_of_adjacent (weight_between seq (is_outside cs)) l ≡ part_cost_of seq cs + (loads seq (is_outside cs) + sum_of_pairs (weight_between seq (is_outside cs)) ms)
last_list_costs seq cs l ms one once there of =
    let ls = cs ++ (l ∷ []) in
    let same : All (AgreeIn (is_outside cs) (has l)) seq.blocks = All-weaker (λ b. All (Passes (has (concat ls))) b.accesses) (AgreeIn (is_outside cs) (has l)) (λ b all. All-weaker (Passes (has (concat ls))) (Agree (is_outside cs) (has l)) (λ s e. outside_is_last cs l s once e) b.accesses all) seq.blocks there in
    let weights : weight_between seq (is_outside cs) ≡ weight_between seq (has l) = fun_ext (λ x. fun_ext (λ y. weight_on seq (is_outside cs) (has l) x y same)) in
    let whole : part_cost_of seq ls ≡ arranged_cost seq ls = ap (λ r. cost_of r (placement_of ls)) (restricted_to_all seq (has (concat ls)) there) in
    omega (
      arith,
      whole,
      parts_add seq cs (l ∷ []) one once,
      list_costs seq l ms one of,
      loads_on seq (is_outside cs) (has l) same,
      ap (λ w. sum_of_adjacent w l) weights,
      ap (λ w. sum_of_pairs w ms) weights,
    )
