-- The table of weights has what a greedy list asks for.
use Rattle.std.proofs.Common.{◌≡◌, ◌<◌, ◌≤◌, ◌*◌, ◌∙◌, ◌++◌, ℕ, List, [], ◌∷◌, Bool, cond, refl, map, filter, fold, sum_by, flat_map, ap, ap₂, arith, lt_of_lt_of_le}
use Rattle.std.specs.Prelude.{All}
use Rattle.std.proofs.lemmas.List.Elements.{All-head, All-tail}
use Rattle.std.proofs.lemmas.List.Sums.{sum_by-cons}
use Rattle.lay_model.specs.Sequences.{Sequence, Block, IsSequence}
use Rattle.lay_cost.specs.Placements.{has}
use Rattle.lay_cost.specs.Restricted.{in_bits}
use Rattle.lay_cost.specs.Weights.{AreWeights, times_beside, weight_at, weight_between}
use Rattle.lay_tree.specs.Greedy.{edge_of, edges_among, has_weight, in_order, with_edge, paths_of, first_with, is_smallest, from_smaller_end, greedy_list}

-- numbers by which two scalars below 64 are alike
abbrev Alike : (w v : ℕ → ℕ → ℕ) → Type 0
Alike w v = (a b : ℕ) → a < 64 → b < 64 → w a b ≡ v a b

edges_of_same : (w v : ℕ → ℕ → ℕ) → Alike w v → (s : ℕ) (ss : List ℕ) → s < 64 → All (λ t. t < 64) ss → map (edge_of w s) ss ≡ map (edge_of v s) ss
edges_of_same w v same s [] lt all = refl
edges_of_same w v same s (t ∷ ts) lt all = ap₂ (λ n es. record { weight = n; low = s; high = t } ∷ es) (same s t lt (All-head (λ u. u < 64) t ts all)) (edges_of_same w v same s ts lt (All-tail (λ u. u < 64) t ts all))

edges_same : (w v : ℕ → ℕ → ℕ) → Alike w v → (ss : List ℕ) → All (λ t. t < 64) ss → edges_among w ss ≡ edges_among v ss
edges_same w v same [] all = refl
edges_same w v same (s ∷ ss) all =
    let rest = All-tail (λ u. u < 64) s ss all
    in ap₂ (λ these others. these ++ others) (edges_of_same w v same s ss (All-head (λ u. u < 64) s ss all) rest) (edges_same w v same ss rest)

filter_same : (p q : ℕ → Bool) (n : ℕ) (xs : List ℕ) → n ≤ 64 → ((s : ℕ) → s < 64 → p s ≡ q s) → All (λ s. s < n) xs → filter p xs ≡ filter q xs
filter_same p q n [] few same all = refl
filter_same p q n (x ∷ xs) few same all = ap₂ (λ b rest. cond b (x ∷ rest) rest) (same x (lt_of_lt_of_le (All-head (λ s. s < n) x xs all) few)) (filter_same p q n xs few same (All-tail (λ s. s < n) x xs all))

blocks_same : (p q : ℕ → Bool) (n x y : ℕ) (bs : List Block) → n ≤ 64 → ((s : ℕ) → s < 64 → p s ≡ q s) → All (λ b. All (λ s. s < n) b.accesses) bs → sum_by (λ b. b.weight * times_beside x y (filter p b.accesses)) bs ≡ sum_by (λ b. b.weight * times_beside x y (filter q b.accesses)) bs
blocks_same p q n x y [] few same all = refl
blocks_same p q n x y (b ∷ bs) few same all =
    let first = ap (λ l. b.weight * times_beside x y l) (filter_same p q n b.accesses few same (All-head (λ c. All (λ s. s < n) c.accesses) b bs all)) in
    let rest = blocks_same p q n x y bs few same (All-tail (λ c. All (λ s. s < n) c.accesses) b bs all)
    in omega (arith, first, rest, sum_by-cons (λ c. c.weight * times_beside x y (filter p c.accesses)) b bs, sum_by-cons (λ c. c.weight * times_beside x y (filter q c.accesses)) b bs)

-- the greedy list by a table of weights
pub greedy_is : (seq : Sequence) (bits : ℕ) (table members : List ℕ) → IsSequence seq → AreWeights seq (in_bits bits) table → ((s : ℕ) → s < 64 → in_bits bits s ≡ has members s) → All (λ s. s < 64) members → flat_map (λ s. from_smaller_end (first_with (is_smallest s) (paths_of (weight_at table) members))) members ≡ greedy_list seq members
greedy_is seq bits table members sequence weights set all =
    let same : Alike (weight_at table) (weight_between seq (has members)) = λ a b a_lt b_lt. weights.weights a b a_lt b_lt ∙ blocks_same (in_bits bits) (has members) seq.scalars a b seq.blocks sequence.few set sequence.scalars in
    ap (λ edges. flat_map (λ s. from_smaller_end (first_with (is_smallest s) (fold with_edge (map (λ t. t ∷ []) members) (in_order (filter has_weight edges))))) members)
    (edges_same (weight_at table) (weight_between seq (has members)) same members all)
