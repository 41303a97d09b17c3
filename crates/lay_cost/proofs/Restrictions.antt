-- Sequences restricted to a set.
use Rattle.std.proofs.Common.{◌≡◌, ℕ, Bool, true, List, [], ◌∷◌, map, get_or, filter, refl, ap, ap₂}
use Rattle.std.specs.Prelude.{All}
use Rattle.std.proofs.lemmas.List.Elements.{All-head, All-tail, All-map, filter_passes}
use Rattle.lay_model.specs.Sequences.{Sequence, Block}
use Rattle.lay_cost.specs.Restricted.{restricted, restricted_block}

abbrev pub Passes : (ℕ → Bool) → ℕ → Type 0
Passes set s = set s ≡ true

each_passes : (set : ℕ → Bool) (bs : List Block) → All (λ b. All (Passes set) b.accesses) (map (restricted_block set) bs)
each_passes set bs = All-map (λ b. All (Passes set) b.accesses) (restricted_block set) bs (λ k d lt. filter_passes set (get_or bs k d).accesses)

-- its accesses are those of the set
pub restricted_passes : (seq : Sequence) (set : ℕ → Bool) → All (λ b. All (Passes set) b.accesses) (restricted seq set).blocks
restricted_passes seq set = each_passes set seq.blocks

pub filter_all : (set : ℕ → Bool) (xs : List ℕ) → All (Passes set) xs → filter set xs ≡ xs
filter_all set [] all = refl
filter_all set (x ∷ xs) all = rw (All-head (Passes set) x xs all) (ap (λ l. x ∷ l) (filter_all set xs (All-tail (Passes set) x xs all)))

blocks_kept : (set : ℕ → Bool) (bs : List Block) → All (λ b. All (Passes set) b.accesses) bs → map (restricted_block set) bs ≡ bs
blocks_kept set [] all = refl
blocks_kept set (b ∷ bs) all = ap₂ (λ xs l. record { weight = b.weight; accesses = xs } ∷ l) (filter_all set b.accesses (All-head (λ c. All (Passes set) c.accesses) b bs all)) (blocks_kept set bs (All-tail (λ c. All (Passes set) c.accesses) b bs all))

-- a set of all its scalars leaves it as it is
pub restricted_to_all : (seq : Sequence) (set : ℕ → Bool) → All (λ b. All (Passes set) b.accesses) seq.blocks → restricted seq set ≡ seq
restricted_to_all seq set all = ap (λ bs. record { scalars = seq.scalars; step = seq.step; blocks = bs }) (blocks_kept set seq.blocks all)
