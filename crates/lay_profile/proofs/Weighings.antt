-- Weighed blocks: what they are, what they cost, and one block more.
use Rattle.std.proofs.Common.{◌≡◌, ℕ, zero, suc, ◌+◌, ◌*◌, ◌^◌, ◌<◌, ◌≤◌, List, [], ◌∷◌, ◌++◌, length, get_or, drop, refl, sym, ap, ◌∙◌, arith, append_assoc}
use Rattle.std.specs.Prelude.{All, sum_by}
use Rattle.std.proofs.lemmas.List.{drop_more}
use Rattle.std.proofs.lemmas.List.Elements.{All-nil, All-cons, All-head, All-tail}
use Rattle.std.proofs.lemmas.List.Sums.{sum_by-cons}
use Rattle.std.proofs.lemmas.Nat.{mul-le}
use Rattle.lay_model.specs.Sequences.{Block, Sequence, IsBlock, IsSequence, counted}
use Rattle.lay_model.specs.Flat.{block_at}
use Rattle.lay_cost.specs.Placements.{Placement}
use Rattle.lay_cost.specs.Cost.{block_cost, cost_of}
use Rattle.lay_profile.specs.Weighing.{weighed_blocks, weighed, accesses_in, cost_of_counted, run_cost}

-- ---- they make a sequence

are_blocks : (blocks : List Block) (counts : List ℕ) → All IsBlock blocks → All IsBlock (weighed_blocks blocks counts)
are_blocks [] counts are = All-nil IsBlock
are_blocks (b ∷ blocks) [] are = All-nil IsBlock
are_blocks (b ∷ blocks) (zero ∷ counts) are = are_blocks blocks counts (All-tail IsBlock b blocks are)
are_blocks (b ∷ blocks) (suc n ∷ counts) are =
    let first = All-head IsBlock b blocks are in
    All-cons IsBlock (record { weight = suc n; accesses = b.accesses }) (weighed_blocks blocks counts)
    (record { counts = omega arith; some = first.some })
    (are_blocks blocks counts (All-tail IsBlock b blocks are))

-- a fact of each block's accesses
abbrev OfAccesses : (List ℕ → Type 0) → Block → Type 0
OfAccesses P b = P b.accesses

all_accesses : (P : List ℕ → Type 0) (blocks : List Block) (counts : List ℕ) → All (OfAccesses P) blocks → All (OfAccesses P) (weighed_blocks blocks counts)
all_accesses P [] counts all = All-nil (OfAccesses P)
all_accesses P (b ∷ blocks) [] all = All-nil (OfAccesses P)
all_accesses P (b ∷ blocks) (zero ∷ counts) all = all_accesses P blocks counts (All-tail (OfAccesses P) b blocks all)
all_accesses P (b ∷ blocks) (suc n ∷ counts) all =
    All-cons (OfAccesses P) (record { weight = suc n; accesses = b.accesses }) (weighed_blocks blocks counts)
    (All-head (OfAccesses P) b blocks all)
    (all_accesses P blocks counts (All-tail (OfAccesses P) b blocks all))

abbrev most : ℕ
most = 100000000

abbrev IsFew : ℕ → Type 0
IsFew n = n ≤ most

-- each access counts so often at most
few_counted : (blocks : List Block) (counts : List ℕ) → All IsFew counts → sum_by counted (weighed_blocks blocks counts) ≤ most * accesses_in blocks
few_counted [] counts few = omega arith
few_counted (b ∷ blocks) [] few = omega arith
few_counted (b ∷ blocks) (zero ∷ counts) few =
    omega (arith, few_counted blocks counts (All-tail IsFew zero counts few), sum_by-cons (λ (x : Block). length x.accesses) b blocks)
few_counted (b ∷ blocks) (suc n ∷ counts) few =
    let first : Block = record { weight = suc n; accesses = b.accesses } in
    let here : suc n * length b.accesses ≤ most * length b.accesses = mul-le (suc n) (length b.accesses) most (length b.accesses) (All-head IsFew (suc n) counts few) (omega arith) in
    omega (arith, here, few_counted blocks counts (All-tail IsFew (suc n) counts few), sum_by-cons (λ (x : Block). length x.accesses) b blocks, sum_by-cons counted first (weighed_blocks blocks counts))

pub is_sequence : (seq : Sequence) (counts : List ℕ) → IsSequence seq → All IsFew counts → accesses_in seq.blocks < 2 ^ 32 → IsSequence (weighed seq counts)
is_sequence seq counts is few short = record {
  few = is.few;
  moves = is.moves;
  near = is.near;
  blocks = are_blocks seq.blocks counts is.blocks;
  scalars = all_accesses (All (λ scalar. scalar < seq.scalars)) seq.blocks counts is.scalars;
  countable = omega (arith, few_counted seq.blocks counts few, short);
}

-- ---- what they cost

blocks_cost : (step : ℕ) (p : Placement) (blocks : List Block) (counts : List ℕ)
    → sum_by (λ b. b.weight * block_cost step p b.accesses) (weighed_blocks blocks counts) ≡ cost_of_counted step p blocks counts
blocks_cost step p [] counts = refl
blocks_cost step p (b ∷ blocks) [] = refl
blocks_cost step p (b ∷ blocks) (zero ∷ counts) = omega (arith, blocks_cost step p blocks counts)
blocks_cost step p (b ∷ blocks) (suc n ∷ counts) =
    sum_by-cons (λ (x : Block). x.weight * block_cost step p x.accesses) (record { weight = suc n; accesses = b.accesses }) (weighed_blocks blocks counts)
    ∙ ap (λ m. suc n * block_cost step p b.accesses + m) (blocks_cost step p blocks counts)

pub costs_the_run : (seq : Sequence) (counts : List ℕ) (p : Placement) → cost_of (weighed seq counts) p ≡ run_cost seq counts p
costs_the_run seq counts p = blocks_cost seq.step p seq.blocks counts

-- ---- one block more

-- with the blocks of a count and those behind it
abbrev pub weighed_from : List Block → List Block → List ℕ → ℕ → List Block
weighed_from done blocks counts i = done ++ weighed_blocks (drop i blocks) (drop i counts)

pub left_out : (done blocks : List Block) (counts : List ℕ) (i n d : ℕ) → i < length blocks → i < length counts → get_or counts i d ≡ n → n ≡ 0
    → weighed_from done blocks counts (i + 1) ≡ weighed_from done blocks counts i
left_out done blocks counts i n d lt below is none =
    let b = block_at blocks i in
    sym (ap (λ l. done ++ weighed_blocks l (drop i counts)) (drop_more blocks i (record { weight = 0; accesses = [] }) lt)
    ∙ ap (λ l. done ++ weighed_blocks (b ∷ drop (i + 1) blocks) l) (drop_more counts i d below ∙ ap (λ m. m ∷ drop (i + 1) counts) (is ∙ none)))

pub kept : (done blocks : List Block) (counts accesses : List ℕ) (i n d : ℕ) → i < length blocks → i < length counts → get_or counts i d ≡ n → 0 < n → accesses ≡ (block_at blocks i).accesses
    → weighed_from (done ++ (record { weight = n; accesses = accesses }) ∷ []) blocks counts (i + 1) ≡ weighed_from done blocks counts i
kept done blocks counts accesses i zero d lt below is some same = absurd (omega (arith, some))
kept done blocks counts accesses i (suc n) d lt below is some same =
    let b = block_at blocks i in
    append_assoc done ((record { weight = suc n; accesses = accesses }) ∷ []) (weighed_blocks (drop (i + 1) blocks) (drop (i + 1) counts))
    ∙ ap (λ l. done ++ (record { weight = suc n; accesses = l }) ∷ weighed_blocks (drop (i + 1) blocks) (drop (i + 1) counts)) same
    ∙ sym (ap (λ l. done ++ weighed_blocks l (drop i counts)) (drop_more blocks i (record { weight = 0; accesses = [] }) lt)
    ∙ ap (λ l. done ++ weighed_blocks (b ∷ drop (i + 1) blocks) l) (drop_more counts i d below ∙ ap (λ m. m ∷ drop (i + 1) counts) is))
