-- Blocks that lie one behind another: where each stands, and one more behind them.
use Rattle.std.proofs.Common.{◌≡◌, ℕ, zero, suc, ◌-◌, ◌<◌, ◌≤◌, List, [], ◌∷◌, ◌++◌, length, get_or, take, drop, refl, ap, ◌∙◌, sym, subst, arith, length-append, length-drop, length-take}
use Rattle.std.specs.Prelude.{◌+◌, slice_range, slice_get, sum_by, Option, Some, None}
use Rattle.std.proofs.lemmas.List.{take_all, take-append-le, drop_at, drop-append-le}
use Rattle.lay_model.specs.declared.blocks.BlockEnd.{BlockEnd}
use Rattle.std.proofs.lemmas.List.Sums.{sum_by-cons}
use Rattle.lay_model.specs.Sequences.{Block}
use Rattle.lay_model.specs.Flat.{blocks_from, block_at, start_at, AreEnds}

start_behind : (start : ℕ) (ends : List BlockEnd) (i : ℕ) (d : BlockEnd) → i < length ends → start_at start ends (suc i) ≡ (get_or ends i d).end
start_behind start [] i d lt = absurd (omega (arith, lt))
start_behind start (x ∷ ends) zero d lt = refl
start_behind start (x ∷ ends) (suc i) d lt = start_behind x.end ends i d (omega (arith, lt))

-- a block from 1 begins where the one before it ends
pub start_before : (start : ℕ) (ends : List BlockEnd) (i : ℕ) (d : BlockEnd) → (i ≡ 0 → ⊥) → i < length ends → (get_or ends (i - 1) d).end ≡ start_at start ends i
start_before start ends zero d some lt = absurd (some refl)
start_before start ends (suc i) d some lt =
    let before : suc i - 1 ≡ i = omega arith in
    ap (λ n. (get_or ends n d).end) before ∙ sym (start_behind start ends i d (omega (arith, lt)))

pub blocks_many : (start : ℕ) (ends : List BlockEnd) (accesses : List ℕ) → length (blocks_from start ends accesses) ≡ length ends
blocks_many start [] accesses = refl
blocks_many start (e ∷ ends) accesses = ap suc (blocks_many e.end ends accesses)

-- the block of a number
pub blocks_at : (start : ℕ) (ends : List BlockEnd) (accesses : List ℕ) (i : ℕ) (e : BlockEnd) → e ≡ get_or ends i e → i < length ends
    → block_at (blocks_from start ends accesses) i ≡ record { weight = e.weight; accesses = slice_range accesses (start_at start ends i) e.end }
blocks_at start [] accesses i e is lt = absurd (omega (arith, lt))
blocks_at start (x ∷ ends) accesses zero e is lt = ap (λ (y : BlockEnd). record { weight = y.weight; accesses = slice_range accesses start y.end }) (sym is)
blocks_at start (x ∷ ends) accesses (suc i) e is lt = blocks_at x.end ends accesses i e is (omega (arith, lt))

pub ends_most : (start : ℕ) (ends : List BlockEnd) (size : ℕ) → AreEnds start ends size → start ≤ size
ends_most start [] size are = omega (arith, are)
ends_most start (e ∷ ends) size are = omega (arith, are.0, ends_most e.end ends size are.1)

-- a block begins before its end, and ends where all do at the latest
pub ends_at : (start : ℕ) (ends : List BlockEnd) (size i : ℕ) (e : BlockEnd) → AreEnds start ends size → e ≡ get_or ends i e → i < length ends → (start_at start ends i ≤ e.end) × (e.end ≤ size)
ends_at start [] size i e are is lt = absurd (omega (arith, lt))
ends_at start (x ∷ ends) size zero e are is lt = subst (λ (y : BlockEnd). (start ≤ y.end) × (y.end ≤ size)) (sym is) (are.0, ends_most x.end ends size are.1)
ends_at start (x ∷ ends) size (suc i) e are is lt = ends_at x.end ends size i e are.1 is (omega (arith, lt))

pub ends_more : (start : ℕ) (ends : List BlockEnd) (size : ℕ) (e : BlockEnd) → AreEnds start ends size → size ≤ e.end → AreEnds start (ends ++ e ∷ []) e.end
ends_more start [] size e are le = (omega (arith, are, le), refl)
ends_more start (x ∷ ends) size e are le = (are.0, ends_more x.end ends size e are.1 le)

range_front : (xs ys : List ℕ) (a b : ℕ) → a ≤ b → b ≤ length xs → slice_range (xs ++ ys) a b ≡ slice_range xs a b
range_front xs ys a b ordered within =
    ap (take (b - a)) (drop-append-le a xs ys (omega (arith, ordered, within)))
    ∙ take-append-le (b - a) (drop a xs) ys (omega (arith, length-drop a xs, ordered, within))

range_back : (xs ys : List ℕ) (a b : ℕ) → a ≡ length xs → b ≡ length (xs ++ ys) → slice_range (xs ++ ys) a b ≡ ys
range_back xs ys a b from to =
    ap (take (b - a)) (drop_at xs ys a (sym from))
    ∙ take_all (b - a) ys (omega (arith, from, to, length-append xs ys))

-- one block more, whose accesses stand behind the others
pub blocks_more : (start : ℕ) (ends : List BlockEnd) (xs ys : List ℕ) (e : BlockEnd) → AreEnds start ends (length xs) → e.end ≡ length (xs ++ ys)
    → blocks_from start (ends ++ e ∷ []) (xs ++ ys) ≡ blocks_from start ends xs ++ (record { weight = e.weight; accesses = ys }) ∷ []
blocks_more start [] xs ys e are to = ap (λ l. (record { weight = e.weight; accesses = l }) ∷ []) (range_back xs ys start e.end are to)
blocks_more start (x ∷ ends) xs ys e are to =
    (λ k. (record { weight = x.weight; accesses = range_front xs ys start x.end are.0 (ends_most x.end ends (length xs) are.1) k }) ∷ blocks_more x.end ends xs ys e are.1 to k)

range_length : (xs : List ℕ) (a b : ℕ) → a ≤ b → b ≤ length xs → length (slice_range xs a b) ≡ b - a
range_length xs a b ordered within = omega (arith, length-take (b - a) (drop a xs), length-drop a xs, ordered, within)

-- the accesses of all blocks are those from the first one's begin on
pub accesses_together : (start : ℕ) (ends : List BlockEnd) (accesses : List ℕ) → AreEnds start ends (length accesses) → start + sum_by (λ (b : Block). length b.accesses) (blocks_from start ends accesses) ≡ length accesses
accesses_together start [] accesses are = omega (arith, are)
accesses_together start (e ∷ ends) accesses are =
    let one = range_length accesses start e.end are.0 (ends_most e.end ends (length accesses) are.1) in
    omega (arith, are.0, one, accesses_together e.end ends accesses are.1, sum_by-cons (λ (b : Block). length b.accesses) (record { weight = e.weight; accesses = slice_range accesses start e.end }) (blocks_from e.end ends accesses))

same : {a b : BlockEnd} → Some a ≡ Some b → a ≡ b
same {a} {b} is = cc

last_at : (start : ℕ) (ends : List BlockEnd) (size i : ℕ) (last : BlockEnd) → AreEnds start ends size → suc i ≡ length ends → Some last ≡ slice_get ends i → last.end ≡ size
last_at start [] size i last are count is = absurd (omega (arith, count))
last_at start (e ∷ []) size zero last are count is = ap (λ (o : BlockEnd). o.end) (same is) ∙ are.1
last_at start (e ∷ x ∷ ends) size zero last are count is = absurd (omega (arith, count))
last_at start (e ∷ ends) size (suc i) last are count is = last_at e.end ends size i last are.1 (omega (arith, count)) is

-- the last end is behind all of them
pub last_end : (start : ℕ) (ends : List BlockEnd) (size : ℕ) (last : BlockEnd) → AreEnds start ends size → Some last ≡ slice_get ends (length ends - 1) → last.end ≡ size
last_end start [] size last are is = cc
last_end start (e ∷ ends) size last are is =
    let place : length (e ∷ ends) - 1 ≡ length ends = omega arith in
    last_at start (e ∷ ends) size (length ends) last are refl (is ∙ ap (slice_get (e ∷ ends)) place)
