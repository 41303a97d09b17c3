-- What is a sequence and an arrangement, and what isn't, by hand.
use Rattle.std.proofs.Common.{◌≡◌, ◌<◌, ◌≤◌, ℕ, zero, suc, [], ◌∷◌, length, refl, arith, lit≤, lit<}
use Rattle.std.specs.Prelude.{All, ◌==◌, count_by}
use Rattle.std.proofs.lemmas.List.Elements.{All-from_recursion}
use Rattle.lay_model.specs.Sequences.{Block, IsBlock, IsSequence}
use Rattle.lay_model.specs.Arrangements.{Arranges}

-- four scalars, and one block that counts twice
abbrev block : Block
block = record { weight = 2; accesses = 0 ∷ 1 ∷ 0 ∷ 3 ∷ [] }

is_block : IsBlock block
is_block = record { counts = lit≤ tt; some = lit≤ tt }

sequence : IsSequence (record { scalars = 4; step = 2; blocks = block ∷ [] })
sequence = record {
  few = lit≤ tt;
  moves = lit≤ tt;
  near = lit≤ tt;
  blocks = All-from_recursion IsBlock (block ∷ []) (is_block, tt);
  scalars = All-from_recursion (λ b. All (λ scalar. scalar < 4) b.accesses) (block ∷ []) (All-from_recursion (λ scalar. scalar < 4) block.accesses (lit< tt, (lit< tt, (lit< tt, (lit< tt, tt)))), tt);
  countable = lit≤ tt;
}

-- a block without an access
no_block : IsBlock (record { weight = 1; accesses = [] }) → ⊥
no_block h = absurd (omega (arith, h.some))

-- a step of 9
far : IsSequence (record { scalars = 4; step = 9; blocks = [] }) → ⊥
far h = absurd (omega (arith, h.near))

-- each of four scalars once, in two lists
arranged : Arranges 4 ((2 ∷ 0 ∷ []) ∷ (3 ∷ 1 ∷ []) ∷ [])
arranged = record {
  few = lit≤ tt;
  some = All-from_recursion (λ list. 1 ≤ length list) ((2 ∷ 0 ∷ []) ∷ (3 ∷ 1 ∷ []) ∷ []) (lit≤ tt, (lit≤ tt, tt));
  all = refl;
  once = λ scalar lt. each scalar lt;
}
  where
    each : (scalar : ℕ) → scalar < 4 → count_by (λ s. s == scalar) (2 ∷ 0 ∷ 3 ∷ 1 ∷ []) ≡ 1
    each zero lt = refl
    each (suc zero) lt = refl
    each (suc (suc zero)) lt = refl
    each (suc (suc (suc zero))) lt = refl
    each (suc (suc (suc (suc n)))) lt = absurd (omega arith)

-- one scalar twice and another one not at all
twice : Arranges 2 ((0 ∷ 0 ∷ []) ∷ []) → ⊥
twice h = let two : suc (suc zero) ≡ suc zero = h.once 0 (lit< tt) in absurd (omega (arith, two))

-- an empty list
empty : Arranges 1 ((0 ∷ []) ∷ [] ∷ []) → ⊥
empty h = let none : 1 ≤ 0 = h.some 1 [] (lit< tt) in absurd (omega arith)
