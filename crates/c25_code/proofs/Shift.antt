-- The routine that shifts a signed word to the right does so.
use Rattle.std.proofs.Common.{◌≡◌, ℕ, ◌+◌, ◌-◌, ◌*◌, ◌/◌, ◌%◌, ◌^◌, ◌<◌, ◌≤◌, true, sym, ap, ◌∙◌, cond, arith, ⊎_elim}
use Rattle.std.specs.Prelude.{nat_lt}
use Rattle.std.proofs.lemmas.Bool.{lt-ltb, le-ltb, cases_lt}
use Rattle.std.proofs.Math.Nat.{div-le_self}
use Rattle.word_base.specs.Words.{Good, Bad, int_shift_right}
use Rattle.word_base.specs.declared.outcome.UndefinedKind.TheVariants.{ShiftCount}
use Rattle.c25_code.proofs.Ranges.{cond_lt}
use Rattle.c25_isa.specs.Step.{wrap16, wrap32, extended, minus}
use Rattle.c25_isa.proofs.Cases.{at_below}
use Rattle.c25_code.proofs.Halves.{low_half}
use Rattle.c25_code.specs.Work.{Work}
use Rattle.c25_code.specs.Straight.{behind_code, CodeReady, rest_of}
use Rattle.c25_code.specs.Routines.{shift_body, signed_shift}

-- the count's distance from 15
distance : (count : ℕ) → count < 16 → wrap16 (minus 15 (wrap32 (extended true count * 2 ^ 0)) * 2 ^ 0) % 16 ≡ 15 - count
distance count lt =
    ap (λ t. wrap16 (minus 15 (wrap32 (cond t count (count + 4294901760) * 2 ^ 0)) * 2 ^ 0) % 16) (lt-ltb count 32768 (omega arith)) ∙ (omega arith)

-- up by the distance and one more, the word above is the shifted one
abbrev Moves : ℕ → Type 0
Moves count = (v : ℕ) → v < 65536 → wrap32 (wrap32 (extended true v * 2 ^ (15 - count)) * 2 ^ 1) / 65536 ≡ signed_shift v count

by_sign : (count : ℕ) → ((v : ℕ) → v < 32768 → wrap32 (wrap32 (v * 2 ^ (15 - count)) * 2 ^ 1) / 65536 ≡ v / 2 ^ count) → ((v : ℕ) → 32768 ≤ v → v < 65536 → wrap32 (wrap32 ((v + 4294901760) * 2 ^ (15 - count)) * 2 ^ 1) / 65536 ≡ 65535 - (65535 - v) / 2 ^ count) → Moves count
by_sign count low high v lt =
    ⊎_elim
    (λ small. ap (λ t. wrap32 (wrap32 (cond t v (v + 4294901760) * 2 ^ (15 - count)) * 2 ^ 1) / 65536) (lt-ltb v 32768 small) ∙ low v small ∙ sym (ap (λ t. cond t (v / 2 ^ count) (65535 - (65535 - v) / 2 ^ count)) (lt-ltb v 32768 small)))
    (λ large. ap (λ t. wrap32 (wrap32 (cond t v (v + 4294901760) * 2 ^ (15 - count)) * 2 ^ 1) / 65536) (le-ltb v 32768 large) ∙ high v large lt ∙ sym (ap (λ t. cond t (v / 2 ^ count) (65535 - (65535 - v) / 2 ^ count)) (le-ltb v 32768 large)))
    (cases_lt v 32768)

moves_0 : Moves 0
moves_0 = by_sign 0 (λ v lt. omega arith) (λ v le lt. omega arith)

moves_1 : Moves 1
moves_1 = by_sign 1 (λ v lt. omega arith) (λ v le lt. omega arith)

moves_2 : Moves 2
moves_2 = by_sign 2 (λ v lt. omega arith) (λ v le lt. omega arith)

moves_3 : Moves 3
moves_3 = by_sign 3 (λ v lt. omega arith) (λ v le lt. omega arith)

moves_4 : Moves 4
moves_4 = by_sign 4 (λ v lt. omega arith) (λ v le lt. omega arith)

moves_5 : Moves 5
moves_5 = by_sign 5 (λ v lt. omega arith) (λ v le lt. omega arith)

moves_6 : Moves 6
moves_6 = by_sign 6 (λ v lt. omega arith) (λ v le lt. omega arith)

moves_7 : Moves 7
moves_7 = by_sign 7 (λ v lt. omega arith) (λ v le lt. omega arith)

moves_8 : Moves 8
moves_8 = by_sign 8 (λ v lt. omega arith) (λ v le lt. omega arith)

moves_9 : Moves 9
moves_9 = by_sign 9 (λ v lt. omega arith) (λ v le lt. omega arith)

moves_10 : Moves 10
moves_10 = by_sign 10 (λ v lt. omega arith) (λ v le lt. omega arith)

moves_11 : Moves 11
moves_11 = by_sign 11 (λ v lt. omega arith) (λ v le lt. omega arith)

moves_12 : Moves 12
moves_12 = by_sign 12 (λ v lt. omega arith) (λ v le lt. omega arith)

moves_13 : Moves 13
moves_13 = by_sign 13 (λ v lt. omega arith) (λ v le lt. omega arith)

moves_14 : Moves 14
moves_14 = by_sign 14 (λ v lt. omega arith) (λ v le lt. omega arith)

moves_15 : Moves 15
moves_15 = by_sign 15 (λ v lt. omega arith) (λ v le lt. omega arith)

moves : (count : ℕ) → count < 16 → Moves count
moves = at_below Moves 16 ((((((((((((((((tt, moves_0), moves_1), moves_2), moves_3), moves_4), moves_5), moves_6), moves_7), moves_8), moves_9), moves_10), moves_11), moves_12), moves_13), moves_14), moves_15)

signed_shift-fits : (v count : ℕ) → v < 65536 → signed_shift v count < 65536
signed_shift-fits v count lt = cond_lt (nat_lt v 32768) _ _ 65536 (omega (arith, div-le_self v (2 ^ count))) (omega arith)

-- the code may run from any work
pub shift_ready : (w : Work) → CodeReady shift_body w
shift_ready w = search arith

-- the low half of ACC behind it
pub shift_is : (w : Work) → w.ram 0x300 < 65536 → w.ram 0x301 < 16 → wrap16 (behind_code shift_body w).acc ≡ signed_shift (w.ram 0x300) (w.ram 0x301)
shift_is w v c =
    ap (λ d. wrap16 (wrap32 (extended true (wrap32 (wrap32 (extended true (w.ram 0x300) * 2 ^ d) * 2 ^ 1) / 65536) * 2 ^ 0))) (distance (w.ram 0x301) c)
    ∙ ap (λ m. wrap16 (wrap32 (extended true m * 2 ^ 0))) (moves (w.ram 0x301) c (w.ram 0x300) v)
    ∙ low_half true (signed_shift (w.ram 0x300) (w.ram 0x301)) (signed_shift-fits (w.ram 0x300) (w.ram 0x301) v)

abbrev pub behind_shift : Work → Work
behind_shift w = record (behind_code shift_body w) { stack = rest_of w.stack }

-- it gives what C's shift of a signed word gives
pub shift_means : (w : Work) → w.ram 0x300 < 65536 → w.ram 0x301 < 16 → int_shift_right (w.ram 0x300) (w.ram 0x301) ≡ Good (wrap16 (behind_shift w).acc)
shift_means w v c =
    ap (λ t. cond t (Good (signed_shift (w.ram 0x300) (w.ram 0x301))) (Bad ShiftCount)) (lt-ltb (w.ram 0x301) 16 c)
    ∙ ap Good (sym (shift_is w v c))
