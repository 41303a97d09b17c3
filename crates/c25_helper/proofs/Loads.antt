-- Words that are loaded into ACC with their sign, and tests of ACC's sign.
use Rattle.std.proofs.Common.{◌≡◌, ℕ, ◌+◌, ◌*◌, ◌/◌, ◌^◌, ◌<◌, ◌≤◌, Bool, true, false, cond, refl, ap, ◌∙◌, arith, leb-true, leb-false, ⊎_elim}
use Rattle.std.specs.Prelude.{nat_le, not}
use Rattle.std.proofs.lemmas.Bool.{lt-ltb, le-ltb, cases_lt}
use Rattle.c25_isa.specs.Step.{wrap16, wrap32, extended, minus}
use Rattle.c25_isa.specs.declared.instruction.JumpOp.TheVariants.{Blz, Bgez}
use Rattle.c25_code.specs.Straight.{is_taken}
use Rattle.c25_code.proofs.Halves.{low_half}
use Rattle.c25_helper.proofs.Quotients.{negated}

-- ACC behind the load of a word
abbrev pub loaded : ℕ → ℕ
loaded w = wrap32 (extended true w * 2 ^ 0)

pub loaded_positive : (w : ℕ) → w < 32768 → loaded w ≡ w
loaded_positive w lt = ap (λ b. wrap32 (cond b w (w + 4294901760) * 2 ^ 0)) (lt-ltb w 32768 lt) ∙ (omega arith)

pub loaded_negative : (w : ℕ) → 32768 ≤ w → w < 65536 → loaded w ≡ w + 4294901760
loaded_negative w le lt = ap (λ b. wrap32 (cond b w (w + 4294901760) * 2 ^ 0)) (le-ltb w 32768 le) ∙ (omega arith)

pub loaded_word : (w : ℕ) → w < 65536 → wrap16 (loaded w) ≡ w
loaded_word w lt = low_half true w lt

-- its other sign
pub loaded_negated : (w : ℕ) → w < 65536 → wrap16 (minus 0 (loaded w)) ≡ negated w
loaded_negated w lt =
    ⊎_elim (λ (low : w < 32768). ap (λ a. wrap16 (minus 0 a)) (loaded_positive w low) ∙ (omega arith))
    (λ (high : 32768 ≤ w). ap (λ a. wrap16 (minus 0 a)) (loaded_negative w high lt) ∙ (omega arith))
    (cases_lt w 32768)

-- the tests of it
pub is_negative : (w : ℕ) → w < 65536 → is_taken Blz (loaded w) ≡ true → 32768 ≤ w
is_negative w lt e =
    ⊎_elim (λ (low : w < 32768). absurd (omega (arith, leb-true 2147483648 (loaded w) e, loaded_positive w low)))
    (λ (high : 32768 ≤ w). high)
    (cases_lt w 32768)

pub is_positive : (w : ℕ) → w < 65536 → is_taken Blz (loaded w) ≡ false → w < 32768
is_positive w lt e =
    ⊎_elim (λ (low : w < 32768). low)
    (λ (high : 32768 ≤ w). absurd (omega (arith, leb-false 2147483648 (loaded w) e, loaded_negative w high lt)))
    (cases_lt w 32768)

-- the same by the other test
turned_true : (b : Bool) → not b ≡ true → b ≡ false
turned_true true e = absurd cc
turned_true false e = refl

turned_false : (b : Bool) → not b ≡ false → b ≡ true
turned_false true e = refl
turned_false false e = absurd cc

pub at_least_taken : (acc : ℕ) → is_taken Bgez acc ≡ true → is_taken Blz acc ≡ false
at_least_taken acc e = turned_true (nat_le 2147483648 acc) e

pub at_least_passed : (acc : ℕ) → is_taken Bgez acc ≡ false → is_taken Blz acc ≡ true
at_least_passed acc e = turned_false (nat_le 2147483648 acc) e

-- a difference of words
pub is_less : (l r : ℕ) → l < 65536 → r < 65536 → is_taken Blz (minus l r) ≡ true → l < r
is_less l r a b e = let f : 2147483648 ≤ minus l r = leb-true 2147483648 (minus l r) e in omega arith

pub is_not_less : (l r : ℕ) → l < 65536 → r < 65536 → is_taken Blz (minus l r) ≡ false → r ≤ l
is_not_less l r a b e = let f : minus l r < 2147483648 = leb-false 2147483648 (minus l r) e in omega arith

-- the high half of ACC as a word that is stored and loaded
pub high_word : (acc word : ℕ) → acc / 65536 ≡ word → word < 65536 → wrap16 (loaded (wrap32 (acc * 2 ^ 0) / 65536)) ≡ word
high_word acc word is lt = let e : wrap32 (acc * 2 ^ 0) / 65536 ≡ word = omega arith in ap (λ n. wrap16 (loaded n)) e ∙ loaded_word word lt
