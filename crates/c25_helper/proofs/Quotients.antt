-- Quotients and remainders of words, with a sign by their sizes, where C has them.
use Rattle.std.proofs.Common.{◌≡◌, ◌≢◌, ℕ, zero, suc, ◌-◌, ◌/◌, ◌%◌, ◌<◌, ◌≤◌, Bool, true, false, cond, ℤ, pos, negsuc, refl, sym, ap, ◌∙◌, arith, ltb-false, ⊎_elim}
use Rattle.std.specs.Prelude.{int_div, int_rem, nat_lt, neg_ℤ, ◌-ℤ◌, ◌||◌}
use Rattle.std.proofs.lemmas.Bool.{lt-ltb, le-ltb, ne_eqb, cases_lt}
use Rattle.std.proofs.Math.Nat.{div-le_self, mod-le}
use Rattle.std.proofs.lemmas.Int.{ints}
use Rattle.word_base.specs.Words.{Calc, Good, Bad, signed_of, low16, fit, wrap, where_good, unless_zero, int_quotient, int_remainder, unsigned_quotient, unsigned_remainder}
use Rattle.word_base.specs.declared.outcome.UndefinedKind.TheVariants.{DivideByZero, Overflow}

-- the size of a word, which for 8000h is 8000h
abbrev pub size : ℕ → ℕ
size w = cond (nat_lt w 32768) w (65536 - w)

-- a word of the other sign
abbrev pub negated : ℕ → ℕ
negated w = (65536 - w) % 65536

-- a value by a divisor: it isn't zero
divided_by : (r v : ℕ) (z : Calc) → unless_zero r z ≡ Good v → (1 ≤ r) × (z ≡ Good v)
divided_by zero v z e = absurd cc
divided_by (suc r) v z e =
    let some : suc r ≢ 0 = omega arith in
    (omega arith, sym (ap (λ b. cond b (Bad DivideByZero) z) (ne_eqb (suc r) 0 some)) ∙ e)

pub unsigned_quotient_is : (l r v : ℕ) → unsigned_quotient l r ≡ Good v → (1 ≤ r) × (l / r ≡ v)
unsigned_quotient_is l r v e = let d = divided_by r v (Good (l / r)) e in let f : Good (l / r) ≡ Good v = d.1 in (d.0, cc)

pub unsigned_remainder_is : (l r v : ℕ) → unsigned_remainder l r ≡ Good v → (1 ≤ r) × (l % r ≡ v)
unsigned_remainder_is l r v e = let d = divided_by r v (Good (l % r)) e in let f : Good (l % r) ≡ Good v = d.1 in (d.0, cc)

-- numbers as ints
fitted : (q v : ℕ) (b : Bool) → nat_lt 32767 q ≡ b → cond b (Bad Overflow) (Good (q % 65536)) ≡ Good v → q ≡ v
fitted q v true f e = absurd cc
fitted q v false f e =
    let small : q ≤ 32767 = ltb-false 32767 q f in
    let same : q % 65536 ≡ v = cc in
    omega arith

pub fit_positive : (q v : ℕ) → fit (pos q) ≡ Good v → q ≡ v
fit_positive q v e = fitted q v (nat_lt 32767 q) refl e

pub fit_negative : (q v : ℕ) → q ≤ 32768 → fit (neg_ℤ (pos q)) ≡ Good v → negated q ≡ v
fit_negative zero v le e = omega (arith, fit_positive 0 v e)
fit_negative (suc q) v le e = by (nat_lt 32767 q) refl e
  where
    by : (b : Bool) → nat_lt 32767 q ≡ b → cond (b || false) (Bad Overflow) (Good (65535 - q % 65536)) ≡ Good v → negated (suc q) ≡ v
    by true f g = absurd cc
    by false f g = let same : 65535 - q % 65536 ≡ v = cc in omega arith

pub low_negative : (q : ℕ) → q ≤ 32768 → low16 (neg_ℤ (pos q)) ≡ negated q
low_negative zero le = omega arith
low_negative (suc q) le = omega arith

-- words as numbers
positive : (w : ℕ) → w < 32768 → signed_of w ≡ pos w
positive w lt = ap (λ b. cond b (pos w) (pos w -ℤ pos 65536)) (lt-ltb w 32768 lt)

negative : (w : ℕ) → 32768 ≤ w → w < 65536 → signed_of w ≡ negsuc (65535 - w)
negative w le lt = ap (λ b. cond b (pos w) (pos w -ℤ pos 65536)) (le-ltb w 32768 le) ∙ lower
  where
    lower : pos w -ℤ pos 65536 ≡ negsuc (65535 - w)
    lower = omega (arith, ints)

pub size_positive : (w : ℕ) → w < 32768 → size w ≡ w
size_positive w lt = ap (λ b. cond b w (65536 - w)) (lt-ltb w 32768 lt)

pub size_negative : (w : ℕ) → 32768 ≤ w → size w ≡ 65536 - w
size_negative w le = ap (λ b. cond b w (65536 - w)) (le-ltb w 32768 le)

-- sizes of numbers that aren't zero, and of those from -32768 on
pub size_some : (w : ℕ) → 1 ≤ w → w < 65536 → 1 ≤ size w
size_some w some lt = ⊎_elim (λ (low : w < 32768). omega (arith, size_positive w low)) (λ (high : 32768 ≤ w). omega (arith, size_negative w high)) (cases_lt w 32768)

pub size_most : (w : ℕ) → w < 65536 → size w ≤ 32768
size_most w lt = ⊎_elim (λ (low : w < 32768). omega (arith, size_positive w low)) (λ (high : 32768 ≤ w). omega (arith, size_negative w high)) (cases_lt w 32768)

pub least_size : (w : ℕ) → w < 65536 → 32768 ≤ size w → w ≡ 32768
least_size w lt le = ⊎_elim (λ (low : w < 32768). absurd (omega (arith, size_positive w low))) (λ (high : 32768 ≤ w). omega (arith, size_negative w high)) (cases_lt w 32768)

-- quotients by the signs of both
quotient_of : (l r v : ℕ) → int_quotient l r ≡ Good v → (a b : ℤ) → signed_of l ≡ a → signed_of r ≡ b → fit (int_div a b) ≡ Good v
quotient_of l r v e a b left right = ap (λ z. fit (int_div z b)) (sym left) ∙ ap (λ z. fit (int_div (signed_of l) z)) (sym right) ∙ (divided_by r v _ e).1

remainder_of : (l r v : ℕ) → int_remainder l r ≡ Good v → (a b : ℤ) → signed_of l ≡ a → signed_of r ≡ b → low16 (int_rem a b) ≡ v
remainder_of l r v e a b left right = ap (λ z. low16 (int_rem z b)) (sym left) ∙ ap (λ z. low16 (int_rem (signed_of l) z)) (sym right) ∙ by (int_quotient l r) e
  where
    by : (q : Calc) → where_good q (wrap (int_rem (signed_of l) (signed_of r))) ≡ Good v → low16 (int_rem (signed_of l) (signed_of r)) ≡ v
    by (Good w) f = cc
    by (Bad kind) f = absurd cc

-- the size of a negative word as one more than what its number is below -1
one_more : (w : ℕ) → 32768 ≤ w → w < 65536 → size w ≡ suc (65535 - w)
one_more w le lt = omega (arith, size_negative w le)

module _ (l r v : ℕ) (left : l < 65536) (right : r < 65536) where
  small : (a : ℕ) → size l ≡ a → (b : ℕ) → a / b ≤ 32768
  small a e b = omega (arith, div-le_self a b, size_most l left)

  quotient_by : (a b : ℕ) → size l ≡ a → size r ≡ b → size l / size r ≡ a / b
  quotient_by a b e f = ap (λ n. n / size r) e ∙ ap (λ n. a / n) f

  remainder_by : (a b : ℕ) → size l ≡ a → size r ≡ b → size l % size r ≡ a % b
  remainder_by a b e f = ap (λ n. n % size r) e ∙ ap (λ n. a % n) f

  pub quotient_plain : int_quotient l r ≡ Good v → l < 32768 → r < 32768 → size l / size r ≡ v
  quotient_plain e a b =
      quotient_by l r (size_positive l a) (size_positive r b)
      ∙ fit_positive (l / r) v (quotient_of l r v e (pos l) (pos r) (positive l a) (positive r b))

  pub quotient_both : int_quotient l r ≡ Good v → 32768 ≤ l → 32768 ≤ r → size l / size r ≡ v
  quotient_both e a b =
      quotient_by _ _ (one_more l a left) (one_more r b right)
      ∙ fit_positive (suc (65535 - l) / suc (65535 - r)) v (quotient_of l r v e (negsuc (65535 - l)) (negsuc (65535 - r)) (negative l a left) (negative r b right))

  pub quotient_left : int_quotient l r ≡ Good v → 32768 ≤ l → r < 32768 → negated (size l / size r) ≡ v
  quotient_left e a b =
      ap negated (quotient_by _ r (one_more l a left) (size_positive r b))
      ∙ fit_negative (suc (65535 - l) / r) v (small _ (one_more l a left) r) (quotient_of l r v e (negsuc (65535 - l)) (pos r) (negative l a left) (positive r b))

  pub quotient_right : int_quotient l r ≡ Good v → l < 32768 → 32768 ≤ r → negated (size l / size r) ≡ v
  quotient_right e a b =
      ap negated (quotient_by l _ (size_positive l a) (one_more r b right))
      ∙ fit_negative (l / suc (65535 - r)) v (small l (size_positive l a) _) (quotient_of l r v e (pos l) (negsuc (65535 - r)) (positive l a) (negative r b right))

  pub remainder_plain : int_remainder l r ≡ Good v → l < 32768 → size l % size r ≡ v
  remainder_plain e a =
      ⊎_elim
      (λ (b : r < 32768). remainder_by l r (size_positive l a) (size_positive r b) ∙ low_of (l % r) (mod-le l r) ∙ remainder_of l r v e (pos l) (pos r) (positive l a) (positive r b))
      (λ (b : 32768 ≤ r). remainder_by l _ (size_positive l a) (one_more r b right) ∙ low_of (l % suc (65535 - r)) (mod-le l _) ∙ remainder_of l r v e (pos l) (negsuc (65535 - r)) (positive l a) (negative r b right))
      (cases_lt r 32768)
    where
      low_of : (n : ℕ) → n ≤ l → n ≡ n % 65536
      low_of n le = omega (arith, left)

  pub remainder_left : int_remainder l r ≡ Good v → 32768 ≤ l → negated (size l % size r) ≡ v
  remainder_left e a =
      ⊎_elim
      (λ (b : r < 32768). ap negated (remainder_by _ r (one_more l a left) (size_positive r b)) ∙ sym (low_negative (suc (65535 - l) % r) (bound r)) ∙ remainder_of l r v e (negsuc (65535 - l)) (pos r) (negative l a left) (positive r b))
      (λ (b : 32768 ≤ r). ap negated (remainder_by _ _ (one_more l a left) (one_more r b right)) ∙ sym (low_negative (suc (65535 - l) % suc (65535 - r)) (bound _)) ∙ remainder_of l r v e (negsuc (65535 - l)) (negsuc (65535 - r)) (negative l a left) (negative r b right))
      (cases_lt r 32768)
    where
      bound : (b : ℕ) → suc (65535 - l) % b ≤ 32768
      bound b = omega (arith, mod-le (suc (65535 - l)) b, a)

  pub quotient_some : int_quotient l r ≡ Good v → 1 ≤ r
  quotient_some e = (divided_by r v _ e).0

  pub remainder_some : int_remainder l r ≡ Good v → 1 ≤ r
  remainder_some e = by (int_quotient l r) refl e
    where
      by : (q : Calc) → int_quotient l r ≡ q → where_good q (wrap (int_rem (signed_of l) (signed_of r))) ≡ Good v → 1 ≤ r
      by (Good w) f g = (divided_by r w _ f).0
      by (Bad kind) f g = absurd cc
