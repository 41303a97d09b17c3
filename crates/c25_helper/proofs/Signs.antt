-- The sign of a quotient as bit 15 of a word, and the quotients and remainders of -32768 by another word and of another word by it.
use Rattle.std.proofs.Common.{◌≡◌, ℕ, ◌*◌, ◌/◌, ◌%◌, ◌^◌, ◌<◌, ◌≤◌, sym, ap, ◌∙◌, arith, ⊎_elim}
use Rattle.std.specs.Prelude.{bit_xor}
use Rattle.std.proofs.lemmas.Bool.{cases_lt}
use Rattle.std.proofs.lemmas.Nat.{xor_shr, xor_mod}
use Rattle.std.proofs.Math.Nat.{div-eq_of_lt, mod-eq_of_lt}
use Rattle.word_base.specs.Words.{Good, int_quotient, int_remainder}
use Rattle.c25_isa.specs.Step.{wrap16}
use Rattle.c25_helper.proofs.Loads.{loaded, loaded_word}
use Rattle.c25_helper.proofs.Quotients.{size, negated, size_positive, size_negative, size_some, least_size, quotient_plain, quotient_both, quotient_left, quotient_right, quotient_some, remainder_plain, remainder_left, remainder_some}

-- the one word xor the other, as it is stored
abbrev pub sign_word : ℕ → ℕ → ℕ
sign_word l r = wrap16 (bit_xor (loaded l) r * 2 ^ 0)

sign_is : (l r : ℕ) → l < 65536 → r < 65536 → sign_word l r / 32768 ≡ bit_xor (l / 32768) (r / 32768)
sign_is l r a b =
    let low : sign_word l r ≡ bit_xor (loaded l) r % 2 ^ 16 = omega arith in
    let right : r % 2 ^ 16 ≡ r = omega arith in
    ap (λ n. n / 32768) (low ∙ xor_mod (loaded l) r 16 ∙ ap (λ n. bit_xor n (r % 2 ^ 16)) (loaded_word l a) ∙ ap (bit_xor l) right) ∙ xor_shr l r 15

low_bit : (w : ℕ) → w < 32768 → w / 32768 ≡ 0
low_bit w lt = omega arith

high_bit : (w : ℕ) → 32768 ≤ w → w < 65536 → w / 32768 ≡ 1
high_bit w le lt = omega arith

-- the quotient by its sign, and by a divisor of the greatest size
pub record SignedQuotient (l r x v : ℕ) : Type 0 where
  pub some : 1 ≤ size r
  pub plain : x < 32768 → size l / size r ≡ v
  pub turned : 32768 ≤ x → negated (size l / size r) ≡ v
  pub none : 32768 ≤ size r → size l < 32768 → 0 ≡ v
  pub one : 32768 ≤ size r → 32768 ≤ size l → 1 ≡ v

module _ (l r v : ℕ) (a : l < 65536) (b : r < 65536) where
  bit_of : (p q : ℕ) → l / 32768 ≡ p → r / 32768 ≡ q → sign_word l r / 32768 ≡ bit_xor p q
  bit_of p q e f = sign_is l r a b ∙ ap (λ n. bit_xor n (r / 32768)) e ∙ ap (bit_xor p) f

  plain : int_quotient l r ≡ Good v → sign_word l r < 32768 → size l / size r ≡ v
  plain e x =
      ⊎_elim
      (λ (c : l < 32768). ⊎_elim (λ (d : r < 32768). quotient_plain l r v a b e c d) (λ (d : 32768 ≤ r). absurd (omega (arith, x, bit_of 0 1 (low_bit l c) (high_bit r d b)))) (cases_lt r 32768))
      (λ (c : 32768 ≤ l). ⊎_elim (λ (d : r < 32768). absurd (omega (arith, x, bit_of 1 0 (high_bit l c a) (low_bit r d)))) (λ (d : 32768 ≤ r). quotient_both l r v a b e c d) (cases_lt r 32768))
      (cases_lt l 32768)

  turned : int_quotient l r ≡ Good v → 32768 ≤ sign_word l r → negated (size l / size r) ≡ v
  turned e x =
      ⊎_elim
      (λ (c : l < 32768). ⊎_elim (λ (d : r < 32768). absurd (omega (arith, x, bit_of 0 0 (low_bit l c) (low_bit r d)))) (λ (d : 32768 ≤ r). quotient_right l r v a b e c d) (cases_lt r 32768))
      (λ (c : 32768 ≤ l). ⊎_elim (λ (d : r < 32768). quotient_left l r v a b e c d) (λ (d : 32768 ≤ r). absurd (omega (arith, x, bit_of 1 1 (high_bit l c a) (high_bit r d b)))) (cases_lt r 32768))
      (cases_lt l 32768)

  none : int_quotient l r ≡ Good v → 32768 ≤ size r → size l < 32768 → 0 ≡ v
  none e great less =
      let zero : size l / size r ≡ 0 = div-eq_of_lt (omega (arith, great, less)) in
      ⊎_elim (λ (x : sign_word l r < 32768). sym zero ∙ plain e x) (λ (x : 32768 ≤ sign_word l r). ap negated (sym zero) ∙ turned e x) (cases_lt (sign_word l r) 32768)

  one : int_quotient l r ≡ Good v → 32768 ≤ size r → 32768 ≤ size l → 1 ≡ v
  one e great also =
      let c : l ≡ 32768 = least_size l a also in
      let d : r ≡ 32768 = least_size r b great in
      let same : size l / size r ≡ 1 = ap (λ n. size n / size r) c ∙ ap (λ n. size 32768 / size n) d in
      sym same ∙ quotient_both l r v a b e (omega (arith, c)) (omega (arith, d))

  pub signed_quotient : int_quotient l r ≡ Good v → SignedQuotient l r (sign_word l r) v
  signed_quotient e = record { some = size_some r (quotient_some l r v a b e) b; plain = plain e; turned = turned e; none = none e; one = one e }

-- the same of a remainder, whose sign is that of the left word
pub record SignedRemainder (l r v : ℕ) : Type 0 where
  pub some : 1 ≤ size r
  pub plain : l < 32768 → size l % size r ≡ v
  pub turned : 32768 ≤ l → negated (size l % size r) ≡ v
  pub left : 32768 ≤ size r → size l < 32768 → l ≡ v
  pub none : 32768 ≤ size r → 32768 ≤ size l → 0 ≡ v

pub signed_remainder : (l r v : ℕ) → l < 65536 → r < 65536 → int_remainder l r ≡ Good v → SignedRemainder l r v
signed_remainder l r v a b e = record { some = size_some r (remainder_some l r v a b e) b; plain = remainder_plain l r v a b e; turned = remainder_left l r v a b e; left = left; none = none }
  where
    left : 32768 ≤ size r → size l < 32768 → l ≡ v
    left great less =
        let all : size l % size r ≡ size l = mod-eq_of_lt (omega (arith, great, less)) in
        ⊎_elim (λ (c : l < 32768). sym (size_positive l c) ∙ sym all ∙ remainder_plain l r v a b e c)
        (λ (c : 32768 ≤ l). let back : l ≡ negated (size l) = omega (arith, size_negative l c, less, a) in back ∙ ap negated (sym all) ∙ remainder_left l r v a b e c)
        (cases_lt l 32768)

    none : 32768 ≤ size r → 32768 ≤ size l → 0 ≡ v
    none great also =
        let c : l ≡ 32768 = least_size l a also in
        let d : r ≡ 32768 = least_size r b great in
        let zero : size l % size r ≡ 0 = ap (λ n. size n % size r) c ∙ ap (λ n. size 32768 % size n) d in
        ap negated (sym zero) ∙ remainder_left l r v a b e (omega (arith, c))
