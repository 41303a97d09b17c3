-- Sixteen steps of a division: RPTK 15 and SUBC give the quotient and the remainder.
use Rattle.std.proofs.Common.{◌≡◌, ℕ, zero, suc, Bool, true, false, ◌+◌, ◌-◌, ◌*◌, ◌/◌, ◌%◌, ◌^◌, ◌<◌, ◌≤◌, [], ◌∷◌, None, refl, sym, ap, ◌∙◌, subst, arith, leb-true, leb-false, ⊎_elim}
use Rattle.std.specs.Prelude.{nat_le}
use Rattle.std.proofs.lemmas.Bool.{cond_both, cases_lt}
use Rattle.std.proofs.Math.Nat.{mod-eq-sub-div-mul, mul_assoc, pow-suc}
use Rattle.std.proofs.lemmas.Nat.{div-mul-add, mul-le}
use Rattle.c25_isa.specs.declared.operand.Operand.TheVariants.{Direct}
use Rattle.c25_isa.specs.declared.instruction.Instr.TheVariants.{Subc, Rptk}
use Rattle.c25_isa.specs.State.{Memory}
use Rattle.c25_isa.specs.Step.{wrap32, divided}
use Rattle.c25_isa.specs.CodeAt.{CodeAt}
use Rattle.c25_isa.specs.StretchRuns.{DataAccess}
use Rattle.c25_code.specs.Work.{Work, calm}
use Rattle.c25_code.specs.Straight.{behind_instr, behind_repeats, RepeatsReady}
use Rattle.c25_code.specs.Accesses.{Accesses, LeadsWithin, RepeatsMay}
use Rattle.c25_code.proofs.AccessRuns.{repeat_within}
use Rattle.c25_code.proofs.Repeats.{may_repeat}

-- behind some steps, where p is the power of two of their count: ACC is q + p s, where q is the quotient so far, and s has the remainder so far and
-- behind it the bits of the dividend a that are left
record Divides (p a m acc : ℕ) : Type 0 where
  q : ℕ
  s : ℕ
  multiple : ℕ
  small : q < p
  is : acc ≡ q + p * s
  whole : a * p + q ≡ multiple * 65536 + acc
  times : multiple ≡ q * m
  below : p * s < m * 65536

starts : (a m : ℕ) → a < 65536 → 1 ≤ m → Divides 1 a m a
starts a m lt le = record { q = 0; s = a; multiple = 0; small = omega arith; is = omega arith; whole = omega arith; times = omega arith; below = omega arith }

odd : (q m n : ℕ) → n ≡ q * m → 2 * n + m ≡ (2 * q + 1) * m
odd q m n e = grind arith

even : (q m n : ℕ) → n ≡ q * m → 2 * n ≡ (2 * q) * m
even q m n e = grind arith

bound : (p a m acc : ℕ) → p ≤ 32768 → m < 32768 → Divides p a m acc → acc < 2147483648
bound p a m acc le lt d =
    let small : d.q < p = d.small in
    let below : p * d.s < m * 65536 = d.below in
    let is : acc ≡ d.q + p * d.s = d.is in
    omega arith

power_most : (p h : ℕ) → p * h ≡ 32768 → p ≤ 32768
power_most p zero power = absurd (omega (arith, power))
power_most p (suc h) power = let more : p * suc h ≡ p + p * h = grind arith in omega (arith, power, more)

-- a step before the last bits, with h the power of two of their count: it shifts a bit into the remainder and compares that with the divisor
module _ (p h a m acc : ℕ) (power : p * h ≡ 32768) (lt : m < 32768) (d : Divides p a m acc) where
  divisor : p * (m * h) ≡ m * 32768
  divisor = let turned : p * (m * h) ≡ m * (p * h) = grind arith in turned ∙ ap (λ n. m * n) power

  remainder_fits : m * 32768 ≤ acc → m * h ≤ d.s
  remainder_fits le = ⊎_elim (λ (below : d.s < m * h). absurd (too_small below)) (λ (fits : m * h ≤ d.s). fits) (cases_lt d.s (m * h))
    where
      too_small : d.s < m * h → ⊥
      too_small below =
          let next : p * (d.s + 1) ≡ p * d.s + p = grind arith in
          let least : p * (d.s + 1) ≤ p * (m * h) = mul-le p (d.s + 1) p (m * h) (omega arith) (omega (arith, below)) in
          omega (arith, next, least, divisor, le, d.is, d.small)

  doubled : a * (2 * p) ≡ 2 * (a * p)
  doubled = grind arith

  enough : m * 32768 ≤ acc → Divides (2 * p) a m (wrap32 (2 * (acc - m * 32768) + 1))
  enough le =
      let rest : ℕ = d.s - m * h in
      let sum : d.s ≡ rest + m * h = omega (arith, remainder_fits le) in
      let spread : p * (rest + m * h) ≡ p * rest + p * (m * h) = grind arith in
      let parts : p * d.s ≡ p * rest + p * (m * h) = ap (λ n. p * n) sum ∙ spread in
      let twice : 2 * p * rest ≡ 2 * (p * rest) = mul_assoc 2 p rest in
      let most : p ≤ 32768 = power_most p h power in
      let same : wrap32 (2 * (acc - m * 32768) + 1) ≡ 2 * (acc - m * 32768) + 1 = omega (arith, lt, most, d.small, d.below, d.is) in
      record {
        q = 2 * d.q + 1;
        s = rest;
        multiple = 2 * d.multiple + m;
        small = omega (arith, d.small);
        is = omega (arith, same, twice, parts, divisor, d.is, le);
        whole = omega (arith, same, doubled, d.whole, le);
        times = odd d.q m d.multiple d.times;
        below = omega (arith, twice, parts, divisor, d.below);
      }

  less : acc < m * 32768 → Divides (2 * p) a m (wrap32 (2 * acc))
  less below =
      let twice : 2 * p * d.s ≡ 2 * (p * d.s) = mul_assoc 2 p d.s in
      let same : wrap32 (2 * acc) ≡ 2 * acc = omega (arith, lt, below) in
      record {
        q = 2 * d.q;
        s = d.s;
        multiple = 2 * d.multiple;
        small = omega (arith, d.small);
        is = omega (arith, same, twice, d.is);
        whole = omega (arith, same, doubled, d.whole);
        times = even d.q m d.multiple d.times;
        below = omega (arith, twice, d.is, below);
      }

  one_step : Divides (2 * p) a m (divided acc m)
  one_step = cond_both (nat_le (m * 32768) acc) _ _ (Divides (2 * p) a m) (λ e. enough (leb-true (m * 32768) acc e)) (λ e. less (leb-false (m * 32768) acc e))

-- behind all steps
quotient_is : (a m acc : ℕ) → 1 ≤ m → Divides 65536 a m acc → (acc % 65536 ≡ a / m) × (acc / 65536 ≡ a % m)
quotient_is a m acc le d =
    let small : d.q < 65536 = d.small in
    let below : 65536 * d.s < m * 65536 = d.below in
    let is : acc ≡ d.q + 65536 * d.s = d.is in
    let whole : a * 65536 + d.q ≡ d.multiple * 65536 + acc = d.whole in
    let rest : d.s < m = omega arith in
    let sum : a ≡ d.multiple + d.s = omega arith in
    let sum' : a ≡ d.q * m + d.s = sum ∙ ap (λ n. n + d.s) d.times in
    let quotient : a / m ≡ d.q = ap (λ n. n / m) sum' ∙ div-mul-add d.q m d.s rest in
    let low : acc % 65536 ≡ d.q = omega arith in
    let high : acc / 65536 ≡ d.s = omega arith in
    let over : a % m ≡ a - a / m * m = mod-eq-sub-div-mul a m in
    let product : a / m * m ≡ d.multiple = ap (λ n. n * m) quotient ∙ sym d.times in
    (low ∙ sym quotient, omega arith)

-- so many steps that are left
record Done (n a m offset : ℕ) (w : Work) : Type 0 where
  ready : RepeatsReady n (Subc (Direct offset)) w
  divides : Divides 65536 a m (behind_repeats n (Subc (Direct offset)) w).acc
  keeps : behind_repeats n (Subc (Direct offset)) w ≡ record w { acc = (behind_repeats n (Subc (Direct offset)) w).acc }

-- by the number of bits that are left
done : (n p a m offset : ℕ) (w : Work) → p * 2 ^ n ≡ 65536 → 0x300 ≤ w.dp * 128 + offset → w.ram (w.dp * 128 + offset) ≡ m → m < 32768 → Divides p a m w.acc → Done n a m offset w
done zero p a m offset w power ram at lt d = record { ready = tt; divides = subst (λ k. Divides k a m w.acc) (omega (arith, power)) d; keeps = refl }
done (suc n) p a m offset w power ram at lt d =
    let h : ℕ = 2 ^ n in
    let turned : p * (h * 2) ≡ 2 * (p * h) = grind arith in
    let doubled : p * 2 ^ suc n ≡ 2 * (p * h) = ap (λ k. p * k) (pow-suc 2 n) ∙ turned in
    let left : p * h ≡ 32768 = omega (arith, power, doubled) in
    let more_left : 2 * p * h ≡ 65536 = mul_assoc 2 p h ∙ (omega (arith, left)) in
    let one : Divides (2 * p) a m (divided w.acc (w.ram (w.dp * 128 + offset))) = subst (λ x. Divides (2 * p) a m (divided w.acc x)) (sym at) (one_step p h a m w.acc left lt d) in
    let more = done n (2 * p) a m offset (record w { acc = divided w.acc (w.ram (w.dp * 128 + offset)) }) more_left ram at lt one in
    record { ready = ((ram, omega (arith, at, lt), bound p a m w.acc (power_most p h left) lt d), more.ready); divides = more.divides; keeps = more.keeps }

-- each step is at the divisor's word
at_divisor : (may : DataAccess → Bool) (n offset : ℕ) (w : Work) → may (record { address = w.dp * 128 + offset; through = None; stores = false }) ≡ true → RepeatsMay may n (Subc (Direct offset)) w
at_divisor may zero offset w allowed = tt
at_divisor may (suc n) offset w allowed = (allowed, at_divisor may n offset (behind_instr (Subc (Direct offset)) w) allowed)

-- RPTK 15 and SUBC of a word below 8000h: the quotient in the low half of ACC, the remainder in the high half. No other word is accessed
pub division_within : (may : DataAccess → Bool) (program : Memory) (pc offset : ℕ) (w : Work) → may (record { address = w.dp * 128 + offset; through = None; stores = false }) ≡ true → CodeAt program pc (Rptk 15 ∷ Subc (Direct offset) ∷ []) → 0x300 ≤ w.dp * 128 + offset → 1 ≤ w.ram (w.dp * 128 + offset) → w.ram (w.dp * 128 + offset) < 32768 → w.acc < 65536 → pc + 2 < 65536 → (acc : ℕ) × LeadsWithin (Accesses may) 17 (calm program pc w) (calm program (pc + 2) (record w { acc = acc })) [] × (acc % 65536 ≡ w.acc / w.ram (w.dp * 128 + offset)) × (acc / 65536 ≡ w.acc % w.ram (w.dp * 128 + offset))
division_within may program pc offset w allowed at ram positive lt fits behind = by 15 refl
  where
    m : ℕ
    m = w.ram (w.dp * 128 + offset)

    by : (n : ℕ) → n ≡ 15 → (acc : ℕ) × LeadsWithin (Accesses may) 17 (calm program pc w) (calm program (pc + 2) (record w { acc = acc })) [] × (acc % 65536 ≡ w.acc / m) × (acc / 65536 ≡ w.acc % m)
    by n e =
        let bits : 1 * 2 ^ suc n ≡ 65536 = ap (λ k. 1 * 2 ^ suc k) e in
        let d = done (suc n) 1 w.acc m offset w bits ram refl lt (starts w.acc m fits positive) in
        let at' = subst (λ k. CodeAt program pc (Rptk k ∷ Subc (Direct offset) ∷ [])) (sym e) at in
        let lead = repeat_within may program pc n (Subc (Direct offset)) w at' (may_repeat (Subc (Direct offset)) refl) d.ready (at_divisor may (suc n) offset w allowed) behind in
        let q = quotient_is w.acc m (behind_repeats (suc n) (Subc (Direct offset)) w).acc positive d.divides in
        let steps : n + 2 ≡ 17 = omega arith in (
          (behind_repeats (suc n) (Subc (Direct offset)) w).acc,
          subst (λ k. LeadsWithin (Accesses may) k (calm program pc w) (calm program (pc + 2) (record w { acc = (behind_repeats (suc n) (Subc (Direct offset)) w).acc })) []) steps (
              subst (λ u. LeadsWithin (Accesses may) (n + 2) (calm program pc w) (calm program (pc + 2) u) []) d.keeps lead),
          q.0,
          q.1,
        )
