-- Digits, one by one, and numbers that no field holds.
use Rattle.std.proofs.Common.{◌≡◌, ℕ, ◌+◌, ◌*◌, ◌<◌, ◌≤◌, ◌-◌, ◌^◌, suc, Bool, true, false, inl, inr, if◌then◌else◌, List, [], ◌∷◌, length, Option, Some, None, refl, sym, ap, ◌∙◌, arith, min}
use Rattle.std.specs.Prelude.{nat_lt, ◌⊎◌, Ok, Err}
use Rattle.std.specs.Char.{digit_value}
use Rattle.std.proofs.lemmas.Bool.{lt-ltb, le-ltb}
use Rattle.std.proofs.lemmas.Bool.Decides.{leb_tells}
use Rattle.c25_asm.specs.declared.statement.LineFault.TheVariants.{OutOfRange}
use Rattle.c25_asm.specs.declared.statement.Place.{Place}
use Rattle.c25_asm.specs.Operands.{word_by}
use Rattle.c25_asm.specs.Numbers.{value_from, digits, capped, below}

-- cutting at the greatest value before a step or behind it gives the same
cut_later : (m n b d : ℕ) → 0 < b → min m (min m n * b + d) ≡ min m (n * b + d)
cut_later m n b d some = grind arith

cut_again : (m n : ℕ) → min m n ≡ min m (min m n)
cut_again m n = grind arith

module _ (base : ℕ) (some : 0 < base) where
  cap_first : (n : ℕ) (cs : List ℕ) → capped (value_from base n cs) ≡ capped (value_from base (min 4294967295 n) cs)
  cap_first n [] = ap (λ v. Some v) (cut_again 4294967295 n)
  cap_first n (c ∷ cs) = by (nat_lt (digit_value c) base) (λ m. cap_first m cs)
    where
      by : (t : Bool) → ((m : ℕ) → capped (value_from base m cs) ≡ capped (value_from base (min 4294967295 m) cs)) → capped (if t then value_from base (n * base + digit_value c) cs else None) ≡ capped (if t then value_from base (min 4294967295 n * base + digit_value c) cs else None)
      by true further =
          further (n * base + digit_value c)
          ∙ ap (λ v. capped (value_from base v cs)) (sym (cut_later 4294967295 n base (digit_value c) some))
          ∙ sym (further (min 4294967295 n * base + digit_value c))
      by false further = refl

saturated : (value base d : ℕ) → min (min (value * base) (2 ^ 32 - 1) + d) (2 ^ 32 - 1) ≡ min 4294967295 (value * base + d)
saturated value base d = grind arith

-- what the digits that are left stand for behind those before them, which fit 32 bits
pub record DigitsSoFar (base : ℕ) (text : List ℕ) (value : ℕ) (rest : List ℕ) : Type 0 where
  pub fits : value ≤ 4294967295
  pub reads : capped (value_from base value rest) ≡ capped (digits base text)

digits_start : (base : ℕ) (text : List ℕ) → 0 < length text → capped (value_from base 0 text) ≡ capped (digits base text)
digits_start base [] some = absurd (omega arith)
digits_start base (c ∷ cs) some = refl

pub nothing_read : (base : ℕ) (text : List ℕ) → 0 < length text → DigitsSoFar base text 0 text
nothing_read base text some = record { fits = omega arith; reads = digits_start base text some }

pub digit_read : (base : ℕ) (text : List ℕ) (value c : ℕ) (rest : List ℕ) → 2 ≤ base → DigitsSoFar base text value (c ∷ rest) → digit_value c < base
    → DigitsSoFar base text (min (min (value * base) (2 ^ 32 - 1) + digit_value c) (2 ^ 32 - 1)) rest
digit_read base text value c rest some so_far digit = record {
  fits = grind arith;
  reads =
      ap (λ v. capped (value_from base v rest)) (saturated value base (digit_value c))
      ∙ sym (cap_first base (omega (arith, some)) (value * base + digit_value c) rest)
      ∙ ap (λ t. capped (if t then value_from base (value * base + digit_value c) rest else None)) (sym (lt-ltb (digit_value c) base digit))
      ∙ so_far.reads;
}

pub all_read : (base : ℕ) (text : List ℕ) (value : ℕ) (rest : List ℕ) → rest ≡ [] → DigitsSoFar base text value rest → Some value ≡ capped (digits base text)
all_read base text value rest none so_far =
    ap (λ v. Some v) (let e : value ≡ min 4294967295 value = grind (arith, so_far.fits) in e)
    ∙ ap (λ l. capped (value_from base value l)) (sym none)
    ∙ so_far.reads

-- what is no digit
pub no_digit : (base : ℕ) (text : List ℕ) (value c : ℕ) (rest : List ℕ) → DigitsSoFar base text value (c ∷ rest) → base ≤ digit_value c → None ≡ capped (digits base text)
no_digit base text value c rest so_far none =
    ap (λ t. capped (if t then value_from base (value * base + digit_value c) rest else None)) (sym (le-ltb (digit_value c) base none)) ∙ so_far.reads

pub no_digits : (base : ℕ) (text : List ℕ) → length text ≡ 0 → None ≡ capped (digits base text)
no_digits base [] none = refl
no_digits base (c ∷ cs) none = absurd (omega (arith, none))

-- a word is tested as it is kept
below_kept : (bound n : ℕ) → bound ≤ 65536 → below bound (Some (min 4294967295 n)) ≡ below bound (Some n)
below_kept bound n small = by (leb_tells (suc n) bound)
  where
    by : ((nat_lt n bound ≡ true) × (n < bound)) ⊎ ((nat_lt n bound ≡ false) × (bound < suc n)) → below bound (Some (min 4294967295 n)) ≡ below bound (Some n)
    by (inl h) = let e : min 4294967295 n ≡ n = grind (arith, h.1, small) in ap (λ m. below bound (Some m)) e
    by (inr h) =
        ap (λ t. if t then Ok (min 4294967295 n) else Err OutOfRange) (le-ltb (min 4294967295 n) bound (let e : bound ≤ min 4294967295 n = grind (arith, h.1, small) in e))
        ∙ sym (ap (λ t. if t then Ok n else Err OutOfRange) h.0)

pub word_number : (found : Option ℕ) (n : ℕ) (named : Bool) (place : Option Place) → Some n ≡ capped found → below 65536 (Some n) ≡ word_by found named place
word_number None n named place e = absurd cc
word_number (Some m) n named place e =
    let same : n ≡ min 4294967295 m = cc in
    ap (λ v. below 65536 (Some v)) same ∙ below_kept 65536 m (omega arith)

pub word_named : (found : Option ℕ) (named : Bool) (place : Option Place) → None ≡ capped found → word_by None named place ≡ word_by found named place
word_named None named place e = refl
word_named (Some m) named place e = absurd cc
