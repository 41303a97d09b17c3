-- The reading of digits, one by one.
use Rattle.std.proofs.Common.{arith, ◌≡◌, ℕ, ◌+◌, ◌*◌, ◌-◌, ◌^◌, ◌<◌, List, [], ◌∷◌, length, refl, ap, sym, ◌∙◌, min}
use Rattle.std.specs.Prelude.{fold}
use Rattle.std.specs.List.{AllByRecursion}
use Rattle.std.specs.Char.{digit_value}
use Rattle.c_syntax.specs.Constants.{AreDigits, number_of, greatest_value}

-- up to the rest the text is digits, whose value is kept up to a greatest one
pub record DigitsSoFar (base : ℕ) (text : List ℕ) (value : ℕ) (rest : List ℕ) : Type 0 where
  pub number : ℕ
  pub kept : value ≡ min greatest_value number
  pub goes_on : number_of base text ≡ fold (λ n c. n * base + digit_value c) number rest
  pub passed : AllByRecursion (λ c. digit_value c < base) rest → AllByRecursion (λ c. digit_value c < base) text
  pub left : AllByRecursion (λ c. digit_value c < base) text → AllByRecursion (λ c. digit_value c < base) rest

pub nothing_read : (base : ℕ) (text : List ℕ) → DigitsSoFar base text 0 text
nothing_read base text = record { number = 0; kept = refl; goes_on = refl; passed = λ a. a; left = λ a. a }

-- cutting at the greatest value before a step or behind it gives the same
cut_later : (m n b d : ℕ) → 0 < b → min m (min m n * b + d) ≡ min m (n * b + d)
cut_later m n b d some = grind arith

pub reads_one : (base : ℕ) (text : List ℕ) (value c : ℕ) (rest : List ℕ) → 0 < base → DigitsSoFar base text value (c ∷ rest) → digit_value c < base
    → DigitsSoFar base text (min (min (value * base) (2 ^ 32 - 1) + digit_value c) (2 ^ 32 - 1)) rest
reads_one base text value c rest some so_far digit = record {
  number = so_far.number * base + digit_value c;
  kept = grind (arith, so_far.kept);
  goes_on = so_far.goes_on;
  passed = λ a. so_far.passed (digit, a);
  left = λ a. (so_far.left a).1;
}

pub reads_all : (base : ℕ) (text : List ℕ) (value : ℕ) → 0 < length text → DigitsSoFar base text value [] → AreDigits base text × (value ≡ min greatest_value (number_of base text))
reads_all base text value some so_far = (record { some = some; each = so_far.passed tt }, so_far.kept ∙ ap (λ n. min greatest_value n) (sym so_far.goes_on))

pub stops_reading : (base : ℕ) (text : List ℕ) (value c : ℕ) (rest : List ℕ) → DigitsSoFar base text value (c ∷ rest) → (digit_value c < base → ⊥) → AreDigits base text → ⊥
stops_reading base text value c rest so_far no_digit digits = no_digit (so_far.left digits.each).0

pub none_to_read : (base : ℕ) (text : List ℕ) → length text ≡ 0 → AreDigits base text → ⊥
none_to_read base text none digits = omega (arith, none, digits.some)
