-- The parts of an integer constant: digits, what stands before them, and the suffix.
use Rattle.std.proofs.Common.{arith, ◌≡◌, ◌≢◌, ℕ, ◌<◌, Bool, true, false, List, [], ◌∷◌, ◌++◌, length, refl, inl, inr, ap, sym, ◌∙◌, subst, length-append, ⊎_elim, append-nil}
use Rattle.std.specs.Prelude.{◌⊎◌, min, nat_eq}
use Rattle.std.specs.List.{AllByRecursion}
use Rattle.std.specs.Char.{digit_value}
use Rattle.c_syntax.specs.Constants.{AreDigits, number_of, Radix, Decimal, Octal, Hexadecimal, IsBare, IsSuffix, greatest_value, IsNumber}
use Rattle.c_syntax.proofs.Digits.{no_digit}
use Rattle.c_spellings.specs.Front.{IsWithoutSuffix, IsWithoutPrefix, Sixteen, Eight, Ten}
use Rattle.c_syntax.proofs.Spellings.{same_length_fronts}
use Rattle.c_spellings.proofs.ListLemmas.{first_is, rest_is}

-- 0x and 0X stand before digits of base 16, and another 0 is an octal digit
pub lower_x : (text digits : List ℕ) → text ≡ 48 ∷ 120 ∷ digits → IsWithoutPrefix text digits 16
lower_x text digits e = Sixteen 120 e (inl refl) refl

pub upper_x : (text digits : List ℕ) → text ≡ 48 ∷ 88 ∷ digits → IsWithoutPrefix text digits 16
upper_x text digits e = Sixteen 88 e (inr refl) refl

pub zero_first : (text rest : List ℕ) → text ≡ 48 ∷ rest → ((tail : List ℕ) → text ≢ 48 ∷ 120 ∷ tail) → ((tail : List ℕ) → text ≢ 48 ∷ 88 ∷ tail) → IsWithoutPrefix text text 8
zero_first text rest e no_x no_X = Eight rest e no_x no_X refl refl

-- digits with their prefix and suffix are a number
pub is_number : (text bare digits : List ℕ) (marked : Bool) (base value : ℕ) → IsWithoutSuffix text bare marked → IsWithoutPrefix bare digits base → AreDigits base digits → value ≡ min greatest_value (number_of base digits)
    → IsNumber text value marked (nat_eq base 10)
is_number text bare digits marked base value split (Sixteen x e which is) all kept = record {
  radix = Hexadecimal;
  number = number_of 16 digits;
  bare = bare;
  suffix = split.suffix;
  joined = split.joined;
  reads = (x, digits, e, which, subst (λ b. AreDigits b digits) is all, refl);
  ends = split.ends;
  kept = kept ∙ ap (λ b. min greatest_value (number_of b digits)) is;
  based = ap (λ b. nat_eq b 10) is;
}
is_number text bare digits marked base value split (Eight rest e no_x no_X same is) all kept = record {
  radix = Octal;
  number = number_of 8 bare;
  bare = bare;
  suffix = split.suffix;
  joined = split.joined;
  reads = ((rest, e), subst (AreDigits 8) same (subst (λ b. AreDigits b digits) is all), refl);
  ends = split.ends;
  kept = kept ∙ ap (λ b. min greatest_value (number_of b digits)) is ∙ ap (λ d. min greatest_value (number_of 8 d)) same;
  based = ap (λ b. nat_eq b 10) is;
}
is_number text bare digits marked base value split (Ten no_zero same is) all kept =
    let decimal : AreDigits 10 bare = subst (AreDigits 10) same (subst (λ b. AreDigits b digits) is all) in
    record {
      radix = Decimal;
      number = number_of 10 bare;
      bare = bare;
      suffix = split.suffix;
      joined = split.joined;
      reads = (first_is bare decimal.some no_zero, decimal, refl);
      ends = split.ends;
      kept = kept ∙ ap (λ b. min greatest_value (number_of b digits)) is ∙ ap (λ d. min greatest_value (number_of 10 d)) same;
      based = ap (λ b. nat_eq b 10) is;
    }
  where
    first_is : (text : List ℕ) → 0 < length text → ((rest : List ℕ) → text ≢ 48 ∷ rest) → (first : ℕ) × (rest : List ℕ) × (text ≡ first ∷ rest) × (first ≢ 48)
    first_is [] some no_zero = absurd (omega (arith, some))
    first_is (c ∷ rest) some no_zero = (c, rest, refl, λ zero. no_zero rest (ap (λ x. x ∷ rest) zero))

-- the last of digits is one
last_is : (P : ℕ → Type 0) (before digits front : List ℕ) (c : ℕ) → 0 < length digits → AllByRecursion P digits → front ++ c ∷ [] ≡ before ++ digits → P c
last_is P [] digits [] c some all e = (subst (AllByRecursion P) (sym e) all).0
last_is P [] digits (x ∷ front) c some all e = last_of_all (x ∷ front) (subst (AllByRecursion P) (sym e) all)
  where
    last_of_all : (xs : List ℕ) → AllByRecursion P (xs ++ c ∷ []) → P c
    last_of_all [] all = all.0
    last_of_all (x ∷ xs) all = last_of_all xs all.1
last_is P (b ∷ before) digits [] c some all e = absurd (omega (arith, some, ap length e, length-append before digits))
last_is P (b ∷ before) digits (x ∷ front) c some all e = last_is P before digits front c some all cc

-- a number without a suffix ends in a digit
ends_in_digit : (R : Radix) (text front : List ℕ) (n c : ℕ) → IsBare R text n → text ≡ front ++ c ∷ [] → digit_value c < 16
ends_in_digit Decimal text front n c u e = let small : digit_value c < 10 = last_is (λ c. digit_value c < 10) [] text front c u.1.some u.1.each (sym e) in omega (arith, small)
ends_in_digit Octal text front n c u e = let small : digit_value c < 8 = last_is (λ c. digit_value c < 8) [] text front c u.1.some u.1.each (sym e) in omega (arith, small)
ends_in_digit Hexadecimal text front n c u e = last_is (λ c. digit_value c < 16) (48 ∷ u.0 ∷ []) u.1 front c u.4.some u.4.each (sym e ∙ u.2)

suffix_is_one : (text : List ℕ) → IsSuffix true text → (c : ℕ) × (text ≡ c ∷ []) × (digit_value c < 16 → ⊥)
suffix_is_one text (inl e) = (117, e, λ small. no_digit 16 117 117 refl (omega arith) small)
suffix_is_one text (inr e) = (85, e, λ small. no_digit 16 85 85 refl (omega arith) small)

-- what stands before the suffix is the same
same_bare : (text bare : List ℕ) (marked : Bool) → IsWithoutSuffix text bare marked → (value : ℕ) (m decimal : Bool) → (n : IsNumber text value m decimal) → n.bare ≡ bare
same_bare text bare marked split value true decimal n =
    let one = suffix_is_one n.suffix n.ends in
    let other = suffix_is_one split.suffix (subst (λ m. IsSuffix m split.suffix) (split.all n.bare n.suffix n.joined n.ends) split.ends) in
    let whole = sym n.joined ∙ split.joined in
    let sizes = sym (length-append n.bare n.suffix) ∙ ap length whole ∙ length-append bare split.suffix in
    (same_length_fronts n.bare bare n.suffix split.suffix (omega (arith, sizes, ap length one.1, ap length other.1)) whole).0
same_bare text bare true split value false decimal n =
    let one = suffix_is_one split.suffix split.ends in
    let ends : n.bare ≡ bare ++ one.0 ∷ [] = sym (append-nil n.bare) ∙ ap (λ m. n.bare ++ m) (sym n.ends) ∙ sym n.joined ∙ split.joined ∙ ap (λ m. bare ++ m) one.1 in
    absurd (one.2 (ends_in_digit n.radix n.bare bare n.number one.0 n.reads ends))
same_bare text bare false split value false decimal n =
    sym (append-nil n.bare) ∙ ap (λ m. n.bare ++ m) (sym n.ends) ∙ sym n.joined ∙ split.joined ∙ ap (λ m. bare ++ m) split.ends ∙ append-nil bare

-- no x is an octal digit
no_octal : (x : ℕ) → (x ≡ 120) ⊎ (x ≡ 88) → digit_value x < 8 → ⊥
no_octal x (inl e) small = no_digit 8 x 120 e (omega arith) small
no_octal x (inr e) small = no_digit 8 x 88 e (omega arith) small

-- a number has digits of the base that its prefix tells
digits_are : (R : Radix) (bare digits : List ℕ) (base number : ℕ) → IsWithoutPrefix bare digits base → IsBare R bare number → AreDigits base digits
digits_are Decimal bare digits base number (Sixteen x e which is) u = let same : u.0.0 ≡ 48 = first_is (sym u.0.2 ∙ e) in absurd (u.0.3 same)
digits_are Octal bare digits base number (Sixteen x e which is) u = absurd (no_octal x which (subst (AllByRecursion (λ c. digit_value c < 8)) e u.1.each).1.0)
digits_are Hexadecimal bare digits base number (Sixteen x e which is) u = subst (λ b. AreDigits b digits) (sym is) (subst (AreDigits 16) (rest_is (rest_is (sym u.2 ∙ e))) u.4)
digits_are Decimal bare digits base number (Eight rest e no_x no_X same is) u = absurd (u.0.3 (first_is (sym u.0.2 ∙ e)))
digits_are Octal bare digits base number (Eight rest e no_x no_X same is) u = subst (λ b. AreDigits b digits) (sym is) (subst (AreDigits 8) (sym same) u.1)
digits_are Hexadecimal bare digits base number (Eight rest e no_x no_X same is) u =
    absurd (⊎_elim (λ low. no_x u.1 (u.2 ∙ ap (λ x. 48 ∷ x ∷ u.1) low)) (λ high. no_X u.1 (u.2 ∙ ap (λ x. 48 ∷ x ∷ u.1) high)) u.3)
digits_are Decimal bare digits base number (Ten no_zero same is) u = subst (λ b. AreDigits b digits) (sym is) (subst (AreDigits 10) (sym same) u.1)
digits_are Octal bare digits base number (Ten no_zero same is) u = absurd (no_zero u.0.0 u.0.1)
digits_are Hexadecimal bare digits base number (Ten no_zero same is) u = absurd (no_zero (u.0 ∷ u.1) u.2)

-- where the digits aren't digits of their base there is no number
pub no_number : (text bare digits : List ℕ) (marked : Bool) (base : ℕ) → IsWithoutSuffix text bare marked → IsWithoutPrefix bare digits base → (AreDigits base digits → ⊥)
    → (value : ℕ) (m decimal : Bool) → IsNumber text value m decimal → ⊥
no_number text bare digits marked base split prefixed none value m decimal n =
    none (digits_are n.radix bare digits base n.number prefixed (subst (λ t. IsBare n.radix t n.number) (same_bare text bare marked split value m decimal n) n.reads))
