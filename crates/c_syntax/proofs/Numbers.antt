-- A number has one reading.
use Rattle.std.proofs.Common.{◌≡◌, ℕ, ◌<◌, ◌≤◌, Bool, true, false, List, [], ◌∷◌, ◌++◌, refl, sym, ap, ◌∙◌, subst, arith, inl, inr}
use Rattle.std.specs.Prelude.{◌⊎◌, min}
use Rattle.std.specs.List.{AllByRecursion}
use Rattle.std.specs.Char.{digit_value}
use Rattle.c_syntax.specs.Constants.{AreDigits, number_of, Radix, Decimal, Octal, Hexadecimal, IsBare, IsSuffix, is_decimal, greatest_value, IsNumber}
use Rattle.c_syntax.proofs.Digits.{Stops, same_run, no_digit}

-- u and U are no digits
suffix_stops : (base : ℕ) (marked : Bool) (text : List ℕ) → base ≤ 16 → IsSuffix marked text → Stops (λ c. digit_value c < base) text
suffix_stops base false text le h = subst (Stops (λ c. digit_value c < base)) (sym h) tt
suffix_stops base true text le (inl e) = subst (Stops (λ c. digit_value c < base)) (sym e) (λ lt. no_digit base 117 117 refl (omega arith) lt)
suffix_stops base true text le (inr e) = subst (Stops (λ c. digit_value c < base)) (sym e) (λ lt. no_digit base 85 85 refl (omega arith) lt)

suffix_one : (a b : Bool) (text : List ℕ) → IsSuffix a text → IsSuffix b text → a ≡ b
suffix_one false false text g h = refl
suffix_one true true text g h = refl
suffix_one false true text g (inl e) = absurd cc
suffix_one false true text g (inr e) = absurd cc
suffix_one true false text (inl e) h = absurd cc
suffix_one true false text (inr e) h = absurd cc

-- no suffix begins with x or X
suffix_no_x : (marked : Bool) (text : List ℕ) (x : ℕ) (more : List ℕ) → IsSuffix marked text → (x ≡ 120) ⊎ (x ≡ 88) → text ≡ x ∷ more → ⊥
suffix_no_x false text x more h k e = let n : x ∷ more ≡ [] = sym e ∙ h in absurd cc
suffix_no_x true text x more (inl h) k e = let same : x ≡ 117 = cc in grind arith
suffix_no_x true text x more (inr h) k e = let same : x ≡ 85 = cc in grind arith

no_x_digit : (x : ℕ) → (x ≡ 120) ⊎ (x ≡ 88) → digit_value x < 8 → ⊥
no_x_digit x (inl e) lt = no_digit 8 x 120 e (omega arith) lt
no_x_digit x (inr e) lt = no_digit 8 x 88 e (omega arith) lt

module _ (xs ys r s : List ℕ) (n m : ℕ) (a b : Bool) (g : IsSuffix a r) (h : IsSuffix b s) (e : xs ++ r ≡ ys ++ s) where
  same_digits : (base : ℕ) → base ≤ 16 → AreDigits base xs → n ≡ number_of base xs → AreDigits base ys → m ≡ number_of base ys → (n ≡ m) × (r ≡ s)
  same_digits base le d is d' is' =
      let same = same_run (λ c. digit_value c < base) xs ys r s d.each d'.each (suffix_stops base a r le g) (suffix_stops base b s le h) e in
      (is ∙ ap (number_of base) same.0 ∙ sym is', same.1)

  same_hex : IsBare Hexadecimal xs n → IsBare Hexadecimal ys m → (n ≡ m) × (r ≡ s)
  same_hex u w =
      let k : 48 ∷ u.0 ∷ (u.1 ++ r) ≡ 48 ∷ w.0 ∷ (w.1 ++ s) = sym (ap (λ t. t ++ r) u.2) ∙ e ∙ ap (λ t. t ++ s) w.2 in
      let f : u.1 ++ r ≡ w.1 ++ s = cc in
      let same = same_run (λ c. digit_value c < 16) u.1 w.1 r s u.4.each w.4.each (suffix_stops 16 a r (omega arith) g) (suffix_stops 16 b s (omega arith) h) f in
      (u.5 ∙ ap (number_of 16) same.0 ∙ sym w.5, same.1)

  -- a decimal number begins with no 0
  decimal_no_zero : IsBare Decimal xs n → (more : List ℕ) → ys ≡ 48 ∷ more → ⊥
  decimal_no_zero u more is =
      let k : u.0.0 ∷ (u.0.1 ++ r) ≡ 48 ∷ (more ++ s) = sym (ap (λ t. t ++ r) u.0.2) ∙ e ∙ ap (λ t. t ++ s) is in
      u.0.3 cc

  octal_no_hex : IsBare Octal xs n → IsBare Hexadecimal ys m → ⊥
  octal_no_hex u w =
      let k : 48 ∷ (u.0.0 ++ r) ≡ 48 ∷ w.0 ∷ (w.1 ++ s) = sym (ap (λ t. t ++ r) u.0.1) ∙ e ∙ ap (λ t. t ++ s) w.2 in
      let d : AreDigits 8 (48 ∷ u.0.0) = subst (AreDigits 8) u.0.1 u.1 in
      behind u.0.0 d.each.1 cc
    where
      behind : (rest : List ℕ) → AllByRecursion (λ c. digit_value c < 8) rest → rest ++ r ≡ w.0 ∷ (w.1 ++ s) → ⊥
      behind [] all f = suffix_no_x a r w.0 (w.1 ++ s) g w.3 f
      behind (c ∷ rest) all f = let same : c ≡ w.0 = cc in no_x_digit w.0 w.3 (subst (λ x. digit_value x < 8) same all.0)

bare_one : (R S : Radix) (xs ys r s : List ℕ) (n m : ℕ) (a b : Bool) → IsSuffix a r → IsSuffix b s → xs ++ r ≡ ys ++ s → IsBare R xs n → IsBare S ys m → (n ≡ m) × (r ≡ s) × (is_decimal R ≡ is_decimal S)
bare_one Decimal Decimal xs ys r s n m a b g h e u w = let f = same_digits xs ys r s n m a b g h e 10 (omega arith) u.1 u.2 w.1 w.2 in (f.0, f.1, refl)
bare_one Decimal Octal xs ys r s n m a b g h e u w = absurd (decimal_no_zero xs ys r s n m a b g h e u w.0.0 w.0.1)
bare_one Decimal Hexadecimal xs ys r s n m a b g h e u w = absurd (decimal_no_zero xs ys r s n m a b g h e u (w.0 ∷ w.1) w.2)
bare_one Octal Decimal xs ys r s n m a b g h e u w = absurd (decimal_no_zero ys xs s r m n b a h g (sym e) w u.0.0 u.0.1)
bare_one Octal Octal xs ys r s n m a b g h e u w = let f = same_digits xs ys r s n m a b g h e 8 (omega arith) u.1 u.2 w.1 w.2 in (f.0, f.1, refl)
bare_one Octal Hexadecimal xs ys r s n m a b g h e u w = absurd (octal_no_hex xs ys r s n m a b g h e u w)
bare_one Hexadecimal Decimal xs ys r s n m a b g h e u w = absurd (decimal_no_zero ys xs s r m n b a h g (sym e) w (u.0 ∷ u.1) u.2)
bare_one Hexadecimal Octal xs ys r s n m a b g h e u w = absurd (octal_no_hex ys xs s r m n b a h g (sym e) w u)
bare_one Hexadecimal Hexadecimal xs ys r s n m a b g h e u w = let f = same_hex xs ys r s n m a b g h e u w in (f.0, f.1, refl)

pub number_one : (text : List ℕ) (v w : ℕ) (a b d e : Bool) → IsNumber text v a d → IsNumber text w b e → (v ≡ w) × (a ≡ b) × (d ≡ e)
number_one text v w a b d e g h =
    let f = bare_one g.radix h.radix g.bare h.bare g.suffix h.suffix g.number h.number a b g.ends h.ends (sym g.joined ∙ h.joined) g.reads h.reads in
    (g.kept ∙ ap (min greatest_value) f.0 ∙ sym h.kept, suffix_one a b h.suffix (subst (IsSuffix a) f.1 g.ends) h.ends, g.based ∙ f.2 ∙ sym h.based)
