-- Two character constants at the front of one text are the same.
use Rattle.std.proofs.Common.{◌≡◌, ◌≢◌, ℕ, ◌<◌, ◌≤◌, List, [], ◌∷◌, ◌++◌, Some, None, refl, sym, ap, ◌∙◌, subst, arith, append_assoc}
use Rattle.std.specs.Char.{digit_value}
use Rattle.std.proofs.lemmas.Bool.Decides.{nat_tests}
use Rattle.word_base.specs.Name.{IsWithin}
use Rattle.c_syntax.specs.Constants.{AreDigits, number_of, beside, escapes, IsItem, Plain, Escape, OctalEscape, HexEscape, IsCharacter}
use Rattle.c_syntax.proofs.Digits.{same_run, no_digit, octal_range, first_digit}

-- no digit stands for another character behind a backslash, and no x
escapes_none : (c : ℕ) → IsWithin 48 55 c → beside c escapes ≡ None
escapes_none c h = grind (arith, nat_tests)

no_octal : (c v : ℕ) → digit_value c < 8 → beside c escapes ≡ Some v → ⊥
no_octal c v d e = let n = escapes_none c (octal_range c d) in cc

no_x : (c v : ℕ) → c ≡ 120 → beside c escapes ≡ Some v → ⊥
no_x c v e s = let k : None ≡ Some v = subst (λ x. beside x escapes ≡ Some v) e s in cc

-- two rows of digits before quotes
same_digits : (base : ℕ) (xs ys r s : List ℕ) → base ≤ 16 → AreDigits base xs → AreDigits base ys → xs ++ 39 ∷ r ≡ ys ++ 39 ∷ s → xs ≡ ys
same_digits base xs ys r s le g h e =
    let quote : ¬ (digit_value 39 < base) = λ lt. no_digit base 39 39 refl (omega arith) lt in
    (same_run (λ c. digit_value c < base) xs ys (39 ∷ r) (39 ∷ s) g.each h.each quote quote e).0

-- what stands behind the backslash of an escape, and its value
data IsEscape (text : List ℕ) (value : ℕ) : Type 0 where
  OfSign : (sign : ℕ) → text ≡ sign ∷ [] → beside sign escapes ≡ Some value → IsEscape text value
  OfOctal : AreDigits 8 text → value ≡ number_of 8 text → IsEscape text value
  OfHex : (digits : List ℕ) → text ≡ 120 ∷ digits → AreDigits 16 digits → value ≡ number_of 16 digits → IsEscape text value

module _ (xs ys r s : List ℕ) (v w : ℕ) (e : xs ++ 39 ∷ r ≡ ys ++ 39 ∷ s) where
  sign_octal : (sign : ℕ) → xs ≡ sign ∷ [] → beside sign escapes ≡ Some v → AreDigits 8 ys → ⊥
  sign_octal sign is b d =
      let first = first_digit 8 ys d in
      let k : sign ∷ 39 ∷ r ≡ first.0 ∷ (first.1 ++ 39 ∷ s) = sym (ap (λ t. t ++ 39 ∷ r) is) ∙ e ∙ ap (λ t. t ++ 39 ∷ s) first.2 in
      let same : first.0 ≡ sign = cc in
      no_octal sign v (subst (λ c. digit_value c < 8) same first.3) b

  sign_hex : (sign : ℕ) (digits : List ℕ) → xs ≡ sign ∷ [] → beside sign escapes ≡ Some v → ys ≡ 120 ∷ digits → ⊥
  sign_hex sign digits is b is' =
      let k : sign ∷ 39 ∷ r ≡ 120 ∷ (digits ++ 39 ∷ s) = sym (ap (λ t. t ++ 39 ∷ r) is) ∙ e ∙ ap (λ t. t ++ 39 ∷ s) is' in
      no_x sign v (cc) b

  octal_hex : (digits : List ℕ) → AreDigits 8 xs → ys ≡ 120 ∷ digits → ⊥
  octal_hex digits d is' =
      let first = first_digit 8 xs d in
      let k : first.0 ∷ (first.1 ++ 39 ∷ r) ≡ 120 ∷ (digits ++ 39 ∷ s) = sym (ap (λ t. t ++ 39 ∷ r) first.2) ∙ e ∙ ap (λ t. t ++ 39 ∷ s) is' in
      no_digit 8 first.0 120 (cc) (omega arith) first.3

  sign_sign : (a b : ℕ) → xs ≡ a ∷ [] → beside a escapes ≡ Some v → ys ≡ b ∷ [] → beside b escapes ≡ Some w → (xs ≡ ys) × (v ≡ w)
  sign_sign a b is g is' h =
      let k : a ∷ 39 ∷ r ≡ b ∷ 39 ∷ s = sym (ap (λ t. t ++ 39 ∷ r) is) ∙ e ∙ ap (λ t. t ++ 39 ∷ s) is' in
      let same : a ≡ b = cc in
      let f : Some v ≡ Some w = sym g ∙ ap (λ c. beside c escapes) same ∙ h in
      (is ∙ ap (λ c. c ∷ []) same ∙ sym is', cc)

  octal_octal : AreDigits 8 xs → v ≡ number_of 8 xs → AreDigits 8 ys → w ≡ number_of 8 ys → (xs ≡ ys) × (v ≡ w)
  octal_octal g n h m =
      let same = same_digits 8 xs ys r s (omega arith) g h e in
      (same, n ∙ ap (number_of 8) same ∙ sym m)

  hex_hex : (a b : List ℕ) → xs ≡ 120 ∷ a → AreDigits 16 a → v ≡ number_of 16 a → ys ≡ 120 ∷ b → AreDigits 16 b → w ≡ number_of 16 b → (xs ≡ ys) × (v ≡ w)
  hex_hex a b is g n is' h m =
      let k : 120 ∷ (a ++ 39 ∷ r) ≡ 120 ∷ (b ++ 39 ∷ s) = sym (ap (λ t. t ++ 39 ∷ r) is) ∙ e ∙ ap (λ t. t ++ 39 ∷ s) is' in
      let same = same_digits 16 a b r s (omega arith) g h cc in
      (is ∙ ap (λ t. 120 ∷ t) same ∙ sym is', n ∙ ap (number_of 16) same ∙ sym m)

escape_one : (xs ys r s : List ℕ) (v w : ℕ) → IsEscape xs v → IsEscape ys w → xs ++ 39 ∷ r ≡ ys ++ 39 ∷ s → (xs ≡ ys) × (v ≡ w)
escape_one xs ys r s v w (OfSign a is b) (OfSign a' is' b') e = sign_sign xs ys r s v w e a a' is b is' b'
escape_one xs ys r s v w (OfSign a is b) (OfOctal d n) e = absurd (sign_octal xs ys r s v w e a is b d)
escape_one xs ys r s v w (OfSign a is b) (OfHex d is' h n) e = absurd (sign_hex xs ys r s v w e a d is b is')
escape_one xs ys r s v w (OfOctal d n) (OfSign a is b) e = absurd (sign_octal ys xs s r w v (sym e) a is b d)
escape_one xs ys r s v w (OfOctal d n) (OfOctal d' n') e = octal_octal xs ys r s v w e d n d' n'
escape_one xs ys r s v w (OfOctal d n) (OfHex d' is' h' n') e = absurd (octal_hex xs ys r s v w e d' d is')
escape_one xs ys r s v w (OfHex d is h n) (OfSign a is' b) e = absurd (sign_hex ys xs s r w v (sym e) a d is' b is)
escape_one xs ys r s v w (OfHex d is h n) (OfOctal d' n') e = absurd (octal_hex ys xs s r w v (sym e) d d' is)
escape_one xs ys r s v w (OfHex d is h n) (OfHex d' is' h' n') e = hex_hex xs ys r s v w e d d' is h n is' h' n'

-- a plain character, or a backslash and what makes an escape of it
data ItemForm (text : List ℕ) (value : ℕ) : Type 0 where
  OfPlain : text ≡ value ∷ [] → value ≢ 92 → ItemForm text value
  OfEscape : (body : List ℕ) → text ≡ 92 ∷ body → IsEscape body value → ItemForm text value

item_form : (text : List ℕ) (value : ℕ) → IsItem text value → ItemForm text value
item_form text value (Plain is w nq nb) = OfPlain is nb
item_form text value (Escape sign is b) = OfEscape (sign ∷ []) is (OfSign sign refl b)
item_form text value (OctalEscape digits is d le n) = OfEscape digits is (OfOctal d n)
item_form text value (HexEscape digits is d le n) = OfEscape (120 ∷ digits) is (OfHex digits refl d n)

form_one : (xs ys r s : List ℕ) (v w : ℕ) → ItemForm xs v → ItemForm ys w → xs ++ 39 ∷ r ≡ ys ++ 39 ∷ s → (xs ≡ ys) × (v ≡ w)
form_one xs ys r s v w (OfPlain is n) (OfPlain is' n') e =
    let k : v ∷ 39 ∷ r ≡ w ∷ 39 ∷ s = sym (ap (λ t. t ++ 39 ∷ r) is) ∙ e ∙ ap (λ t. t ++ 39 ∷ s) is' in
    let same : v ≡ w = cc in
    (is ∙ ap (λ c. c ∷ []) same ∙ sym is', same)
form_one xs ys r s v w (OfPlain is n) (OfEscape b is' k') e =
    let k : v ∷ 39 ∷ r ≡ 92 ∷ (b ++ 39 ∷ s) = sym (ap (λ t. t ++ 39 ∷ r) is) ∙ e ∙ ap (λ t. t ++ 39 ∷ s) is' in
    absurd (n cc)
form_one xs ys r s v w (OfEscape b is k') (OfPlain is' n) e =
    let k : 92 ∷ (b ++ 39 ∷ r) ≡ w ∷ 39 ∷ s = sym (ap (λ t. t ++ 39 ∷ r) is) ∙ e ∙ ap (λ t. t ++ 39 ∷ s) is' in
    absurd (n (sym cc))
form_one xs ys r s v w (OfEscape b is k) (OfEscape b' is' k') e =
    let f : 92 ∷ (b ++ 39 ∷ r) ≡ 92 ∷ (b' ++ 39 ∷ s) = sym (ap (λ t. t ++ 39 ∷ r) is) ∙ e ∙ ap (λ t. t ++ 39 ∷ s) is' in
    let same = escape_one b b' r s v w k k' cc in
    (is ∙ ap (λ t. 92 ∷ t) same.0 ∙ sym is', same.1)

-- what stands before the closing quote
pub item_one : (xs ys r s : List ℕ) (v w : ℕ) → IsItem xs v → IsItem ys w → xs ++ 39 ∷ r ≡ ys ++ 39 ∷ s → (xs ≡ ys) × (v ≡ w)
item_one xs ys r s v w g h e = form_one xs ys r s v w (item_form xs v g) (item_form ys w h) e

pub character_front : (s r : List ℕ) (v : ℕ) → (h : IsCharacter s v) → s ++ r ≡ 39 ∷ (h.item ++ 39 ∷ r)
character_front s r v h = ap (λ t. t ++ r) h.quoted ∙ ap (λ t. 39 ∷ t) (append_assoc h.item (39 ∷ []) r)

pub character_one : (s r s' r' : List ℕ) (v v' : ℕ) → IsCharacter s v → IsCharacter s' v' → s ++ r ≡ s' ++ r' → (s ≡ s') × (v ≡ v')
character_one s r s' r' v v' g h e =
    let k = sym (character_front s r v g) ∙ e ∙ character_front s' r' v' h in
    let same = item_one g.item h.item r r' v v' g.stands h.stands cc in
    (g.quoted ∙ ap (λ t. 39 ∷ (t ++ 39 ∷ [])) same.0 ∙ sym h.quoted, same.1)
