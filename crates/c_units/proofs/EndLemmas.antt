-- A name ends in `__` and a number where its last characters are so.
use Rattle.std.proofs.Common.{arith, ◌≡◌, ◌≢◌, ℕ, ◌<◌, Bool, true, false, List, [], ◌∷◌, ◌++◌, length, refl, sym, ap, ◌∙◌, subst, append_assoc}
use Rattle.std.specs.Prelude.{reverse, codes, ◌==◌, ◌&&◌, if◌then◌else◌}
use Rattle.std.proofs.lemmas.Bool.Decides.{nat_tests}
use Rattle.std.proofs.lemmas.List.{reverse-append, reverse-reverse, length-reverse}
use Rattle.std.proofs.lemmas.List.Elements.{All-from_recursion, recursion_from_All}
use Rattle.c_tree.specs.c_syntax.Spelling.{IsDigit}
use Rattle.c_units.specs.Statics.{is_digit, ends_in_underscores, marked_before_digits, ends_in_number, EndsInNumber}
use Rattle.c_units.proofs.NumberLemmas.{IsDigitCode, AreDigitCodes, from_end, digits_push, from_digits}

digit_of : (c : ℕ) → is_digit c ≡ true → IsDigitCode c
digit_of c e = grind (arith, nat_tests, e)

digits_back : (digits : List ℕ) → AreDigitCodes digits → AreDigitCodes (reverse digits)
digits_back [] are = tt {0}
digits_back (c ∷ digits) are = subst AreDigitCodes (sym (reverse-append (c ∷ []) digits)) (digits_push (reverse digits) c (digits_back digits are.1) are.0)

-- from its end
reversed : (front digits : List ℕ) → reverse (front ++ (codes "__" ++ digits)) ≡ reverse digits ++ 95 ∷ 95 ∷ reverse front
reversed front digits =
    reverse-append front (codes "__" ++ digits) ∙ ap (λ l. l ++ reverse front) (reverse-append (codes "__") digits) ∙ append_assoc (reverse digits) (reverse (codes "__")) (reverse front)

-- a text that is read from its end: digits, and then `__`
record IsMarked (text : List ℕ) : Type 0 where
  front : List ℕ
  digits : List ℕ
  is : text ≡ digits ++ 95 ∷ 95 ∷ front
  each : AreDigitCodes digits

lines : (c : ℕ) (text : List ℕ) → ends_in_underscores (c ∷ text) ≡ true → IsMarked (c ∷ text)
lines c [] e = absurd cc
lines c (d ∷ front) e = let are = two c d e in record { front = front; digits = []; is = (λ i. are.0 i ∷ are.1 i ∷ front); each = tt {0} }
  where
    two : (c d : ℕ) → (c == 95 && d == 95) ≡ true → (c ≡ 95) × (d ≡ 95)
    two c d e = grind (arith, nat_tests, e)

marked : (text : List ℕ) → marked_before_digits text ≡ true → IsMarked text
marked [] e = absurd cc
marked (c ∷ text) e = by (is_digit c) refl (marked text) e
  where
    by : (b : Bool) → is_digit c ≡ b → (marked_before_digits text ≡ true → IsMarked text) → (if b then marked_before_digits text else ends_in_underscores (c ∷ text)) ≡ true → IsMarked (c ∷ text)
    by true d more e = let rest = more e in record { front = rest.front; digits = c ∷ rest.digits; is = ap (λ l. c ∷ l) rest.is; each = (digit_of c d, rest.each) }
    by false d more e = lines c text e

numbered : (text : List ℕ) → from_end text ≡ true → EndsInNumber (reverse text)
numbered [] e = absurd cc
numbered (c ∷ text) e = by (is_digit c) refl e
  where
    by : (b : Bool) → is_digit c ≡ b → (b && marked_before_digits text) ≡ true → EndsInNumber (reverse (c ∷ text))
    by true d e =
        let rest = marked text e in
        let digits = c ∷ rest.digits in
        record {
          front = reverse rest.front;
          digits = reverse digits;
          is = ap (λ l. reverse (c ∷ l)) rest.is ∙ reverse-append digits (95 ∷ 95 ∷ rest.front) ∙ ap (λ l. l ++ reverse digits) (reverse-append (codes "__") rest.front) ∙ append_assoc (reverse rest.front) (codes "__") (reverse digits);
          some = λ none. omega (arith, ap length none, length-reverse digits);
          each = All-from_recursion IsDigit (reverse digits) (digits_back digits (digit_of c d, rest.each));
        }
    by false d e = absurd cc

pub ends_so : (name : List ℕ) → ends_in_number name ≡ true → EndsInNumber name
ends_so name e = subst EndsInNumber (reverse-reverse name) (numbered (reverse name) e)

pub ends_then : (name : List ℕ) → EndsInNumber name → ends_in_number name ≡ true
ends_then name ends =
    ap (λ l. from_end (reverse l)) ends.is ∙ ap from_end (reversed ends.front ends.digits)
    ∙ from_digits (reverse ends.digits) (95 ∷ 95 ∷ reverse ends.front) (omega (arith, length-reverse ends.digits, some_are ends.digits ends.some)) (digits_back ends.digits (recursion_from_All IsDigit ends.digits ends.each)) refl
  where
    some_are : (digits : List ℕ) → digits ≢ [] → 0 < length digits
    some_are [] some = absurd (some refl)
    some_are (c ∷ digits) some = omega arith
