-- Character constants: where one ends, and its value.
use Rattle.std.proofs.Common.{arith, ◌≡◌, ◌≢◌, ℕ, zero, suc, ◌+◌, ◌*◌, ◌^◌, ◌<◌, ◌≤◌, List, [], ◌∷◌, ◌++◌, length, take, drop, min, refl, inl, inr, ap, sym, ◌∙◌, subst, append_assoc}
use Rattle.std.specs.Prelude.{fold, Some, None, Option, MatchOption}
use Rattle.std.specs.List.{AllByRecursion}
use Rattle.std.specs.Char.{digit_value}
use Rattle.std.proofs.Math.Nat.{mul-le-mul_right, pow-le-pow_right, pow-zero, pow-succ', mul_assoc}
use Rattle.c_syntax.specs.Constants.{AreDigits, number_of, greatest_value, beside, escapes, IsItem, Plain, Escape, OctalEscape, HexEscape, IsCharacter}
use Rattle.c_syntax.proofs.Digits.{same_run, no_digit}
use Rattle.c_spellings.proofs.ListLemmas.{first_is, rest_is}
use Rattle.c_lexer.specs.Front.{HasNoQuote, IsHeadSize, HasNoItem, IsQuoted, IsBehindCharacter}

-- so many digits of a base stand for less than this power of it
fold_below : (base n : ℕ) (digits : List ℕ) → AllByRecursion (λ c. digit_value c < base) digits → fold (λ n c. n * base + digit_value c) n digits < (n + 1) * base ^ length digits
fold_below base n [] each = let one : base ^ length {A = ℕ} [] ≡ 1 = pow-zero base in omega (arith, subst (λ p. n < (n + 1) * p) (sym one) (omega arith))
fold_below base n (c ∷ digits) each =
    let below = fold_below base (n * base + digit_value c) digits each.1 in
    let step : n * base + digit_value c + 1 ≤ (n + 1) * base = grind (arith, each.0) in
    let wider = mul-le-mul_right (base ^ length digits) step in
    let same : (n + 1) * base * base ^ length digits ≡ (n + 1) * base ^ length (c ∷ digits) = mul_assoc (n + 1) base (base ^ length digits) ∙ ap (λ p. (n + 1) * p) (sym (pow-succ' base (length digits))) in
    omega (arith, below, wider, same)

pub number_below : (base most : ℕ) (digits : List ℕ) → 2 ≤ base → base ^ most ≤ 65536 → AreDigits base digits → length digits ≤ most → number_of base digits < 65536
number_below base most digits some fits all short =
    let below = fold_below base 0 digits all.each in
    let power = pow-le-pow_right {n = base} (omega (arith, some)) short in
    omega (arith, below, power, fits)

-- what an item looks like: one byte, or a backslash, a byte, and no quotes behind it
pub data HasShape (item : List ℕ) : Type 0 where
  OneByte : (c : ℕ) → item ≡ c ∷ [] → c ≢ 92 → HasShape item
  Escaped : (c : ℕ) (tail : List ℕ) → item ≡ 92 ∷ c ∷ tail → HasNoQuote tail → HasShape item

-- digits are no quotes
no_quotes : (base : ℕ) (digits : List ℕ) → base ≤ 16 → AllByRecursion (λ c. digit_value c < base) digits → HasNoQuote digits
no_quotes base [] small each = tt
no_quotes base (c ∷ digits) small each = ((λ e. no_digit base c 39 e (omega (arith, small)) each.0), no_quotes base digits small each.1)

shape_of : (item : List ℕ) (value : ℕ) → IsItem item value → HasShape item
shape_of item value (Plain e printable no_quote no_backslash) = OneByte value e no_backslash
shape_of item value (Escape sign e stands) = Escaped sign [] e tt
shape_of item value (OctalEscape [] e digits short is) = absurd (omega (arith, digits.some))
shape_of item value (OctalEscape (c ∷ tail) e digits short is) = Escaped c tail e (no_quotes 8 tail (omega arith) digits.each.1)
shape_of item value (HexEscape digits e all short is) = Escaped 120 digits e (no_quotes 16 digits (omega arith) all.each)

-- two texts without quotes before a quote at one place are the same
same_until : (a b r s : List ℕ) → HasNoQuote a → HasNoQuote b → a ++ 39 ∷ r ≡ b ++ 39 ∷ s → a ≡ b
same_until a b r s none_a none_b e = (same_run (λ c. c ≢ 39) a b (39 ∷ r) (39 ∷ s) none_a none_b (λ n. n refl) (λ n. n refl) e).0

-- a text with a quote in it has one
has_quote : (a b : List ℕ) → HasNoQuote (a ++ 39 ∷ b) → ⊥
has_quote [] b none = none.0 refl
has_quote (c ∷ a) b none = has_quote a b none.1

take_front : (a b : List ℕ) → take (length a) (a ++ b) ≡ a
take_front [] b = refl
take_front (c ∷ a) b = ap (λ l. c ∷ l) (take_front a b)

-- the item behind one byte that is no backslash
after_one : (inside : List ℕ) (c : ℕ) (after tail rest : List ℕ) → inside ≡ c ∷ after → c ≢ 92 → after ≡ tail ++ 39 ∷ rest → HasNoQuote tail
    → (other behind : List ℕ) → HasShape other → inside ≡ other ++ 39 ∷ behind → other ≡ c ∷ tail
after_one inside c after tail rest is no_backslash ends none other behind (OneByte d shape other_no) e =
    let whole : c ∷ after ≡ d ∷ 39 ∷ behind = sym is ∙ e ∙ ap (λ o. o ++ 39 ∷ behind) shape in
    let empty : [] ≡ tail = same_until [] tail behind rest tt none (sym (rest_is whole) ∙ ends) in
    shape ∙ (λ i. sym (first_is whole) i ∷ empty i)
after_one inside c after tail rest is no_backslash ends none other behind (Escaped d more shape no_quote) e =
    absurd (no_backslash (first_is (sym is ∙ e ∙ ap (λ o. o ++ 39 ∷ behind) shape)))

-- the item behind a backslash and a byte
after_two : (inside : List ℕ) (c : ℕ) (after tail rest : List ℕ) → inside ≡ 92 ∷ c ∷ after → after ≡ tail ++ 39 ∷ rest → HasNoQuote tail
    → (other behind : List ℕ) → HasShape other → inside ≡ other ++ 39 ∷ behind → other ≡ 92 ∷ c ∷ tail
after_two inside c after tail rest is ends none other behind (OneByte d shape no_backslash) e =
    absurd (no_backslash (sym (first_is (sym is ∙ e ∙ ap (λ o. o ++ 39 ∷ behind) shape))))
after_two inside c after tail rest is ends none other behind (Escaped d more shape no_quote) e =
    let whole : 92 ∷ c ∷ after ≡ 92 ∷ d ∷ (more ++ 39 ∷ behind) = sym is ∙ e ∙ ap (λ o. o ++ 39 ∷ behind) shape in
    let same : more ≡ tail = same_until more tail behind rest no_quote none (sym (rest_is (rest_is whole)) ∙ ends) in
    shape ∙ (λ i. 92 ∷ sym (first_is (rest_is whole)) i ∷ same i)

-- a text has as many bytes as are left out and kept
long_two : (inside rest : List ℕ) → inside ≡ 92 ∷ rest → 2 ≤ length inside → (c : ℕ) × (after : List ℕ) × (inside ≡ 92 ∷ c ∷ after)
long_two inside [] is long = absurd (omega (arith, long, ap length is))
long_two inside (c ∷ after) is long = (c, after, is)

-- the text between two quotes is the only one that may be an item
pub quoted_is : (text inside tail rest : List ℕ) (head : ℕ) → text ≡ 39 ∷ inside → IsHeadSize inside head → head ≤ length inside → drop head inside ≡ tail ++ 39 ∷ rest → HasNoQuote tail
    → IsQuoted text (take (head + length tail) inside) rest
quoted_is text inside tail rest head is (inl two) long ends none =
    let cut = long_two inside two.1 two.2 (omega (arith, long, two.0)) in
    let size : head + length tail ≡ suc (suc (length tail)) = omega (arith, two.0) in
    let after_is : cut.1 ≡ tail ++ 39 ∷ rest = sym (ap (drop 2) cut.2) ∙ ap (λ h. drop h inside) (sym two.0) ∙ ends in
    let item_is : take (head + length tail) inside ≡ 92 ∷ cut.0 ∷ tail = (λ i. take (size i) (cut.2 i)) ∙ ap (λ t. 92 ∷ cut.0 ∷ take (length tail) t) after_is ∙ ap (λ t. 92 ∷ cut.0 ∷ t) (take_front tail (39 ∷ rest)) in
    record {
      front = is ∙ ap (λ t. 39 ∷ t) (cut.2 ∙ ap (λ t. 92 ∷ cut.0 ∷ t) after_is ∙ ap (λ t. t ++ 39 ∷ rest) (sym item_is));
      only = λ other behind value item e. after_two inside cut.0 cut.1 tail rest cut.2 after_is none other behind (shape_of other value item) (rest_is (sym is ∙ e)) ∙ sym item_is;
    }
quoted_is text [] tail rest head is (inr one) long ends none = absurd (omega (arith, long, one.0))
quoted_is text (c ∷ after) tail rest head is (inr one) long ends none =
    let after_is : after ≡ tail ++ 39 ∷ rest = ap (λ h. drop h (c ∷ after)) (sym one.0) ∙ ends in
    let size : head + length tail ≡ suc (length tail) = omega (arith, one.0) in
    let item_is : take (head + length tail) (c ∷ after) ≡ c ∷ tail = ap (λ n. take n (c ∷ after)) size ∙ ap (λ t. c ∷ take (length tail) t) after_is ∙ ap (λ t. c ∷ t) (take_front tail (39 ∷ rest)) in
    record {
      front = is ∙ ap (λ t. 39 ∷ t) (ap (λ t. c ∷ t) after_is ∙ ap (λ t. t ++ 39 ∷ rest) (sym item_is));
      only = λ other behind value item e.
          after_one (c ∷ after) c after tail rest refl (λ slash. one.1 after (ap (λ b. b ∷ after) slash)) after_is none other behind (shape_of other value item) (rest_is (sym is ∙ e)) ∙ sym item_is;
    }

-- where no quote follows there is no item
pub no_item : (text inside : List ℕ) (head : ℕ) → text ≡ 39 ∷ inside → IsHeadSize inside head → HasNoQuote (drop head inside) → HasNoItem text
no_item text inside head is size none item rest value stands e = no_end size (shape_of item value stands)
  where
    whole : inside ≡ item ++ 39 ∷ rest
    whole = rest_is (sym is ∙ e)

    no_end : IsHeadSize inside head → HasShape item → ⊥
    no_end (inl two) (OneByte c shape no_backslash) = no_backslash (first_is (sym (whole ∙ ap (λ o. o ++ 39 ∷ rest) shape) ∙ two.2))
    no_end (inl two) (Escaped c tail shape no_quote) = has_quote tail rest (subst HasNoQuote (λ i. drop (two.0 i) ((whole ∙ ap (λ o. o ++ 39 ∷ rest) shape) i)) none)
    no_end (inr one) (OneByte c shape no_backslash) = has_quote [] rest (subst HasNoQuote (λ i. drop (one.0 i) ((whole ∙ ap (λ o. o ++ 39 ∷ rest) shape) i)) none)
    no_end (inr one) (Escaped c tail shape no_quote) = one.1 (c ∷ (tail ++ 39 ∷ rest)) (whole ∙ ap (λ o. o ++ 39 ∷ rest) shape)

-- where no text stands between quotes
pub short_inside : (inside : List ℕ) (head : ℕ) → length inside < head → HasNoQuote (drop head inside)
short_inside [] zero short = tt
short_inside [] (suc n) short = tt
short_inside (c ∷ inside) zero short = absurd (omega (arith, short))
short_inside (c ∷ inside) (suc n) short = short_inside inside n (omega (arith, short))

-- the value that was read is the number
pub kept_whole : (number : ℕ) → number < 65536 → min greatest_value number ≡ number
kept_whole number small = grind arith

-- x and digits
pub hex_only : (item digits : List ℕ) → item ≡ 92 ∷ 120 ∷ digits → (AreDigits 16 digits → length digits ≤ 4 → ⊥) → (value : ℕ) → IsItem item value → ⊥
hex_only item digits is none value (Plain e printable no_quote no_backslash) = no_backslash (first_is (sym e ∙ is))
hex_only item digits is none value (Escape sign e stands) = let x : sign ≡ 120 = first_is (rest_is (sym e ∙ is)) in let no_sign : None ≡ Some value = subst (λ s. beside s escapes ≡ Some value) x stands in absurd cc
hex_only item digits is none value (OctalEscape octal e all short same) = no_digit 8 120 120 refl (omega arith) (subst (AllByRecursion (λ c. digit_value c < 8)) (rest_is (sym e ∙ is)) all.each).0
hex_only item digits is none value (HexEscape other e all short same) = let like : other ≡ digits = rest_is (rest_is (sym e ∙ is)) in none (subst (AreDigits 16) like all) (subst (λ d. length d ≤ 4) like short)

-- octal digits, or one sign
pub escape_only : (item escape : List ℕ) → item ≡ 92 ∷ escape → ((digits : List ℕ) → item ≢ 92 ∷ 120 ∷ digits) → (AreDigits 8 escape → length escape ≤ 3 → ⊥) → ((sign value : ℕ) → escape ≡ sign ∷ [] → beside sign escapes ≢ Some value) → (value : ℕ) → IsItem item value → ⊥
escape_only item escape is no_x none no_sign value (Plain e printable no_quote no_backslash) = no_backslash (first_is (sym e ∙ is))
escape_only item escape is no_x none no_sign value (Escape sign e stands) = no_sign sign value (rest_is (sym is ∙ e)) stands
escape_only item escape is no_x none no_sign value (OctalEscape octal e all short same) = let like : octal ≡ escape = rest_is (sym e ∙ is) in none (subst (AreDigits 8) like all) (subst (λ d. length d ≤ 3) like short)
escape_only item escape is no_x none no_sign value (HexEscape other e all short same) = no_x other e

-- what the digits behind x give
pub hex_item : (item digits : List ℕ) (found : Option ℕ) → item ≡ 92 ∷ 120 ∷ digits
    → MatchOption found (AreDigits 16 digits → length digits ≤ 4 → ⊥) (λ value. AreDigits 16 digits × (length digits ≤ 4) × (value ≡ number_of 16 digits))
    → MatchOption found ((value : ℕ) → IsItem item value → ⊥) (IsItem item)
hex_item item digits None is none = hex_only item digits is none
hex_item item digits (Some value) is found = HexEscape digits is found.0 found.1 found.2

-- what the sign behind a backslash gives
pub sign_item : (item escape : List ℕ) (found : Option ℕ) → item ≡ 92 ∷ escape → ((digits : List ℕ) → item ≢ 92 ∷ 120 ∷ digits) → (AreDigits 8 escape → length escape ≤ 3 → ⊥)
    → MatchOption found ((sign value : ℕ) → escape ≡ sign ∷ [] → beside sign escapes ≢ Some value) (λ value. (sign : ℕ) × (escape ≡ sign ∷ []) × (beside sign escapes ≡ Some value))
    → MatchOption found ((value : ℕ) → IsItem item value → ⊥) (IsItem item)
sign_item item escape None is no_x no_digits none = escape_only item escape is no_x no_digits none
sign_item item escape (Some value) is no_x no_digits found = Escape found.0 (is ∙ ap (λ e. 92 ∷ e) found.1) found.2

-- an item between quotes is a character constant
pub is_character : (text item rest : List ℕ) (value : ℕ) → IsQuoted text item rest → IsItem item value → IsBehindCharacter text value rest
is_character text item rest value between stands = record {
  spelling = 39 ∷ item ++ 39 ∷ [];
  front = between.front ∙ ap (λ t. 39 ∷ t) (sym (append_assoc item (39 ∷ []) rest));
  is = record { item = item; quoted = refl; stands = stands };
}

-- where there is none between quotes, no character constant stands
front_of : (text spelling rest : List ℕ) (value : ℕ) → (is : IsCharacter spelling value) → text ≡ spelling ++ rest → text ≡ 39 ∷ is.item ++ 39 ∷ rest
front_of text spelling rest value is e = e ∙ ap (λ s. s ++ rest) is.quoted ∙ ap (λ t. 39 ∷ t) (append_assoc is.item (39 ∷ []) rest)

pub no_character : (text : List ℕ) → HasNoItem text → (spelling rest : List ℕ) (value : ℕ) → IsCharacter spelling value → text ≢ spelling ++ rest
no_character text none spelling rest value is e = none is.item rest value is.stands (front_of text spelling rest value is e)

pub wrong_item : (text item behind : List ℕ) → IsQuoted text item behind → ((value : ℕ) → IsItem item value → ⊥) → (spelling rest : List ℕ) (value : ℕ) → IsCharacter spelling value → text ≢ spelling ++ rest
wrong_item text item behind between wrong spelling rest value is e =
    wrong value (subst (λ i. IsItem i value) (between.only is.item rest value is.stands (front_of text spelling rest value is e)) is.stands)
