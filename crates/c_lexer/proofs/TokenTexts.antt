-- The text of tokens has tokens of the same kinds.
use Rattle.std.proofs.Common.{◌≡◌, ◌≢◌, ◌⊎◌, ℕ, zero, suc, ◌+◌, ◌-◌, ◌*◌, ◌/◌, ◌%◌, ◌<◌, ◌≤◌, ◌^◌, Bool, true, false, cond, List, [], ◌∷◌, ◌++◌, length, get_or, refl, sym, ap, subst, ◌∙◌, inl, inr, arith, append_assoc, append-nil, length-append}
use Rattle.std.specs.Prelude.{codes, decimal, fold, All, slice_index}
use Rattle.std.specs.List.{AllByRecursion}
use Rattle.std.specs.Char.{digit_value}
use Rattle.std.proofs.lemmas.Bool.{lt-ltb, le-ltb, cases_lt}
use Rattle.std.proofs.lemmas.Bool.Decides.{nat_tests}
use Rattle.std.proofs.lemmas.Fmt.{decimal_by_steps, first_decimal}
use Rattle.std.proofs.lemmas.List.Elements.{recursion_from_All}
use Rattle.word_base.specs.Name.{IsNameStart, IsNamePart}
use Rattle.text_base.specs.Hex.{hex_digit, hex4}
use Rattle.c_syntax.specs.declared.token.Keyword.{Keyword}
use Rattle.c_syntax.specs.declared.token.Punct.{Punct}
use Rattle.c_syntax.specs.declared.token.Punct.TheVariants.{Semicolon, OpenBrace, CloseBrace}
use Rattle.c_syntax.specs.declared.token.Token.{Token}
use Rattle.c_syntax.specs.declared.token.TokenKind.{TokenKind}
use Rattle.c_syntax.specs.declared.token.TokenKind.TheVariants.{Word, Name, Number, Char, Mark}
use Rattle.c_syntax.specs.FixedTexts.{keyword_text, mark_text}
use Rattle.c_syntax.specs.Constants.{is_decimal as is_decimal_radix}
use Rattle.c_syntax.specs.Constants.{AreDigits, number_of, Radix, Decimal, Hexadecimal, IsBare, IsSuffix, HexEscape, IsCharacter, greatest_value}
use Rattle.c_syntax.specs.Spelling.{IsDigit, IsNumberPart, Means}
use Rattle.c_syntax.specs.Lexes.{IsSpace, IsLongest, Piece, Blank, Spelled, pieces_text, AllStand, tokens_from, Lexes, most_tokens}
use Rattle.c_syntax.proofs.Sorts.{Void, Letter, Digit, Quote, Sign, sort_of, text_sort, letter_sort, digit_sort, space_sort, mark_sort, front_sort}
use Rattle.c_syntax.proofs.Spellings.{same_length_fronts}
use Rattle.c_spellings.specs.Front.{HasNoBlank}
use Rattle.c_lexer.specs.Front.{IsToken, BeginsWith, IsSign}
use Rattle.c_lexer.specs.TokenText.{hexadecimal, number_text, suffix_text, kind_text, separator, tokens_text, placed_from, HasSpelling}
use Rattle.c_lexer.proofs.ScannerLemmas.{run_longest, word_token, number_token, character_token, mark_token}

-- ---- what stands behind a token

abbrev IsSeparator : ℕ → Type 0
IsSeparator c = (c ≡ 32) ⊎ (c ≡ 10)

separator_is : (kind : TokenKind) → IsSeparator (separator kind)
separator_is (Mark Semicolon) = inr refl
separator_is (Mark OpenBrace) = inr refl
separator_is (Mark CloseBrace) = inr refl
separator_is kind = inl refl

separator_is_space : (c : ℕ) → IsSeparator c → IsSpace c
separator_is_space c (inl e) = inl e
separator_is_space c (inr e) = inr (omega arith, omega arith)

-- it is no part of a number or a name
no_part : (c : ℕ) → IsSeparator c → IsNumberPart c → ⊥
no_part c (inl e) (inl (inl (inl p))) = omega (arith, e, p.0)
no_part c (inl e) (inl (inl (inr (inl p)))) = omega (arith, e, p.0)
no_part c (inl e) (inl (inl (inr (inr p)))) = omega (arith, e, p)
no_part c (inl e) (inl (inr p)) = omega (arith, e, p.0)
no_part c (inl e) (inr p) = omega (arith, e, p)
no_part c (inr e) (inl (inl (inl p))) = omega (arith, e, p.0)
no_part c (inr e) (inl (inl (inr (inl p)))) = omega (arith, e, p.0)
no_part c (inr e) (inl (inl (inr (inr p)))) = omega (arith, e, p)
no_part c (inr e) (inl (inr p)) = omega (arith, e, p.0)
no_part c (inr e) (inr p) = omega (arith, e, p)

-- the token that stands before a rest is the longest one there
longest_there : (text rest : List ℕ) (kind : TokenKind) → IsToken (text ++ rest) kind (length text) → IsLongest text rest × Means text kind
longest_there text rest kind t =
    let same = same_length_fronts text t.spelling rest t.rest t.sized t.front in (
      subst (λ s. IsLongest s rest) (sym same.0) (subst (IsLongest t.spelling) (sym same.1) t.longest),
      subst (λ s. Means s kind) (sym same.0) t.means,
    )

-- ---- words

word_there : (text rest : List ℕ) (sep : ℕ) (kind : TokenKind) → IsSeparator sep → 0 < length text → IsNameStart (slice_index text 0) → AllByRecursion IsNamePart text → Means text kind → IsLongest text (sep ∷ rest) × Means text kind
word_there [] rest sep kind is some start parts means = absurd (omega arith)
word_there (c ∷ text) rest sep kind is some start parts means =
    longest_there (c ∷ text) (sep ∷ rest) kind
    (word_token (c ∷ text ++ sep ∷ rest) (c ∷ text) (sep ∷ rest) (c, text ++ sep ∷ rest, refl, start)
    (record { front = refl; parts = parts; ends = λ d behind e part. let same : sep ≡ d = cc in no_part sep is (inl (subst IsNamePart (sym same) part)) })
    kind means)

abbrev IsLower : ℕ → Type 0
IsLower c = (97 ≤ c) × (c ≤ 122)

keyword_letters : (k : Keyword) → AllByRecursion IsLower (keyword_text k) × (0 < length (keyword_text k))
keyword_letters k = grind arith

lower_parts : (text : List ℕ) → AllByRecursion IsLower text → AllByRecursion IsNamePart text
lower_parts [] h = tt {0}
lower_parts (c ∷ text) h = (inl (inr (inl (h.0.0, h.0.1))), lower_parts text h.1)

lower_start : (text : List ℕ) → 0 < length text → AllByRecursion IsLower text → IsNameStart (slice_index text 0)
lower_start [] some h = absurd (omega arith)
lower_start (c ∷ text) some h = inr (inl (h.0.0, h.0.1))

-- ---- digits

fold_push : (f : ℕ → ℕ → ℕ) (a : ℕ) (xs : List ℕ) (x : ℕ) → fold f a (xs ++ x ∷ []) ≡ f (fold f a xs) x
fold_push f a [] x = refl
fold_push f a (y ∷ xs) x = fold_push f (f a y) xs x

each_push : (P : ℕ → Type 0) (xs : List ℕ) (x : ℕ) → AllByRecursion P xs → P x → AllByRecursion P (xs ++ x ∷ [])
each_push P [] x h p = (p, tt {0})
each_push P (y ∷ xs) x h p = (h.0, each_push P xs x h.1 p)

-- digits of a base that stand for a number
record DigitsOf (base n : ℕ) (text : List ℕ) : Type 0 where
  are : AreDigits base text
  is : number_of base text ≡ n

one_digit : (base c d : ℕ) → digit_value c ≡ d → d < base → DigitsOf base d (c ∷ [])
one_digit base c d e lt = record {
  are = record { some = omega arith; each = (subst (λ v. v < base) (sym e) lt, tt {0}) };
  is = ap (λ v. 0 * base + v) e ∙ (let none : 0 * base + d ≡ d = omega arith in none);
}

digit_more : (base n m c d : ℕ) (text : List ℕ) → DigitsOf base m text → digit_value c ≡ d → d < base → m * base + d ≡ n → DigitsOf base n (text ++ c ∷ [])
digit_more base n m c d text h e lt is = record {
  are = record { some = omega (arith, length-append text (c ∷ [])); each = each_push (λ x. digit_value x < base) text c h.are.each (subst (λ v. v < base) (sym e) lt) };
  is = fold_push (λ k x. k * base + digit_value x) 0 text c ∙ ap (λ k. k * base + digit_value c) h.is ∙ ap (λ v. m * base + v) e ∙ is;
}

decimal_digit : (d : ℕ) → d < 10 → digit_value (48 + d) ≡ d
decimal_digit d lt = grind (arith, nat_tests)

hex_digit_value : (d : ℕ) → d < 16 → digit_value (hex_digit d) ≡ d
hex_digit_value d lt = grind (arith, nat_tests)

decimal_digits : (n : ℕ) → n < 2 ^ 64 → DigitsOf 10 n (decimal n)
decimal_digits = decimal_by_steps (λ m ds. DigitsOf 10 m ds)
    (λ m lt. one_digit 10 (48 + m) m (decimal_digit m lt) lt)
    (λ m ds le more. digit_more 10 m (m / 10) (48 + m % 10) (m % 10) ds more (decimal_digit (m % 10) (omega arith)) (omega arith) (omega arith))

-- so many hexadecimal digits are enough for a number
abbrev Fits : ℕ → ℕ → Type 0
Fits zero n = n ≡ 0
Fits (suc count) n = Fits count (n / 16)

hex_digits : (count n : ℕ) → Fits (suc count) n → DigitsOf 16 n (hexadecimal (suc count) n)
hex_digits zero n fits =
    let small : n < 16 = omega (arith, fits) in
    subst (λ b. DigitsOf 16 n (cond b (hex_digit n ∷ []) (hexadecimal zero (n / 16) ++ hex_digit (n % 16) ∷ []))) (sym (lt-ltb n 16 small)) (one_digit 16 (hex_digit n) n (hex_digit_value n small) small)
hex_digits (suc count) n fits = by (cases_lt n 16) (hex_digits count (n / 16) fits)
  where
    by : (n < 16) ⊎ (16 ≤ n) → DigitsOf 16 (n / 16) (hexadecimal (suc count) (n / 16)) → DigitsOf 16 n (hexadecimal (suc (suc count)) n)
    by (inl small) more =
        subst (λ b. DigitsOf 16 n (cond b (hex_digit n ∷ []) (hexadecimal (suc count) (n / 16) ++ hex_digit (n % 16) ∷ []))) (sym (lt-ltb n 16 small)) (one_digit 16 (hex_digit n) n (hex_digit_value n small) small)
    by (inr large) more =
        subst (λ b. DigitsOf 16 n (cond b (hex_digit n ∷ []) (hexadecimal (suc count) (n / 16) ++ hex_digit (n % 16) ∷ []))) (sym (le-ltb n 16 large))
        (digit_more 16 n (n / 16) (hex_digit (n % 16)) (n % 16) (hexadecimal (suc count) (n / 16)) more (hex_digit_value (n % 16) (omega arith)) (omega arith) (omega arith))

pub hexadecimal_one : (most n : ℕ) → 0 < most → n < 16 → hexadecimal most n ≡ hex_digit n ∷ []
hexadecimal_one zero n some small = absurd (omega arith)
hexadecimal_one (suc count) n some small = ap (λ b. cond b (hex_digit n ∷ []) (hexadecimal count (n / 16) ++ hex_digit (n % 16) ∷ [])) (lt-ltb n 16 small)

pub hexadecimal_more : (most n : ℕ) → 0 < most → 16 ≤ n → hexadecimal most n ≡ hexadecimal (most - 1) (n / 16) ++ hex_digit (n % 16) ∷ []
hexadecimal_more zero n some large = absurd (omega arith)
hexadecimal_more (suc count) n some large =
    let one_less : count ≡ suc count - 1 = omega arith in
    ap (λ b. cond b (hex_digit n ∷ []) (hexadecimal count (n / 16) ++ hex_digit (n % 16) ∷ [])) (le-ltb n 16 large)
    ∙ ap (λ k. hexadecimal k (n / 16) ++ hex_digit (n % 16) ∷ []) one_less

-- ---- numbers

-- the digits of a base of 16 at most are parts of a number
digit_part : (c base : ℕ) → base ≤ 16 → digit_value c < base → IsNumberPart c
digit_part c base le lt = by (cases_lt c 48) (cases_lt c 58) (cases_lt c 65) (cases_lt c 91) (cases_lt c 97) (cases_lt c 123)
  where
    none : 36 < base → ⊥
    none h = omega (arith, h, le)

    by : (c < 48) ⊎ (48 ≤ c) → (c < 58) ⊎ (58 ≤ c) → (c < 65) ⊎ (65 ≤ c) → (c < 91) ⊎ (91 ≤ c) → (c < 97) ⊎ (97 ≤ c) → (c < 123) ⊎ (123 ≤ c) → IsNumberPart c
    by (inl p) q r s t u = absurd (let v : digit_value c ≡ 36 = grind (arith, nat_tests, p) in omega (arith, v, lt, le))
    by (inr p) (inl q) r s t u = inl (inr (p, omega (arith, q)))
    by (inr p) (inr q) (inl r) s t u = absurd (let v : digit_value c ≡ 36 = grind (arith, nat_tests, p, q, r) in omega (arith, v, lt, le))
    by (inr p) (inr q) (inr r) (inl s) t u = inl (inl (inl (r, omega (arith, s))))
    by (inr p) (inr q) (inr r) (inr s) (inl t) u = absurd (let v : digit_value c ≡ 36 = grind (arith, nat_tests, p, q, r, s, t) in omega (arith, v, lt, le))
    by (inr p) (inr q) (inr r) (inr s) (inr t) (inl u) = inl (inl (inr (inl (t, omega (arith, u)))))
    by (inr p) (inr q) (inr r) (inr s) (inr t) (inr u) = absurd (let v : digit_value c ≡ 36 = grind (arith, nat_tests, p, q, r, s, t, u) in omega (arith, v, lt, le))

digits_parts : (base : ℕ) (text : List ℕ) → base ≤ 16 → AllByRecursion (λ c. digit_value c < base) text → AllByRecursion IsNumberPart text
digits_parts base [] le h = tt {0}
digits_parts base (c ∷ text) le h = (digit_part c base le h.0, digits_parts base text le h.1)

both_parts : (xs ys : List ℕ) → AllByRecursion IsNumberPart xs → AllByRecursion IsNumberPart ys → AllByRecursion IsNumberPart (xs ++ ys)
both_parts [] ys g h = h
both_parts (x ∷ xs) ys g h = (g.0, both_parts xs ys g.1 h)

suffix_parts : (marked : Bool) → AllByRecursion IsNumberPart (suffix_text marked)
suffix_parts true = (inl (inl (inr (inl (omega arith, omega arith)))), tt {0})
suffix_parts false = tt {0}

suffix_is : (marked : Bool) → IsSuffix marked (suffix_text marked)
suffix_is true = inl refl
suffix_is false = refl

-- a text of digits is the constant that it begins
record NumberText (value : ℕ) (is_decimal : Bool) (text : List ℕ) : Type 0 where
  radix : Radix
  reads : IsBare radix text value
  based : is_decimal ≡ is_decimal_radix radix
  parts : AllByRecursion IsNumberPart text
  first : IsDigit (slice_index text 0)
  some : 0 < length text

number_is : (value : ℕ) (is_decimal : Bool) → value ≤ greatest_value → (is_decimal ≡ true → value ≢ 0) → NumberText value is_decimal (number_text value is_decimal)
number_is value true few some =
    let d = decimal_digits value (omega (arith, few)) in
    let lead : 48 < get_or (decimal value) 0 0 = first_decimal value (omega (arith, some refl)) (omega (arith, few)) in
    record {
      radix = Decimal;
      reads = (first_of (decimal value) d.are.some lead, d.are, sym d.is);
      based = refl;
      parts = digits_parts 10 (decimal value) (omega arith) d.are.each;
      first = first_digit (decimal value) d.are lead;
      some = d.are.some;
    }
  where
    first_of : (text : List ℕ) → 0 < length text → 48 < get_or text 0 0 → (first : ℕ) × (rest : List ℕ) × (text ≡ first ∷ rest) × (first ≢ 48)
    first_of [] some lead = absurd (omega arith)
    first_of (c ∷ text) some lead = (c, text, refl, λ e. omega (arith, e, lead))

    first_digit : (text : List ℕ) → AreDigits 10 text → 48 < get_or text 0 0 → IsDigit (slice_index text 0)
    first_digit [] are lead = absurd (omega (arith, are.some))
    first_digit (c ∷ text) are lead = (omega (arith, lead), by (cases_lt c 58))
      where
        by : (c < 58) ⊎ (58 ≤ c) → c ≤ 57
        by (inl small) = omega (arith, small)
        by (inr large) = absurd (let v : 9 < digit_value c = grind (arith, nat_tests, large) in omega (arith, v, are.each.0))
number_is value false few some =
    let d = hex_digits 7 value (omega (arith, few)) in
    record {
      radix = Hexadecimal;
      reads = (120, hexadecimal 8 value, refl, inl refl, d.are, sym d.is);
      based = refl;
      parts = (inl (inr (omega arith, omega arith)), (inl (inl (inr (inl (omega arith, omega arith)))), digits_parts 16 (hexadecimal 8 value) (omega arith) d.are.each));
      first = (omega arith, omega arith);
      some = omega arith;
    }

number_there : (text rest : List ℕ) (sep : ℕ) (kind : TokenKind) → IsSeparator sep → 0 < length text → IsDigit (slice_index text 0) → AllByRecursion IsNumberPart text → Means text kind → IsLongest text (sep ∷ rest) × Means text kind
number_there [] rest sep kind is some start parts means = absurd (omega arith)
number_there (c ∷ text) rest sep kind is some start parts means =
    longest_there (c ∷ text) (sep ∷ rest) kind
    (number_token (c ∷ text ++ sep ∷ rest) (c ∷ text) (sep ∷ rest) (c, text ++ sep ∷ rest, refl, start)
    (record { front = refl; parts = parts; ends = λ d behind e part. let same : sep ≡ d = cc in no_part sep is (subst IsNumberPart (sym same) part) })
    kind means)

-- ---- characters

character_is : (value : ℕ) → value < 2 ^ 16 → IsCharacter (kind_text (Char value)) value
character_is value few = record {
  item = 92 ∷ 120 ∷ hex4 value;
  quoted = refl;
  stands = HexEscape (hex4 value) refl four.are (omega arith) (sym four.is);
}
  where
    four : DigitsOf 16 value (hex4 value)
    four =
        digit_more 16 value (value / 16) (hex_digit (value % 16)) (value % 16) _
        (digit_more 16 (value / 16) (value / 256) (hex_digit (value / 16 % 16)) (value / 16 % 16) _
        (digit_more 16 (value / 256) (value / 4096) (hex_digit (value / 256 % 16)) (value / 256 % 16) _
        (one_digit 16 (hex_digit (value / 4096)) (value / 4096) (hex_digit_value (value / 4096) (omega (arith, few))) (omega (arith, few)))
        (hex_digit_value (value / 256 % 16) (omega arith)) (omega arith) (omega arith))
        (hex_digit_value (value / 16 % 16) (omega arith)) (omega arith) (omega arith))
        (hex_digit_value (value % 16) (omega arith)) (omega arith) (omega arith)

character_there : (value sep : ℕ) (rest : List ℕ) → value < 2 ^ 16 → IsLongest (kind_text (Char value)) (sep ∷ rest) × Means (kind_text (Char value)) (Char value)
character_there value sep rest few =
    let text = kind_text (Char value) in
    let size : length (text ++ sep ∷ rest) - length (sep ∷ rest) ≡ length text = omega (arith, length-append text (sep ∷ rest)) in
    longest_there text (sep ∷ rest) (Char value)
    (subst (IsToken (text ++ sep ∷ rest) (Char value)) size
    (character_token (text ++ sep ∷ rest) (39, (92 ∷ 120 ∷ (hex4 value ++ codes "'")) ++ sep ∷ rest, refl, refl) value (sep ∷ rest) (record { spelling = text; front = refl; is = character_is value few })))

-- ---- marks

-- what begins with a sign
sign_of : (c : ℕ) → sort_of c ≡ Sign → IsSign c
sign_of c is = (not_part, λ e. let k : Quote ≡ Sign = sym (ap sort_of e) ∙ is in cc)
  where
    not_part : IsNamePart c → ⊥
    not_part (inl start) = let k : Letter ≡ Sign = sym (letter_sort c start) ∙ is in absurd cc
    not_part (inr digit) = let k : Digit ≡ Sign = sym (digit_sort c digit) ∙ is in absurd cc

-- the bytes of marks are above those of spaces
mark_bytes : (m : Punct) → AllByRecursion (λ c. 32 < c) (mark_text m) × (0 < length (mark_text m))
mark_bytes m = grind arith

no_open : (m : Punct) (sep : ℕ) (rest inside : List ℕ) → (sep ≡ 32) ⊎ (sep ≡ 10) → mark_text m ++ sep ∷ rest ≢ 47 ∷ 42 ∷ inside
no_open m sep rest inside is e =
    let a : slice_index (mark_text m ++ sep ∷ rest) 0 ≡ 47 = ap (λ l. slice_index l 0) e in
    let b : slice_index (mark_text m ++ sep ∷ rest) 1 ≡ 42 = ap (λ l. slice_index l 1) e in
    second m a b
  where
    second : (n : Punct) → slice_index (mark_text n ++ sep ∷ rest) 0 ≡ 47 → slice_index (mark_text n ++ sep ∷ rest) 1 ≡ 42 → ⊥
    second n a b = grind (arith, a, b, is)

mark_there : (m : Punct) (sep : ℕ) (rest : List ℕ) → IsSeparator sep → IsLongest (mark_text m) (sep ∷ rest) × Means (mark_text m) (Mark m)
mark_there m sep rest is =
    let text = mark_text m in
    let bytes = text ++ sep ∷ rest in
    let size : length bytes - length (sep ∷ rest) ≡ length text = omega (arith, length-append text (sep ∷ rest)) in
    let begun : text_sort bytes ≡ Sign = front_sort text (sep ∷ rest) (λ e. let k : Sign ≡ Void = sym (mark_sort m) ∙ e in absurd cc) ∙ mark_sort m in
    longest_there text (sep ∷ rest) (Mark m)
    (subst (IsToken bytes (Mark m)) size
    (mark_token bytes (no_blank bytes begun (λ inside. no_open m sep rest inside is)) (begins text (mark_bytes m).1 begun) m (sep ∷ rest) (λ inside. no_open m sep rest inside is)
    (record { front = refl; longest = λ other behind e. run_longest (λ c. 32 < c) text (sep ∷ rest) (mark_text other) behind (mark_bytes other).0 above e })))
  where
    begins : (text : List ℕ) → 0 < length text → text_sort (text ++ sep ∷ rest) ≡ Sign → BeginsWith IsSign (text ++ sep ∷ rest)
    begins [] some e = absurd (omega arith)
    begins (c ∷ text) some e = (c, text ++ sep ∷ rest, refl, sign_of c e)

    no_blank : (bytes : List ℕ) → text_sort bytes ≡ Sign → ((inside : List ℕ) → bytes ≢ 47 ∷ 42 ∷ inside) → HasNoBlank bytes
    no_blank bytes begun none blank tail e (inl space) =
        let first : text_sort bytes ≡ sort_of space.0 = ap text_sort (e ∙ ap (λ b. b ++ tail) space.2) in
        let k : Sign ≡ Void = sym begun ∙ first ∙ space_sort space.0 space.1 in
        absurd cc
    no_blank bytes begun none blank tail e (inr comment) = none _ (e ∙ ap (λ b. b ++ tail) comment.whole)

    above : (c : ℕ) (tail : List ℕ) → sep ∷ rest ≡ c ∷ tail → 32 < c → ⊥
    above c tail e lt = let same : sep ≡ c = cc in by is same
      where
        by : IsSeparator sep → sep ≡ c → ⊥
        by (inl x) y = omega (arith, x, y, lt)
        by (inr x) y = omega (arith, x, y, lt)

-- ---- each kind

spelled_there : (kind : TokenKind) (sep : ℕ) (rest : List ℕ) → HasSpelling kind → IsSeparator sep → IsLongest (kind_text kind) (sep ∷ rest) × Means (kind_text kind) kind
spelled_there (Word keyword) sep rest h is =
    let letters = keyword_letters keyword in
    word_there (keyword_text keyword) rest sep (Word keyword) is letters.1 (lower_start (keyword_text keyword) letters.1 letters.0) (lower_parts (keyword_text keyword) letters.0) refl
spelled_there (Name name) sep rest h is =
    word_there name rest sep (Name name) is (omega (arith, h.0.from_one)) h.0.first (recursion_from_All IsNamePart name h.0.each) (refl, h.0, h.1)
spelled_there (Number value marked is_decimal) sep rest h is =
    let n = number_is value is_decimal h.0 h.1 in
    number_there (number_text value is_decimal ++ suffix_text marked) rest sep (Number value marked is_decimal) is
    (omega (arith, n.some, length-append (number_text value is_decimal) (suffix_text marked)))
    (first_there (number_text value is_decimal) n.some n.first)
    (both_parts (number_text value is_decimal) (suffix_text marked) n.parts (suffix_parts marked))
    (record {
      radix = n.radix;
      number = value;
      bare = number_text value is_decimal;
      suffix = suffix_text marked;
      joined = refl;
      reads = n.reads;
      ends = suffix_is marked;
      kept = omega (arith, h.0);
      based = n.based;
    })
  where
    first_there : (text : List ℕ) → 0 < length text → IsDigit (slice_index text 0) → IsDigit (slice_index (text ++ suffix_text marked) 0)
    first_there [] some d = absurd (omega arith)
    first_there (c ∷ text) some d = d
spelled_there (Char value) sep rest h is = character_there value sep rest h
spelled_there (Mark mark) sep rest h is = mark_there mark sep rest is

-- ---- the text of tokens, cut into pieces

pieces_of : List Token → List Piece
pieces_of [] = []
pieces_of (t ∷ ts) = Spelled (kind_text t.kind) t.kind ∷ Blank (separator t.kind ∷ []) ∷ pieces_of ts

pieces_are : (tokens : List Token) → tokens_text tokens ≡ pieces_text (pieces_of tokens)
unfolding pieces_of
pieces_are [] = refl
pieces_are (t ∷ ts) = append_assoc (kind_text t.kind) (separator t.kind ∷ []) (tokens_text ts) ∙ ap (λ l. kind_text t.kind ++ separator t.kind ∷ l) (pieces_are ts)

pieces_stand : (tokens : List Token) → AllByRecursion (λ t. HasSpelling t.kind) tokens → AllStand (pieces_of tokens) []
unfolding pieces_of
pieces_stand [] h = tt
pieces_stand (t ∷ ts) h =
    let there = spelled_there t.kind (separator t.kind) (pieces_text (pieces_of ts) ++ []) h.0 (separator_is t.kind) in (
      there,
      (inl (separator t.kind, separator_is_space (separator t.kind) (separator_is t.kind), refl), pieces_stand ts h.1),
    )

tokens_placed : (at : ℕ) (tokens : List Token) → placed_from at tokens ≡ tokens_from at (pieces_of tokens)
unfolding pieces_of
tokens_placed at [] = refl
tokens_placed at (t ∷ ts) =
    let next : at + (length (kind_text t.kind) + 1) ≡ at + length (kind_text t.kind) + 1 = omega arith in
    ap (λ l. (record { kind = t.kind; at = at; len = length (kind_text t.kind) }) ∷ l)
    (ap (λ n. placed_from n ts) next ∙ tokens_placed (at + length (kind_text t.kind) + 1) ts)

length_placed : (at : ℕ) (tokens : List Token) → length (placed_from at tokens) ≡ length tokens
length_placed at [] = refl
length_placed at (t ∷ ts) = ap suc (length_placed (at + (length (kind_text t.kind) + 1)) ts)

pub lexes_again : (tokens : List Token) (text : List ℕ) → text ≡ tokens_text tokens → All (λ t. HasSpelling t.kind) tokens → length tokens ≤ most_tokens → Lexes text (placed_from 0 tokens)
lexes_again tokens text is each few = (
  record {
    pieces = pieces_of tokens;
    cut = is ∙ pieces_are tokens ∙ sym (append-nil (pieces_text (pieces_of tokens)));
    stand = pieces_stand tokens (recursion_from_All (λ t. HasSpelling t.kind) tokens each);
    are = tokens_placed 0 tokens;
  },
  subst (λ n. n ≤ most_tokens) (sym (length_placed 0 tokens)) few,
)
