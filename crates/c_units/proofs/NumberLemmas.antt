-- Names that end in `__` and a number.
use Rattle.std.proofs.Common.{arith, ◌≡◌, ◌≢◌, ℕ, ◌+◌, ◌%◌, ◌≤◌, ◌<◌, ◌^◌, Bool, true, false, List, [], ◌∷◌, ◌++◌, length, refl, sym, ap, ◌∙◌, subst, inl, inr, append_assoc, length-append}
use Rattle.std.specs.Prelude.{reverse, codes, decimal, ◌&&◌, if◌then◌else◌, slice_index}
use Rattle.std.specs.List.{AllByRecursion}
use Rattle.std.proofs.lemmas.Bool.Decides.{nat_tests}
use Rattle.std.proofs.lemmas.Fmt.{decimal_by_steps, decimal_injective, decimal_nonempty, length-decimal-le}
use Rattle.std.proofs.lemmas.List.{reverse-append, reverse-reverse, length-reverse}
use Rattle.std.proofs.lemmas.List.Elements.{All-append, All-from_recursion}
use Rattle.word_base.specs.Name.{IsNameStart, IsNamePart, IsName}
use Rattle.c_tree.specs.c_syntax.declared.token.Keyword.{Keyword}
use Rattle.c_tree.specs.c_syntax.declared.token.Keyword.TheVariants as keyword
use Rattle.c_tree.specs.c_syntax.FixedTexts.{keyword_text}
use Rattle.c_units.specs.Statics.{is_digit, ends_in_underscores, marked_before_digits, ends_in_number, static_name}

-- a text that is read from its end
abbrev pub from_end : List ℕ → Bool
from_end [] = false
from_end (code ∷ front) = is_digit code && marked_before_digits front

ends_from : (name : List ℕ) → ends_in_number name ≡ from_end (reverse name)
ends_from name = refl

-- ---- digits

abbrev pub IsDigitCode : ℕ → Type 0
IsDigitCode c = (48 ≤ c) × (c ≤ 57)

abbrev pub AreDigitCodes : List ℕ → Type 0
AreDigitCodes text = AllByRecursion IsDigitCode text

digit_true : (c : ℕ) → IsDigitCode c → is_digit c ≡ true
digit_true c d = grind (arith, nat_tests, d)

pub digits_push : (text : List ℕ) (c : ℕ) → AreDigitCodes text → IsDigitCode c → AreDigitCodes (text ++ c ∷ [])
digits_push [] c h d = (d, tt {0})
digits_push (x ∷ text) c h d = (h.0, digits_push text c h.1 d)

decimal_digits : (n : ℕ) → n < 2 ^ 64 → AreDigitCodes (decimal n)
decimal_digits =
    decimal_by_steps (λ m text. AreDigitCodes text) (λ m low. ((omega arith, omega arith), tt {0}))
    (λ m text ten before. digits_push text (48 + m % 10) before (omega arith, omega arith))

digits_reversed : (n : ℕ) → n < 2 ^ 64 → AreDigitCodes (reverse (decimal n))
digits_reversed =
    decimal_by_steps (λ m text. AreDigitCodes (reverse text)) (λ m low. ((omega arith, omega arith), tt {0}))
    (λ m text ten before. subst AreDigitCodes (sym (reverse-append text ((48 + m % 10) ∷ []))) ((omega arith, omega arith), before))

-- what is in front of digits says whether a text ends in a number
marked_digits : (digits rest : List ℕ) → AreDigitCodes digits → marked_before_digits rest ≡ true → marked_before_digits (digits ++ rest) ≡ true
marked_digits [] rest are marked = marked
marked_digits (c ∷ digits) rest are marked =
    ap (λ b. if b then marked_before_digits (digits ++ rest) else ends_in_underscores (c ∷ digits ++ rest)) (digit_true c are.0) ∙ marked_digits digits rest are.1 marked

pub from_digits : (digits rest : List ℕ) → 0 < length digits → AreDigitCodes digits → marked_before_digits rest ≡ true → from_end (digits ++ rest) ≡ true
from_digits [] rest some are marked = absurd (omega arith)
from_digits (c ∷ digits) rest some are marked = ap (λ b. b && marked_before_digits (digits ++ rest)) (digit_true c are.0) ∙ marked_digits digits rest are.1 marked

-- a static's new name, from its end
from_its_end : (n : ℕ) (name : List ℕ) → reverse (static_name n name) ≡ reverse (decimal n) ++ 95 ∷ 95 ∷ reverse name
from_its_end n name =
    reverse-append name (codes "__" ++ decimal n)
    ∙ ap (λ l. l ++ reverse name) (reverse-append (codes "__") (decimal n))
    ∙ append_assoc (reverse (decimal n)) (reverse (codes "__")) (reverse name)

pub static_ends : (n : ℕ) (name : List ℕ) → n < 2 ^ 64 → ends_in_number (static_name n name) ≡ true
static_ends n name few =
    ap from_end (from_its_end n name)
    ∙ from_digits (reverse (decimal n)) (95 ∷ 95 ∷ reverse name) (omega (arith, length-reverse (decimal n), decimal_nonempty n few)) (digits_reversed n few) refl

-- it is no name that doesn't end in one
pub never_static : (n : ℕ) (name other : List ℕ) → n < 2 ^ 64 → ends_in_number other ≡ false → static_name n name ≢ other
never_static n name other few none same = let both : true ≡ false = sym (static_ends n name few) ∙ ap ends_in_number same ∙ none in cc

pub keyword_ends : (k : Keyword) → ends_in_number (keyword_text k) ≡ false
keyword_ends keyword.Auto = refl
keyword_ends k = refl

-- ---- no two statics get one name

digits_split : (xs ys rest more : List ℕ) → AreDigitCodes xs → AreDigitCodes ys → xs ++ 95 ∷ rest ≡ ys ++ 95 ∷ more → (xs ≡ ys) × (rest ≡ more)
digits_split [] [] rest more h k e = (refl, cc)
digits_split [] (y ∷ ys) rest more h k e = absurd (let same : 95 ≡ y = cc in omega (arith, same, k.0))
digits_split (x ∷ xs) [] rest more h k e = absurd (let same : x ≡ 95 = cc in omega (arith, same, h.0))
digits_split (x ∷ xs) (y ∷ ys) rest more h k e =
    let first : x ≡ y = cc in
    let next : xs ++ 95 ∷ rest ≡ ys ++ 95 ∷ more = cc in
    let both = digits_split xs ys rest more h.1 k.1 next in
    (cc, both.1)

reverse_one : (xs ys : List ℕ) → reverse xs ≡ reverse ys → xs ≡ ys
reverse_one xs ys e = sym (reverse-reverse xs) ∙ ap reverse e ∙ reverse-reverse ys

pub one_static : (m n : ℕ) (a b : List ℕ) → m < 2 ^ 64 → n < 2 ^ 64 → static_name m a ≡ static_name n b → (m ≡ n) × (a ≡ b)
one_static m n a b low high e =
    let split = digits_split (reverse (decimal m)) (reverse (decimal n)) (95 ∷ reverse a) (95 ∷ reverse b) (digits_reversed m low) (digits_reversed n high)
    (sym (from_its_end m a) ∙ ap reverse e ∙ from_its_end n b) in
    let fronts : reverse a ≡ reverse b = cc (split.1) in
    (decimal_injective m n low high (reverse_one (decimal m) (decimal n) split.0), reverse_one a b fronts)

-- ---- it is a name

digit_parts : (text : List ℕ) → AreDigitCodes text → AllByRecursion IsNamePart text
digit_parts [] are = tt {0}
digit_parts (c ∷ text) are = (inr are.0, digit_parts text are.1)

first_kept : (name rest : List ℕ) → 1 ≤ length name → slice_index (name ++ rest) 0 ≡ slice_index name 0
first_kept [] rest some = absurd (omega arith)
first_kept (c ∷ name) rest some = refl

pub static_is_name : (n : ℕ) (name : List ℕ) → n < 100000 → length name ≤ 120 → IsName name → IsName (static_name n name)
static_is_name n name few short is =
    let size = length-decimal-le 5 n (omega arith) (omega (arith, few)) (omega (arith, few)) in
    let sum : length (static_name n name) ≡ length name + length (codes "__" ++ decimal n) = length-append name (codes "__" ++ decimal n) in
    record {
      from_one = omega (arith, sum, is.from_one);
      to_127 = omega (arith, sum, size, short);
      first = subst IsNameStart (sym (first_kept name (codes "__" ++ decimal n) is.from_one)) is.first;
      each = All-append IsNamePart name (codes "__" ++ decimal n) is.each
          (All-from_recursion IsNamePart (codes "__" ++ decimal n) (inl (inr (inr refl)), (inl (inr (inr refl)), digit_parts (decimal n) (decimal_digits n (omega (arith, few))))));
    }

pub static_is_no_keyword : (n : ℕ) (name : List ℕ) → n < 100000 → (k : Keyword) → static_name n name ≢ keyword_text k
static_is_no_keyword n name few k = never_static n name (keyword_text k) (omega (arith, few)) (keyword_ends k)
