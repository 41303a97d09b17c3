-- A spelling means one thing, and one longest spelling stands at the front of a text.
use Rattle.std.proofs.Common.{◌≡◌, Bool, ◌≢◌, ℕ, List, [], ◌∷◌, ◌++◌, length, get_or, refl, sym, ap, ◌∙◌, arith}
use Rattle.c_syntax.specs.declared.token.TokenKind.{TokenKind}
use Rattle.c_syntax.specs.declared.token.TokenKind.TheVariants.{Word, Name, Number, Char, Mark}
use Rattle.c_syntax.specs.Constants.{Radix, Decimal, Octal, Hexadecimal, IsBare, IsNumber, IsCharacter}
use Rattle.c_syntax.specs.Spelling.{IsNameRun, IsNumberRun, IsSpelling, OfWord, OfNumber, OfCharacter, OfMark, Means}
use Rattle.c_syntax.specs.Lexes.{IsLongest}
use Rattle.c_syntax.proofs.Digits.{digit_range, first_digit}
use Rattle.c_syntax.proofs.Characters.{character_one}
use Rattle.c_syntax.proofs.Sorts.{Sort, Void, Letter, Digit, Quote, Sign, text_sort, letter_sort, digit_sort, keyword_sort, mark_sort, front_sort}
use Rattle.c_syntax.proofs.FixedLemmas.{keyword_one, mark_one}
use Rattle.c_syntax.proofs.Numbers.{number_one}

-- what begins a token of a kind
abbrev pub kind_sort : TokenKind → Sort
kind_sort (Word keyword) = Letter
kind_sort (Name name) = Letter
kind_sort (Number value marked decimal) = Digit
kind_sort (Char value) = Quote
kind_sort (Mark mark) = Sign

bare_sort : (radix : Radix) (text suffix : List ℕ) (n : ℕ) → IsBare radix text n → text_sort (text ++ suffix) ≡ Digit
bare_sort Decimal text suffix n h =
    let first = first_digit 10 text h.1 in
    ap (λ t. text_sort (t ++ suffix)) first.2 ∙ digit_sort first.0 (digit_range first.0 first.3)
bare_sort Octal text suffix n h = ap (λ t. text_sort (t ++ suffix)) h.0.1
bare_sort Hexadecimal text suffix n h = ap (λ t. text_sort (t ++ suffix)) h.2

pub number_sort : (text : List ℕ) (value : ℕ) (marked decimal : Bool) → IsNumber text value marked decimal → text_sort text ≡ Digit
number_sort text value marked decimal h = ap text_sort h.joined ∙ bare_sort h.radix h.bare h.suffix h.number h.reads

pub character_sort : (text : List ℕ) (value : ℕ) → IsCharacter text value → text_sort text ≡ Quote
character_sort text value h = ap text_sort h.quoted

-- the first code tells the kind
pub means_sort : (text : List ℕ) (kind : TokenKind) → Means text kind → text_sort text ≡ kind_sort kind
means_sort text (Word keyword) h = ap text_sort h ∙ keyword_sort keyword
means_sort text (Name name) h = letter_sort (get_or text 0 0) h.1.first
means_sort text (Number value marked decimal) h = number_sort text value marked decimal h
means_sort text (Char value) h = character_sort text value h
means_sort text (Mark mark) h = ap text_sort h ∙ mark_sort mark

pub means_one : (text : List ℕ) (a b : TokenKind) → Means text a → Means text b → a ≡ b
means_one text (Word j) (Word k) g h = ap Word (keyword_one j k (sym g ∙ h))
means_one text (Word j) (Name b) g h = absurd (h.2 j g)
means_one text (Name a) (Word k) g h = absurd (g.2 k h)
means_one text (Name a) (Name b) g h = ap Name (g.0 ∙ sym h.0)
means_one text (Number v a d) (Number w b e) g h =
    let f = number_one text v w a b d e g h in
    cc (f.0, f.1, f.2)
means_one text (Char v) (Char w) g h = ap Char (character_one text [] text [] v w g h refl).1
means_one text (Mark m) (Mark n) g h = ap Mark (mark_one m n (sym g ∙ h))
means_one text a b g h = let e : kind_sort a ≡ kind_sort b = sym (means_sort text a g) ∙ means_sort text b h in absurd cc

pub same_length_fronts : (xs ys r s : List ℕ) → length xs ≡ length ys → xs ++ r ≡ ys ++ s → (xs ≡ ys) × (r ≡ s)
same_length_fronts [] [] r s l e = (refl, e)
same_length_fronts [] (y ∷ ys) r s l e = absurd (omega arith)
same_length_fronts (x ∷ xs) [] r s l e = absurd (omega arith)
same_length_fronts (x ∷ xs) (y ∷ ys) r s l e =
    let f = same_length_fronts xs ys r s (omega arith) cc in
    let same : x ≡ y = cc in
    (cc (f.0, same), f.1)

pub longest_one : (s r s' r' : List ℕ) → IsLongest s r → IsLongest s' r' → s ++ r ≡ s' ++ r' → (s ≡ s') × (r ≡ r')
longest_one s r s' r' g h e =
    let a = g.longest s' r' e h.spelled in
    let b = h.longest s r (sym e) g.spelled in
    same_length_fronts s s' r r' (omega arith) e

pub word_text_sort : (text : List ℕ) → IsNameRun text → text_sort text ≡ Letter
word_text_sort text h = ap text_sort h.whole ∙ letter_sort h.first h.starts

pub number_text_sort : (text : List ℕ) → IsNumberRun text → text_sort text ≡ Digit
number_text_sort text h = ap text_sort h.whole ∙ digit_sort h.first h.starts

-- each spelling has a first code, and it is no space
pub spelling_begins : (text : List ℕ) → IsSpelling text → text_sort text ≢ Void
spelling_begins text (OfWord h) e = let k = sym (word_text_sort text h) ∙ e in absurd cc
spelling_begins text (OfNumber h) e = let k = sym (number_text_sort text h) ∙ e in absurd cc
spelling_begins text (OfCharacter value h) e = let k = sym (character_sort text value h) ∙ e in absurd cc
spelling_begins text (OfMark mark h) e = let k = sym (ap text_sort h ∙ mark_sort mark) ∙ e in absurd cc

pub spelling_front : (text rest : List ℕ) → IsSpelling text → text_sort (text ++ rest) ≡ text_sort text
spelling_front text rest h = front_sort text rest (spelling_begins text h)

-- with a quote only character constants begin
pub quote_spelling : (text : List ℕ) → IsSpelling text → text_sort text ≡ Quote → (value : ℕ) × IsCharacter text value
quote_spelling text (OfWord h) e = let k = sym (word_text_sort text h) ∙ e in absurd cc
quote_spelling text (OfNumber h) e = let k = sym (number_text_sort text h) ∙ e in absurd cc
quote_spelling text (OfCharacter value h) e = (value, h)
quote_spelling text (OfMark mark h) e = let k = sym (ap text_sort h ∙ mark_sort mark) ∙ e in absurd cc
