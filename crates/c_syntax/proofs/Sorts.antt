-- What the first code of a spelling tells: the kinds of tokens and the blanks begin with different codes.
use Rattle.std.proofs.Common.{◌≡◌, ◌≢◌, ℕ, cond, List, [], ◌∷◌, ◌++◌, get_or, refl, arith}
use Rattle.std.specs.Prelude.{nat_lt, ◌==◌}
use Rattle.std.proofs.lemmas.Bool.Decides.{nat_tests}
use Rattle.word_base.specs.Name.{IsNameStart}
use Rattle.c_syntax.specs.declared.token.Keyword.{Keyword}
use Rattle.c_syntax.specs.declared.token.Keyword.TheVariants as keyword
use Rattle.c_syntax.specs.declared.token.Punct.{Punct}
use Rattle.c_syntax.specs.declared.token.Punct.TheVariants as mark
use Rattle.c_syntax.specs.FixedTexts.{keyword_text, mark_text}
use Rattle.c_syntax.specs.Spelling.{IsDigit}
use Rattle.c_syntax.specs.Lexes.{IsSpace}

-- what a code may begin
pub data Sort : Type 0 where
  Void : Sort
  Letter : Sort
  Digit : Sort
  Quote : Sort
  Sign : Sort

abbrev pub sort_of : ℕ → Sort
sort_of c = cond (nat_lt c 33) Void (cond (c == 39) Quote (cond (nat_lt c 48) Sign (cond (nat_lt c 58) Digit (cond (nat_lt c 65) Sign (cond (nat_lt c 91) Letter (cond (c == 95) Letter (cond (nat_lt c 97) Sign (cond (nat_lt c 123) Letter Sign))))))))

-- what the first code of a text may begin, and Void where there is none
abbrev pub text_sort : List ℕ → Sort
text_sort text = sort_of (get_or text 0 0)

pub letter_sort : (c : ℕ) → IsNameStart c → sort_of c ≡ Letter
letter_sort c h = grind (arith, nat_tests)

pub digit_sort : (c : ℕ) → IsDigit c → sort_of c ≡ Digit
digit_sort c h = grind (arith, nat_tests)

pub space_sort : (c : ℕ) → IsSpace c → sort_of c ≡ Void
space_sort c h = grind (arith, nat_tests)

pub keyword_sort : (k : Keyword) → text_sort (keyword_text k) ≡ Letter
keyword_sort keyword.Auto = refl
keyword_sort k = refl

pub mark_sort : (m : Punct) → text_sort (mark_text m) ≡ Sign
mark_sort mark.OpenBracket = refl
mark_sort m = refl

-- what stands behind doesn't matter
pub front_sort : (text rest : List ℕ) → text_sort text ≢ Void → text_sort (text ++ rest) ≡ text_sort text
front_sort [] rest h = absurd (h refl)
front_sort (c ∷ text) rest h = refl
