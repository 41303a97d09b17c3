-- Blanks in front of a text, and how far its first line goes.
use Rattle.std.proofs.Common.{arith, ◌≡◌, ◌≢◌, ℕ, suc, ◌+◌, ◌≤◌, ◌==◌, ◌&&◌, Bool, true, false, if◌then◌else◌, List, [], ◌∷◌, ◌++◌, length, Some, None, refl, sym, ap, ◌∙◌, ne_eqb, append_assoc, append-nil, length-append, get_or, ⊎_elim}
use Rattle.std.specs.List.{concat, AllByRecursion}
use Rattle.std.proofs.lemmas.List.Folds.{concat-append}
use Rattle.std.proofs.lemmas.Bool.{cases_eq}
use Rattle.c_syntax.specs.Lexes.{IsBlank, HasNoCommentEnd}
use Rattle.c_spellings.specs.Front.{HasNoBlank, IsBehindBlank, IsBehindCommentEnd}
use Rattle.c_spellings.proofs.ListLemmas.{first_is, rest_is}
use Rattle.c_macro.specs.Lines.{longer, closed_line, line_within, first_line, IsAfterBlanks}
use Rattle.c_macro.specs.Views.{IsAfterPart}

-- ---- blanks

-- a text is blanks and a rest
pub record PassesBlanks (text rest : List ℕ) : Type 0 where
  pub blanks : List (List ℕ)
  pub cut : text ≡ concat blanks ++ rest
  pub are : AllByRecursion IsBlank blanks

all_with : (blanks : List (List ℕ)) (blank : List ℕ) → AllByRecursion IsBlank blanks → IsBlank blank → AllByRecursion IsBlank (blanks ++ blank ∷ [])
all_with [] blank are is = (is, tt {0})
all_with (b ∷ blanks) blank are is = (are.0, all_with blanks blank are.1 is)

pub passes_none : (text : List ℕ) → PassesBlanks text text
passes_none text = record { blanks = []; cut = refl; are = tt {0} }

pub passes_blank : (text rest after : List ℕ) → PassesBlanks text rest → IsBehindBlank rest after → PassesBlanks text after
passes_blank text rest after p b = record {
  blanks = p.blanks ++ b.blank ∷ [];
  cut = p.cut ∙ ap (λ t. concat p.blanks ++ t) b.front ∙ sym (append_assoc (concat p.blanks) b.blank after)
      ∙ ap (λ t. t ++ after) (ap (λ t. concat p.blanks ++ t) (sym (append-nil b.blank)) ∙ sym (concat-append p.blanks (b.blank ∷ [])));
  are = all_with p.blanks b.blank p.are b.is;
}

pub passes_all : (text rest : List ℕ) → PassesBlanks text rest → HasNoBlank rest → IsAfterBlanks text rest
passes_all text rest p none = record { blanks = p.blanks; cut = p.cut; are = p.are; all = none }

pub blanks_shorter : (text rest : List ℕ) → IsAfterBlanks text rest → length rest ≤ length text
blanks_shorter text rest b = omega (arith, ap length b.cut, length-append (concat b.blanks) rest)

-- ---- the parts of a line

-- a byte within a comment
in_comment : (read c : ℕ) (text : List ℕ) → text ≢ [] → ((back : List ℕ) → c ∷ text ≢ 42 ∷ 47 ∷ back) → line_within (Some read) (c ∷ text) ≡ line_within (Some (suc read)) text
in_comment read c [] some none = absurd (some refl)
in_comment read c (d ∷ rest) some none = ap (λ b. if b then longer (suc (suc read)) (line_within None rest) else line_within (Some (suc read)) (d ∷ rest)) no_end
  where
    slash : c ≡ 42 → ((c == 42) && (d == 47)) ≡ false
    slash star = ⊎_elim (λ e. absurd (none rest (λ i. star i ∷ e i ∷ rest))) (λ n. grind (arith, ne_eqb d 47 n)) (cases_eq d 47)

    no_end : ((c == 42) && (d == 47)) ≡ false
    no_end = ⊎_elim slash (λ n. ap (λ b. b && (d == 47)) (ne_eqb c 42 n)) (cases_eq c 42)

no_end_in : (c : ℕ) (inside rest : List ℕ) → HasNoCommentEnd ((c ∷ inside) ++ 42 ∷ []) → (back : List ℕ) → c ∷ (inside ++ 42 ∷ 47 ∷ rest) ≢ 42 ∷ 47 ∷ back
no_end_in c [] rest none back e = let k : c ∷ 42 ∷ 47 ∷ rest ≡ 42 ∷ 47 ∷ back = e in grind arith
no_end_in c (d ∷ inside) rest none back e = let k : c ∷ d ∷ (inside ++ 42 ∷ 47 ∷ rest) ≡ 42 ∷ 47 ∷ back = e in none [] (inside ++ 42 ∷ []) (both (first_is k) (first_is (rest_is k)))
  where
    both : c ≡ 42 → d ≡ 47 → c ∷ d ∷ (inside ++ 42 ∷ []) ≡ 42 ∷ 47 ∷ (inside ++ 42 ∷ [])
    both a b i = a i ∷ b i ∷ (inside ++ 42 ∷ [])

fewer : (c : ℕ) (inside : List ℕ) → HasNoCommentEnd ((c ∷ inside) ++ 42 ∷ []) → HasNoCommentEnd (inside ++ 42 ∷ [])
fewer c inside none front back e = none (c ∷ front) back (ap (λ t. c ∷ t) e)

some_left : (inside rest : List ℕ) → inside ++ 42 ∷ 47 ∷ rest ≢ []
some_left [] rest e = grind arith
some_left (c ∷ inside) rest e = grind arith

-- a comment to its end
comment_within : (read : ℕ) (inside rest : List ℕ) → HasNoCommentEnd (inside ++ 42 ∷ []) → line_within (Some read) (inside ++ 42 ∷ 47 ∷ rest) ≡ longer (read + (length inside + 2)) (line_within None rest)
comment_within read [] rest none = ap (λ n. longer n (line_within None rest)) (omega arith)
comment_within read (c ∷ inside) rest none =
    in_comment read c (inside ++ 42 ∷ 47 ∷ rest) (some_left inside rest) (no_end_in c inside rest none)
    ∙ comment_within (suc read) inside rest (fewer c inside none)
    ∙ ap (λ n. longer n (line_within None rest)) (omega arith)

-- a comment that has none
open_within : (read : ℕ) (text : List ℕ) → HasNoCommentEnd text → line_within (Some read) text ≡ record { bytes = 0; is_open = true }
open_within read [] none = refl
open_within read (c ∷ []) none = refl
open_within read (c ∷ d ∷ rest) none =
    in_comment read c (d ∷ rest) (λ e. grind arith) (λ back e. none [] back e)
    ∙ open_within (suc read) (d ∷ rest) (λ front back e. none (c ∷ front) back (ap (λ t. c ∷ t) e))

pub open_part : (text inside : List ℕ) → text ≡ 47 ∷ 42 ∷ inside → HasNoCommentEnd inside → first_line text ≡ record { bytes = 0; is_open = true }
open_part text inside e none = ap first_line e ∙ open_within 2 inside none

pub comment_part : (text inside rest : List ℕ) → text ≡ 47 ∷ 42 ∷ inside → IsBehindCommentEnd inside rest → IsAfterPart text rest
comment_part text inside rest e end = record {
  part = 47 ∷ 42 ∷ end.inside ++ 42 ∷ 47 ∷ [];
  whole = e ∙ ap (λ t. 47 ∷ 42 ∷ t) (end.whole ∙ sym (append_assoc end.inside (42 ∷ 47 ∷ []) rest));
  some = omega arith;
  line = line;
}
  where
    size : 2 + (length end.inside + 2) ≡ length (47 ∷ 42 ∷ end.inside ++ 42 ∷ 47 ∷ [])
    size = omega (arith, length-append end.inside (42 ∷ 47 ∷ []))

    here : first_line text ≡ longer (length (47 ∷ 42 ∷ end.inside ++ 42 ∷ 47 ∷ [])) (first_line rest)
    here = ap first_line (e ∙ ap (λ t. 47 ∷ 42 ∷ t) end.whole) ∙ comment_within 2 end.inside rest end.next ∙ ap (λ n. longer n (first_line rest)) size

    line : first_line text ≡ (if get_or text 0 0 == 10 then closed_line (length (47 ∷ 42 ∷ end.inside ++ 42 ∷ 47 ∷ [])) else longer (length (47 ∷ 42 ∷ end.inside ++ 42 ∷ 47 ∷ [])) (first_line rest))
    line = here ∙ sym (ap (λ t. if get_or t 0 0 == 10 then closed_line (length (47 ∷ 42 ∷ end.inside ++ 42 ∷ 47 ∷ [])) else longer (length (47 ∷ 42 ∷ end.inside ++ 42 ∷ 47 ∷ [])) (first_line rest)) e)

byte_line : (c : ℕ) (rest : List ℕ) → ((inside : List ℕ) → c ∷ rest ≢ 47 ∷ 42 ∷ inside) → first_line (c ∷ rest) ≡ (if c == 10 then closed_line 1 else longer 1 (first_line rest))
byte_line c [] none = by (c == 10)
  where
    by : (b : Bool) → closed_line 1 ≡ (if b then closed_line 1 else longer 1 (first_line []))
    by true = refl
    by false = refl
byte_line c (d ∷ rest) none = ap (λ b. if c == 10 then closed_line 1 else (if b then line_within (Some 2) rest else longer 1 (line_within None (d ∷ rest)))) no_comment
  where
    star : c ≡ 47 → ((c == 47) && (d == 42)) ≡ false
    star slash = ⊎_elim (λ e. absurd (none rest (λ i. slash i ∷ e i ∷ rest))) (λ n. grind (arith, ne_eqb d 42 n)) (cases_eq d 42)

    no_comment : ((c == 47) && (d == 42)) ≡ false
    no_comment = ⊎_elim star (λ n. ap (λ b. b && (d == 42)) (ne_eqb c 47 n)) (cases_eq c 47)

pub byte_part : (c : ℕ) (rest : List ℕ) → ((inside : List ℕ) → c ∷ rest ≢ 47 ∷ 42 ∷ inside) → IsAfterPart (c ∷ rest) rest
byte_part c rest none = record { part = c ∷ []; whole = refl; some = omega arith; line = byte_line c rest none }
