-- Blanks at the front of a text, and the search for the end of a comment.
use Rattle.std.proofs.Common.{arith, ◌≡◌, ◌≢◌, ℕ, ◌≤◌, List, [], ◌∷◌, ◌++◌, length, refl, inl, inr, ap, sym, ◌∙◌, append_assoc, subst, length-append, ⊎_elim}
use Rattle.std.specs.Prelude.{◌⊎◌}
use Rattle.std.proofs.str.Laws.{order}
use Rattle.std.proofs.lemmas.Bool.{cases_eq}
use Rattle.c_syntax.specs.Lexes.{HasNoCommentEnd, IsSpace, OpensComment}
use Rattle.c_syntax.proofs.Spellings.{same_length_fronts}
use Rattle.c_spellings.proofs.ListLemmas.{first_is, rest_is}
use Rattle.c_spellings.specs.Front.{HasNoBlank, IsBehindCommentEnd, IsBehindBlank}

-- each `*/` in the text stands in its rest
pub record PassesNoEnd (text rest : List ℕ) : Type 0 where
  pub passed : List ℕ
  pub cut : text ≡ passed ++ rest
  pub ends_behind : (front back : List ℕ) → text ≡ front ++ 42 ∷ 47 ∷ back → length passed ≤ length front

-- one byte more is passed where `*/` doesn't stand before it
pub passes_one : (text : List ℕ) (c : ℕ) (rest : List ℕ) → PassesNoEnd text (c ∷ rest) → ((back : List ℕ) → c ∷ rest ≢ 42 ∷ 47 ∷ back) → PassesNoEnd text rest
passes_one text c rest passes here = record {
  passed = passes.passed ++ c ∷ [];
  cut = passes.cut ∙ sym (append_assoc passes.passed (c ∷ []) rest);
  ends_behind = λ front back e.
      let low = passes.ends_behind front back e in
      ⊎_elim
      (λ below. omega (arith, below, length-append passes.passed (c ∷ [])))
      (λ above. absurd (here back (same_length_fronts passes.passed front (c ∷ rest) (42 ∷ 47 ∷ back) (omega (arith, low, above)) (sym passes.cut ∙ e)).1))
      (order (length passes.passed) (length front));
}

-- where `*/` stands behind what was passed, it is the first
pub behind_first : (text rest : List ℕ) → PassesNoEnd text (42 ∷ 47 ∷ rest) → IsBehindCommentEnd text rest
behind_first text rest passes = record {
  inside = passes.passed;
  whole = passes.cut;
  next = λ front back e.
      let sooner = passes.ends_behind front (back ++ 47 ∷ rest) (passes.cut ∙ sym (append_assoc passes.passed (42 ∷ []) (47 ∷ rest)) ∙ ap (λ t. t ++ 47 ∷ rest) e ∙ append_assoc front (42 ∷ 47 ∷ back) (47 ∷ rest)) in
      let sizes = sym (length-append passes.passed (42 ∷ [])) ∙ ap length e ∙ length-append front (42 ∷ 47 ∷ back) in
      omega (arith, sooner, sizes);
}

-- where all was passed there is none
pub passes_all : (text : List ℕ) → PassesNoEnd text [] → HasNoCommentEnd text
passes_all text passes front back e =
    let sizes = ap length e ∙ length-append front (42 ∷ 47 ∷ back) in
    let all = ap length passes.cut ∙ length-append passes.passed [] in
    omega (arith, passes.ends_behind front back e, sizes, all)

-- at first nothing was passed
pub passes_nothing : (text : List ℕ) → PassesNoEnd text text
passes_nothing text = record { passed = []; cut = refl; ends_behind = λ front back e. omega arith }

-- a text has a first `*/`, or none
pub ends_or_not : (text rest : List ℕ) → PassesNoEnd text rest → HasNoCommentEnd text ⊎ ((behind : List ℕ) × IsBehindCommentEnd text behind)
ends_or_not text [] passes = inl (passes_all text passes)
ends_or_not text (c ∷ rest) passes = ⊎_elim found (λ none. ends_or_not text rest (passes_one text c rest passes none)) (front_end c rest)
  where
    front_end : (c : ℕ) (rest : List ℕ) → ((behind : List ℕ) × (c ∷ rest ≡ 42 ∷ 47 ∷ behind)) ⊎ ((behind : List ℕ) → c ∷ rest ≢ 42 ∷ 47 ∷ behind)
    front_end c [] = inr (λ behind e. omega (arith, ap length e))
    front_end c (d ∷ rest) =
        ⊎_elim
        (λ star. ⊎_elim (λ slash. inl (rest, λ i. star i ∷ slash i ∷ rest)) (λ other. inr (λ behind e. other (first_is (rest_is e)))) (cases_eq d 47))
        (λ other. inr (λ behind e. other (first_is e)))
        (cases_eq c 42)

    found : (behind : List ℕ) × (c ∷ rest ≡ 42 ∷ 47 ∷ behind) → HasNoCommentEnd text ⊎ ((behind : List ℕ) × IsBehindCommentEnd text behind)
    found here = inr (here.0, behind_first text here.0 (subst (PassesNoEnd text) here.1 passes))

-- a space at the front
pub behind_space : (c : ℕ) (rest : List ℕ) → IsSpace c → IsBehindBlank (c ∷ rest) rest
behind_space c rest space = record { blank = c ∷ []; front = refl; is = inl (c, space, refl) }

-- a comment at the front
pub behind_comment : (text rest : List ℕ) → IsBehindCommentEnd text rest → IsBehindBlank (47 ∷ 42 ∷ text) rest
behind_comment text rest end = record {
  blank = 47 ∷ 42 ∷ end.inside ++ 42 ∷ 47 ∷ [];
  front = ap (λ t. 47 ∷ 42 ∷ t) (end.whole ∙ sym (append_assoc end.inside (42 ∷ 47 ∷ []) rest));
  is = inr (record { inside = end.inside; whole = refl; next = end.next });
}

-- a comment that is no blank has no end
pub no_blank_no_end : (text inside : List ℕ) → HasNoBlank text → text ≡ 47 ∷ 42 ∷ inside → HasNoCommentEnd inside
no_blank_no_end text inside no_blank e =
    ⊎_elim
    (λ none. none)
    (λ end. let blank = behind_comment inside end.0 end.1 in absurd (no_blank blank.blank end.0 (e ∙ blank.front) blank.is))
    (ends_or_not inside inside (passes_nothing inside))

-- a comment that isn't closed
pub open_is_no_blank : (text : List ℕ) → HasNoCommentEnd text → HasNoBlank (47 ∷ 42 ∷ text)
open_is_no_blank text no_end blank rest cut (inl space) = grind arith
open_is_no_blank text no_end blank rest cut (inr comment) =
    no_end comment.inside rest (rest_is (rest_is (cut ∙ ap (λ t. t ++ rest) comment.whole)) ∙ append_assoc comment.inside (42 ∷ 47 ∷ []) rest)

-- no space and no `/*` at the front
pub other_is_no_blank : (text : List ℕ) → ((c : ℕ) (rest : List ℕ) → text ≡ c ∷ rest → IsSpace c → ⊥) → (OpensComment text → ⊥) → HasNoBlank text
other_is_no_blank text no_space no_comment blank rest cut (inl space) = no_space space.0 rest (cut ∙ ap (λ t. t ++ rest) space.2) space.1
other_is_no_blank text no_space no_comment blank rest cut (inr comment) = no_comment ((comment.inside ++ 42 ∷ 47 ∷ []) ++ rest, cut ∙ ap (λ t. t ++ rest) comment.whole)
