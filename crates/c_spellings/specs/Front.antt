-- Which blank, mark or number stands at the front of a text, and what is behind it.
use Rattle.std.specs.Prelude.{◌≡◌, ◌≢◌, ◌⊎◌, ℕ, ◌≤◌, Bool, true, List, [], ◌∷◌, ◌++◌, length}
use Rattle.c_syntax.specs.declared.token.Punct.{Punct}
use Rattle.c_syntax.specs.FixedTexts.{mark_text}
use Rattle.c_syntax.specs.Constants.{IsSuffix}
use Rattle.c_syntax.specs.Lexes.{HasNoCommentEnd, IsBlank}

-- no blank stands at the front
abbrev pub HasNoBlank : List ℕ → Type 0
HasNoBlank text = (blank rest : List ℕ) → text ≡ blank ++ rest → IsBlank blank → ⊥

-- behind the first `*/`
pub record IsBehindCommentEnd (text rest : List ℕ) : Type 0 where
  pub inside : List ℕ
  pub whole : text ≡ inside ++ 42 ∷ 47 ∷ rest
  pub next : HasNoCommentEnd (inside ++ 42 ∷ [])

-- behind a blank
pub record IsBehindBlank (text rest : List ℕ) : Type 0 where
  pub blank : List ℕ
  pub front : text ≡ blank ++ rest
  pub is : IsBlank blank

-- behind a mark, and no longer mark stands at the front
pub record IsBehindMark (text : List ℕ) (mark : Punct) (rest : List ℕ) : Type 0 where
  pub front : text ≡ mark_text mark ++ rest
  pub longest : (other : Punct) (behind : List ℕ) → text ≡ mark_text other ++ behind → length (mark_text other) ≤ length (mark_text mark)

-- a text without the u or U at its end, and whether there is one
pub record IsWithoutSuffix (text bare : List ℕ) (marked : Bool) : Type 0 where
  pub suffix : List ℕ
  pub joined : text ≡ bare ++ suffix
  pub ends : IsSuffix marked suffix
  pub all : (front last : List ℕ) → text ≡ front ++ last → IsSuffix true last → marked ≡ true

-- the digits of a text and their base, by how the text begins
pub data IsWithoutPrefix (text digits : List ℕ) (base : ℕ) : Type 0 where
  Sixteen : (x : ℕ) → text ≡ 48 ∷ x ∷ digits → (x ≡ 120) ⊎ (x ≡ 88) → base ≡ 16 → IsWithoutPrefix text digits base
  Eight : (rest : List ℕ) → text ≡ 48 ∷ rest → ((tail : List ℕ) → text ≢ 48 ∷ 120 ∷ tail) → ((tail : List ℕ) → text ≢ 48 ∷ 88 ∷ tail) → digits ≡ text → base ≡ 8 → IsWithoutPrefix text digits base
  Ten : ((rest : List ℕ) → text ≢ 48 ∷ rest) → digits ≡ text → base ≡ 10 → IsWithoutPrefix text digits base
