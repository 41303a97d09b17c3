-- Lines of words, read from left to right.
use Rattle.std.proofs.Common.{◌≡◌, ◌≢◌, ℕ, ◌<◌, ◌^◌, Bool, true, false, ◌==◌, List, [], ◌∷◌, ◌++◌, length, sym, ap, ◌∙◌, inl, inr, ⊎_elim, arith, append_assoc, append-nil, length-append, eqb-true}
use Rattle.std.specs.List.{flat_map}
use Rattle.std.specs.Prelude.{◌⊎◌}
use Rattle.std.proofs.lemmas.List.Concat.{flat_map-append}
use Rattle.text_base.specs.Hex.{hex4}
use Rattle.c25_image.specs.ImageText.{word_line}
use Rattle.c25_image.specs.ImageReading.{AreWords, IsRow, ReadsRow}

abbrev spaced : List ℕ → List ℕ
spaced words = flat_map (λ v. 32 ∷ hex4 v) words

-- a line begins with a word behind one space
pub record BeginsSpaced (line : List ℕ) : Type 0 where
  pub word : ℕ
  pub fits : word < 2 ^ 16
  pub tail : List ℕ
  pub is : line ≡ 32 ∷ hex4 word ++ tail

-- what is left behind some words of a line is nothing, or another word
spaced_cut : (all front rest : List ℕ) → AreWords all → spaced all ≡ spaced front ++ rest → (rest ≡ []) ⊎ BeginsSpaced rest
spaced_cut [] [] rest fit e = inl (sym e)
spaced_cut (w ∷ ws) [] rest fit e = inr (record { word = w; fits = fit.0; tail = spaced ws; is = sym e })
spaced_cut [] (y ∷ ys) rest fit e = absurd cc
spaced_cut (w ∷ ws) (y ∷ ys) rest fit e = spaced_cut ws ys rest fit.1 cc

line_cut : (all front rest : List ℕ) → IsRow all → IsRow front → word_line all ≡ word_line front ++ rest → (rest ≡ []) ⊎ BeginsSpaced rest
line_cut [] front rest a f e = absurd (omega (arith, a.some))
line_cut (w ∷ ws) [] rest a f e = absurd (omega (arith, f.some))
line_cut (w ∷ ws) (y ∷ ys) rest a f e = spaced_cut ws ys rest a.fit.1 cc

AreWords-append : (xs ys : List ℕ) → AreWords xs → AreWords ys → AreWords (xs ++ ys)
AreWords-append [] ys a b = b
AreWords-append (x ∷ xs) ys a b = (a.0, AreWords-append xs ys a.1 b)

pub row_one : (w : ℕ) → w < 2 ^ 16 → IsRow (w ∷ [])
row_one w fits = record { some = omega arith; fit = (fits, tt {0}) }

word_line-append : (words : List ℕ) (w : ℕ) → 0 < length words → word_line (words ++ w ∷ []) ≡ word_line words ++ 32 ∷ hex4 w
word_line-append [] w some = absurd (omega arith)
word_line-append (x ∷ xs) w some =
    ap (λ t. hex4 x ++ t) (flat_map-append (λ v. 32 ∷ hex4 v) xs (w ∷ []))

-- the words read so far, and what is left of the line
pub record SoFar (line rest old new : List ℕ) : Type 0 where
  pub words : List ℕ
  pub row : IsRow words
  pub text : line ≡ word_line words ++ rest
  pub joined : new ≡ old ++ words

pub row_more : (line rest old new after next : List ℕ) (w : ℕ) → SoFar line rest old new → w < 2 ^ 16 → rest ≡ 32 ∷ hex4 w ++ after → next ≡ new ++ w ∷ [] → SoFar line after old next
row_more line rest old new after next w s fits e pushed = record {
  words = s.words ++ w ∷ [];
  row = record { some = omega (arith, s.row.some, length-append s.words (w ∷ [])); fit = AreWords-append s.words (w ∷ []) s.row.fit (fits, tt {0}) };
  text = s.text ∙ ap (λ t. word_line s.words ++ t) e ∙ sym (append_assoc (word_line s.words) (32 ∷ hex4 w) after) ∙ ap (λ t. t ++ after) (sym (word_line-append s.words w s.row.some));
  joined = pushed ∙ ap (λ t. t ++ w ∷ []) s.joined ∙ append_assoc old s.words (w ∷ []);
}

pub row_first : (line rest old new : List ℕ) (w : ℕ) → w < 2 ^ 16 → line ≡ hex4 w ++ rest → new ≡ old ++ w ∷ [] → SoFar line rest old new
row_first line rest old new w fits e pushed = record { words = w ∷ []; row = row_one w fits; text = e; joined = pushed }

pub row_end : (line rest old new : List ℕ) (b : Bool) → b ≡ (length rest == 0) → SoFar line rest old new → ((w : ℕ) → w < 2 ^ 16 → (tail : List ℕ) → rest ≢ 32 ∷ hex4 w ++ tail) → ReadsRow line old new b
row_end line [] old new true is s none = record { words = s.words; row = s.row; text = s.text ∙ append-nil (word_line s.words); joined = s.joined }
row_end line [] old new false is s none = absurd cc
row_end line (r ∷ rest) old new true is s none = absurd (omega (arith, eqb-true (length (r ∷ rest)) 0 (sym is)))
row_end line (r ∷ rest) old new false is s none = λ words row e.
    ⊎_elim (λ nil. absurd cc) (λ (h : BeginsSpaced (r ∷ rest)). none h.word h.fits h.tail h.is) (line_cut words s.words (r ∷ rest) row s.row (sym e ∙ s.text))

pub no_row : (line old new : List ℕ) → ((w : ℕ) → w < 2 ^ 16 → (tail : List ℕ) → line ≢ hex4 w ++ tail) → ReadsRow line old new false
no_row line old new none [] row e = absurd (omega (arith, row.some))
no_row line old new none (w ∷ ws) row e = none w row.fit.0 (spaced ws) e
