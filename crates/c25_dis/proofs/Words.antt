-- The lines of a listing stand for its words.
use Rattle.std.proofs.Common.{◌≡◌, ◌⊎◌, inl, inr, ℕ, zero, suc, ◌-◌, ◌<◌, ◌≤◌, ◌∙◌, Bool, true, false, List, [], ◌∷◌, ◌++◌, Option, Some, None, length, drop, refl, ap, slice_index, arith}
use Rattle.std.specs.Prelude.{nat_lt, if◌then◌else◌, IfSome}
use Rattle.std.specs.List.{flat_map, AllByRecursion}
use Rattle.std.proofs.lemmas.Bool.{ltb-false}
use Rattle.c25_isa.specs.declared.instruction.Instr.{Instr}
use Rattle.c25_isa.specs.Table.{StandsFor, first_word, second_word, with_second, length_of}
use Rattle.c25_isa.specs.Decode.{Decoded, decode}
use Rattle.c25_isa.proofs.Rows.{decode-stands}
use Rattle.c25_image.specs.ImageReading.{AreWords}
use Rattle.c25_dis.specs.Listing.{LineFits, whole, line_of, first_line, line_words, lines_from, lines_of}

-- what was decoded stands at a word and the one behind it
abbrev Stands : ℕ → List ℕ → Decoded → Type 0
Stands w ws d = IfSome d (λ r. StandsFor r.0 r.1 w (slice_index ws 0))

one_or_two : (first len w : ℕ) (second : Option ℕ) (ws : List ℕ) → first ≡ w
    → (second ≡ None) ⊎ (second ≡ Some (slice_index ws 0)) → len ≡ length_of second → len ≤ length (w ∷ ws)
    → with_second first second ++ drop (len - 1) ws ≡ w ∷ ws
one_or_two first len w second ws same (inl none) e fits =
    let long : len ≡ 1 = e ∙ ap length_of none in
    let less : len - 1 ≡ 0 = omega (arith, long) in
    ap (λ s. with_second first s ++ drop (len - 1) ws) none
    ∙ (ap (λ n. first ∷ drop n ws) less ∙ ap (λ f. f ∷ ws) same)
one_or_two first len w second [] same (inr some) e fits =
    let long : len ≡ 2 = e ∙ ap length_of some in
    absurd (omega (arith, long, fits))
one_or_two first len w second (v ∷ vs) same (inr some) e fits =
    let long : len ≡ 2 = e ∙ ap length_of some in
    let less : len - 1 ≡ 1 = omega (arith, long) in
    ap (λ s. with_second first s ++ drop (len - 1) (v ∷ vs)) some
    ∙ (ap (λ n. first ∷ v ∷ drop n (v ∷ vs)) less ∙ ap (λ f. f ∷ v ∷ vs) same)

-- by whether the instruction's words are all there
words_by : (w len : ℕ) (ws : List ℕ) (i : Instr) (short : Bool) → StandsFor i len w (slice_index ws 0) → nat_lt (length (w ∷ ws)) len ≡ short
    → line_words (line_of w (if short then None else Some (i, len))).0 ++ drop ((line_of w (if short then None else Some (i, len))).1 - 1) ws ≡ w ∷ ws
words_by w len ws i true stands e = refl
words_by w len ws i false stands e =
    one_or_two (first_word i) len w (second_word i) ws stands.first_is stands.second_is stands.length_is (ltb-false (length (w ∷ ws)) len e)

first_words : (w : ℕ) (ws : List ℕ) (d : Decoded) → Stands w ws d
    → line_words (line_of w (whole (length (w ∷ ws)) d)).0 ++ drop ((line_of w (whole (length (w ∷ ws)) d)).1 - 1) ws ≡ w ∷ ws
first_words w ws None stands = refl
first_words w ws (Some (i, len)) stands = words_by w len ws i (nat_lt (length (w ∷ ws)) len) stands refl

second_fits : (ws : List ℕ) → AreWords ws → slice_index ws 0 < 65536
second_fits [] all = omega arith
second_fits (w ∷ ws) all = all.0

stands_at : (w : ℕ) (ws : List ℕ) → AreWords (w ∷ ws) → Stands w ws (decode w (slice_index ws 0))
stands_at w ws all = decode-stands w (slice_index ws 0) all.0 (second_fits ws all.1)

words_from : (within : ℕ) (ws : List ℕ) → AreWords ws → flat_map line_words (lines_from within ws) ≡ drop within ws
words_from zero [] all = refl
words_from (suc within) [] all = refl
words_from (suc within) (w ∷ ws) all = words_from within ws all.1
words_from zero (w ∷ ws) all =
    ap (λ t. line_words (first_line w ws).0 ++ t) (words_from ((first_line w ws).1 - 1) ws all.1)
    ∙ first_words w ws (decode w (slice_index ws 0)) (stands_at w ws all)

pub words_of_lines : (words : List ℕ) → AreWords words → flat_map line_words (lines_of words) ≡ words
words_of_lines words all = words_from 0 words all

fits_by : (w len second : ℕ) (i : Instr) (short : Bool) → StandsFor i len w second → LineFits (line_of w (if short then None else Some (i, len))).0
fits_by w len second i true stands = tt {0}
fits_by w len second i false stands = stands.fits

first_fits : (w : ℕ) (ws : List ℕ) (d : Decoded) → Stands w ws d → LineFits (line_of w (whole (length (w ∷ ws)) d)).0
first_fits w ws None stands = tt {0}
first_fits w ws (Some (i, len)) stands = fits_by w len (slice_index ws 0) i (nat_lt (length (w ∷ ws)) len) stands

fit_from : (within : ℕ) (ws : List ℕ) → AreWords ws → AllByRecursion LineFits (lines_from within ws)
fit_from zero [] all = tt {0}
fit_from (suc within) [] all = tt {0}
fit_from (suc within) (w ∷ ws) all = fit_from within ws all.1
fit_from zero (w ∷ ws) all =
    (first_fits w ws (decode w (slice_index ws 0)) (stands_at w ws all), fit_from ((first_line w ws).1 - 1) ws all.1)

pub lines_fit : (words : List ℕ) → AreWords words → AllByRecursion LineFits (lines_of words)
lines_fit words all = fit_from 0 words all
