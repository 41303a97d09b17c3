-- The lines of an image's words.
use Rattle.std.proofs.Common.{◌≡◌, ℕ, suc, ◌<◌, min, List, ◌∷◌, ◌++◌, length, take, drop, sym, ap, ◌∙◌, arith, append_assoc}
use Rattle.std.proofs.lemmas.List.{take_min, drop_min, length-drop}
use Rattle.text_base.specs.Lines.{with_feed, lines_text}
use Rattle.c25_image.specs.ImageText.{word_line, word_lines, line_count}

-- the first line of some words, and those behind it
pub word_lines-step : (words line after : List ℕ) (k : ℕ) → 0 < length words → k ≡ min (length words) 8 → line ≡ take k words → after ≡ drop k words
    → word_lines (line_count (length words)) words ≡ word_line line ∷ word_lines (line_count (length after)) after
word_lines-step words line after k some k-is line-is after-is =
    let m : k ≡ min 8 (length words) = omega arith in
    let l : line ≡ take 8 words = line-is ∙ ap (λ n. take n words) m ∙ take_min 8 words in
    let a : after ≡ drop 8 words = after-is ∙ ap (λ n. drop n words) m ∙ drop_min 8 words in
    let n : line_count (length words) ≡ suc (line_count (length after)) = omega (arith, ap length a, length-drop 8 words) in
    ap (λ c. word_lines c words) n ∙ ap (λ x. word_line x ∷ word_lines (line_count (length after)) (drop 8 words)) (sym l) ∙ ap (λ x. word_line line ∷ word_lines (line_count (length after)) x) (sym a)

pub words-pushed : (words line after text more whole : List ℕ) (k : ℕ) → 0 < length words → k ≡ min (length words) 8 → line ≡ take k words → after ≡ drop k words → more ≡ text ++ with_feed (word_line line)
    → text ++ lines_text (word_lines (line_count (length words)) words) ≡ whole → more ++ lines_text (word_lines (line_count (length after)) after) ≡ whole
words-pushed words line after text more whole k some k-is line-is after-is more-is so_far =
    let e = ap (λ x. text ++ lines_text x) (word_lines-step words line after k some k-is line-is after-is) in
    ap (λ x. x ++ lines_text (word_lines (line_count (length after)) after)) more-is ∙ append_assoc text (with_feed (word_line line)) (lines_text (word_lines (line_count (length after)) after)) ∙ sym e ∙ so_far
