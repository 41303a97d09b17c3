-- The lines of marks.
use Rattle.std.proofs.Common.{◌≡◌, ◌≢◌, ℕ, zero, suc, ◌<◌, min, List, [], ◌∷◌, ◌++◌, length, get_or, take, drop, refl, sym, ap, subst, ◌∙◌, arith, append_assoc}
use Rattle.std.proofs.lemmas.List.{take_min, drop_min, length-drop}
use Rattle.text_base.specs.Lines.{with_feed, lines_text}
use Rattle.lay_tree.specs.declared.answer.Mark.{Mark}
use Rattle.lay_lines.specs.MarkText.{mark_byte, mark_bytes, mark_lines, line_count}

-- the first line of some marks, and those behind it
mark_lines-step : (marks line after : List Mark) (k : ℕ) → 0 < length marks → k ≡ min (length marks) 64 → line ≡ take k marks → after ≡ drop k marks
    → mark_lines (line_count (length marks)) marks ≡ mark_bytes line ∷ mark_lines (line_count (length after)) after
mark_lines-step marks line after k some k-is line-is after-is =
    let m : k ≡ min 64 (length marks) = omega arith in
    let l : line ≡ take 64 marks = line-is ∙ ap (λ n. take n marks) m ∙ take_min 64 marks in
    let a : after ≡ drop 64 marks = after-is ∙ ap (λ n. drop n marks) m ∙ drop_min 64 marks in
    let n : line_count (length marks) ≡ suc (line_count (length after)) = omega (arith, ap length a, length-drop 64 marks) in
    ap (λ c. mark_lines c marks) n ∙ ap (λ x. mark_bytes x ∷ mark_lines (line_count (length after)) (drop 64 marks)) (sym l) ∙ ap (λ x. mark_bytes line ∷ mark_lines (line_count (length after)) x) (sym a)

pub marks_pushed : (marks line after : List Mark) (text more whole : List ℕ) (k : ℕ) → 0 < length marks → k ≡ min (length marks) 64 → line ≡ take k marks → after ≡ drop k marks → more ≡ text ++ with_feed (mark_bytes line)
    → text ++ lines_text (mark_lines (line_count (length marks)) marks) ≡ whole → more ++ lines_text (mark_lines (line_count (length after)) after) ≡ whole
marks_pushed marks line after text more whole k some k-is line-is after-is more-is so_far =
    let e = ap (λ x. text ++ lines_text x) (mark_lines-step marks line after k some k-is line-is after-is) in
    ap (λ x. x ++ lines_text (mark_lines (line_count (length after)) after)) more-is ∙ append_assoc text (with_feed (mark_bytes line)) (lines_text (mark_lines (line_count (length after)) after)) ∙ sym e ∙ so_far

-- ---- reading a line

some_mark : (marks : List Mark) (i : ℕ) → i < length (mark_bytes marks) → (m : Mark) × (get_or (mark_bytes marks) i 0 ≡ mark_byte m)
some_mark [] i lt = absurd (omega arith)
some_mark (x ∷ xs) zero lt = (x, refl)
some_mark (x ∷ xs) (suc i) lt = some_mark xs i (omega arith)

-- a byte that is no mark
pub no_marks : (line : List ℕ) (i byte : ℕ) → i < length line → byte ≡ get_or line i 0 → ((m : Mark) → byte ≢ mark_byte m) → (marks : List Mark) → line ≢ mark_bytes marks
no_marks line i byte lt is none marks e =
    let found = some_mark marks i (subst (λ l. i < length l) e lt) in
    none found.0 (is ∙ ap (λ l. get_or l i 0) e ∙ found.1)
