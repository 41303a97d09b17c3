-- The first line of some words, and those behind it.
use Rattle.std.proofs.Common.{◌≡◌, ℕ, zero, suc, ◌-◌, ◌<◌, ◌≤◌, ◌∙◌, List, [], ◌∷◌, ◌++◌, Option, Some, None, length, take, drop, refl, ap, sym, append_assoc, slice_index, arith}
use Rattle.std.specs.Prelude.{map, if◌then◌else◌}
use Rattle.std.proofs.lemmas.List.{take_all, length-drop}
use Rattle.std.proofs.lemmas.Bool.{lt-ltb, le-ltb}
use Rattle.c25_isa.specs.declared.instruction.Instr.{Instr}
use Rattle.c25_isa.specs.Table.{length_of}
use Rattle.c25_isa.specs.Decode.{Decoded, decode}
use Rattle.c25_image.specs.Lines.{with_feed, lines_text}
use Rattle.c25_dis.specs.declared.line.Line.{Line}
use Rattle.c25_dis.specs.declared.line.Line.TheVariants as line
use Rattle.c25_dis.specs.Listing.{whole, line_of, line_text, lines_from, lines_of}

lines_behind : (k : ℕ) (ws : List ℕ) → lines_from k ws ≡ lines_of (drop k ws)
lines_behind zero ws = refl
lines_behind (suc k) [] = refl
lines_behind (suc k) (w ∷ ws) = lines_behind k ws

pub length_some : (second : Option ℕ) → 0 < length_of second
length_some None = omega arith
length_some (Some word) = omega arith

to_end : (n : ℕ) (words : List ℕ) → take (length words - n) (drop n words) ≡ drop n words
to_end n words = take_all (length words - n) (drop n words) (omega (arith, length-drop n words))

from_instruction : (words : List ℕ) (i : Instr) (len : ℕ) → 0 < length words → 0 < len
    → whole (length words) (decode (slice_index words 0) (slice_index words 1)) ≡ Some (i, len)
    → lines_of words ≡ line.Instruction i ∷ lines_of (drop len words)
from_instruction [] i len some long e = absurd (omega (arith, some))
from_instruction (w ∷ ws) i zero some long e = absurd (omega (arith, long))
from_instruction (w ∷ ws) i (suc k) some long e =
    let less : suc k - 1 ≡ k = omega arith in
    ap (λ d. (line_of w d).0 ∷ lines_from ((line_of w d).1 - 1) ws) e
    ∙ (ap (λ n. line.Instruction i ∷ lines_from n ws) less
    ∙ ap (λ ls. line.Instruction i ∷ ls) (lines_behind k ws))

pub of_instruction : (words : List ℕ) (i : Instr) (len : ℕ) → 0 < length words → 0 < len
    → whole (length words) (decode (slice_index words 0) (slice_index words 1)) ≡ Some (i, len)
    → lines_of words ≡ line.Instruction i ∷ lines_of (take (length words - len) (drop len words))
of_instruction words i len some long e =
    from_instruction words i len some long e ∙ ap (λ ws. line.Instruction i ∷ lines_of ws) (sym (to_end len words))

pub of_word : (words : List ℕ) → 0 < length words
    → whole (length words) (decode (slice_index words 0) (slice_index words 1)) ≡ None
    → lines_of words ≡ line.Data (slice_index words 0) ∷ lines_of (drop 1 words)
of_word [] some e = absurd (omega (arith, some))
of_word (w ∷ ws) some e =
    let none : 1 - 1 ≡ 0 = omega arith in
    ap (λ d. (line_of w d).0 ∷ lines_from ((line_of w d).1 - 1) ws) e ∙ ap (λ n. line.Data w ∷ lines_from n ws) none

pub line_pushed : (text more whole : List ℕ) (first : Line) (before behind : List Line) → before ≡ first ∷ behind → more ≡ text ++ with_feed (line_text first)
    → text ++ lines_text (map line_text before) ≡ whole → more ++ lines_text (map line_text behind) ≡ whole
line_pushed text more whole first before behind cut is so_far =
    ap (λ t. t ++ lines_text (map line_text behind)) is
    ∙ (append_assoc text (with_feed (line_text first)) (lines_text (map line_text behind))
    ∙ (ap (λ ls. text ++ lines_text (map line_text ls)) (sym cut) ∙ so_far))

pub is_whole : (left : ℕ) (d : Decoded) (i : Instr) (len : ℕ) → d ≡ Some (i, len) → len ≤ left → Some (i, len) ≡ whole left d
is_whole left d i len e fits =
    sym (ap (whole left) e ∙ ap (λ short. if short then None else Some (i, len)) (le-ltb left len fits))

pub is_cut_off : (left : ℕ) (d : Decoded) (i : Instr) (len : ℕ) → d ≡ Some (i, len) → left < len → None ≡ whole left d
is_cut_off left d i len e short =
    sym (ap (whole left) e ∙ ap (λ short. if short then None else Some (i, len)) (lt-ltb left len short))
