-- The text of outputs is that of a port file that gives them.
use Rattle.std.proofs.Common.{◌≡◌, ◌≢◌, ℕ, ◌-◌, ◌/◌, ◌%◌, ◌<◌, ◌≤◌, ◌^◌, false, cond, List, [], ◌∷◌, ◌++◌, length, get_or, take, drop, suc, append-nil, refl, sym, ap, subst, ◌∙◌, inl, inr, arith, append_assoc, length-append}
use Rattle.std.specs.Prelude.{◌==◌, decimal}
use Rattle.std.specs.List.{AllByRecursion}
use Rattle.std.specs.Str.Lines.{lines, strip_carriage_return}
use Rattle.std.proofs.lemmas.List.{get_or_at, drop_all}
use Rattle.std.proofs.lemmas.Bool.Decides.{nat_tests}
use Rattle.text_base.specs.Hex.{hex_digit, hex4}
use Rattle.text_base.specs.Lines.{HasNoFeed}
use Rattle.c25_image.specs.OutsText.{IsOut, out_line, outs_text}
use Rattle.c25_image.specs.PortText.{IsHexDigit, Spells, IsPortLine, AllGive, PortText}
use Rattle.c25_image.proofs.ImageLines.{HasNoFeed-append, hex4_no_feed, decimal_no_feed}
use Rattle.text_base.proofs.TextLines.{lines_front}

digit_of : (d : ℕ) → d < 16 → IsHexDigit (hex_digit d) d
digit_of d lt = record { below = lt; either = inl refl }

spells_hex4 : (w : ℕ) → w < 2 ^ 16 → Spells 0 (hex4 w) w
spells_hex4 w lt = (w / 4096, digit_of (w / 4096) (omega arith), (w / 256 % 16, digit_of (w / 256 % 16) (omega arith), (w / 16 % 16, digit_of (w / 16 % 16) (omega arith), (w % 16, digit_of (w % 16) (omega arith), omega arith))))

out_is_port : (out : ℕ × ℕ) → IsOut out → IsPortLine (out_line out) out
out_is_port out h = record {
  port = h.port;
  blanks = 0;
  digits = hex4 out.1;
  word = record { some = omega arith; short = omega arith; spells = spells_hex4 out.1 h.word };
  text = refl;
}

hex_digit-no_return : (d : ℕ) → hex_digit d ≢ 13
hex_digit-no_return d = grind (arith, nat_tests)

no_return : (front : List ℕ) (last : ℕ) → last ≢ 13 → strip_carriage_return (front ++ last ∷ []) ≡ front ++ last ∷ []
no_return front last differs =
    let line = front ++ last ∷ [] in
    let at : get_or line (length line - 1) 0 ≡ last = get_or_at front last [] 0 (length line - 1) (omega (arith, length-append front (last ∷ []))) in
    let test : (last == 13) ≡ false = grind (arith, nat_tests) in
    ap (λ b. cond (b == 13) (take (length line - 1) line) line) at ∙ ap (λ t. cond t (take (length line - 1) line) line) test

out_whole : (out : ℕ × ℕ) → strip_carriage_return (out_line out) ≡ out_line out
out_whole out =
    let front = 32 ∷ hex_digit (out.1 / 4096) ∷ hex_digit (out.1 / 256 % 16) ∷ hex_digit (out.1 / 16 % 16) ∷ [] in
    let cut = append_assoc (decimal out.0) front (hex_digit (out.1 % 16) ∷ []) in
    ap strip_carriage_return (sym cut) ∙ no_return (decimal out.0 ++ front) (hex_digit (out.1 % 16)) (hex_digit-no_return (out.1 % 16)) ∙ cut

out_no_feed : (out : ℕ × ℕ) → IsOut out → HasNoFeed (out_line out)
out_no_feed out h = HasNoFeed-append (decimal out.0) (32 ∷ hex4 out.1) (decimal_no_feed out.0 (omega (arith, h.port))) (λ e. omega arith, hex4_no_feed out.1)

pub outs_are_ports : (outs : List (ℕ × ℕ)) → AllByRecursion IsOut outs → PortText (outs_text outs) outs
outs_are_ports [] h = refl
outs_are_ports (out ∷ outs) h =
    let cut = lines_front (out_line out) (outs_text outs) (out_no_feed out h.0) ∙ ap (λ l. l ∷ lines (outs_text outs)) (out_whole out) in
    subst (λ l. AllGive l (out ∷ outs)) (sym cut) (record { front = out ∷ []; back = outs; first = inr (out, out_is_port out h.0, refl); others = outs_are_ports outs h.1; joined = refl })

outs_each : (outs : List (ℕ × ℕ)) → ((k : ℕ) → k < length outs → IsOut (get_or outs k (0, 0))) → AllByRecursion IsOut outs
outs_each [] h = tt {0}
outs_each (out ∷ outs) h = (h 0 (omega arith), outs_each outs (λ k lt. h (suc k) (omega arith)))

pub outs_read_back : (outs : List (ℕ × ℕ)) (text : List ℕ) (index : ℕ) → text ++ outs_text (drop index outs) ≡ outs_text outs → ((k : ℕ) → k < index → IsOut (get_or outs k (0, 0))) → length outs ≤ index → PortText text outs
outs_read_back outs text index e each le =
    let none = drop_all index outs le in
    let same : text ≡ outs_text outs = sym (append-nil text) ∙ ap (λ l. text ++ outs_text l) (sym none) ∙ e in
    subst (λ t. PortText t outs) (sym same) (outs_are_ports outs (outs_each outs (λ k lt. each k (omega arith))))
