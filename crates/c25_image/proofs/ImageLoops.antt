-- What the loops over an image's lines keep.
use Rattle.std.proofs.Common.{◌≡◌, ◌≢◌, ℕ, zero, suc, ◌+◌, ◌-◌, ◌*◌, ◌<◌, ◌≤◌, min, Bool, true, false, List, [], ◌∷◌, ◌++◌, length, take, drop, map, refl, sym, ap, subst, ◌∙◌, inl, inr, arith, append_assoc, append-nil, length-append}
use Rattle.std.proofs.lemmas.List.{take_all, take-append-le, drop-append-le, length-drop, nil_from_length, map-append}
use Rattle.std.specs.List.{flat_map}
use Rattle.std.specs.Prelude.{◌⊎◌}
use Rattle.std.proofs.lemmas.List.Concat.{flat_map-append}
use Rattle.text_base.specs.Hex.{hex4}
use Rattle.c25_isa.specs.declared.image.FunctionRange.{FunctionRange}
use Rattle.c25_isa.specs.Image.{AreRanges, IsRange}
use Rattle.text_base.specs.Lines.{with_feed, lines_text, HasNoFeed}
use Rattle.c25_image.specs.ImageText.{last_line, word_line, word_lines, line_count, range_line}
use Rattle.c25_image.specs.ImageReading.{AreWords, IsNamed, IsStuck, IsRowOf, ReadsRow, NextRow, ReadsRows, ReadsRanges}
use Rattle.c25_image.specs.ImageFaults.{behind}
use Rattle.c25_image.specs.ImageStops.{StopsAtRow, StopsAtRange, StopsAtBadRange, IsRangeOrLast}

-- ---- the first line

pub no_line : (bytes line tail : List ℕ) → HasNoFeed bytes → bytes ≡ with_feed line ++ tail → ⊥
no_line [] [] tail h e = absurd cc
no_line [] (y ∷ line) tail h e = absurd cc
no_line (b ∷ bytes) [] tail h e = h.0 cc
no_line (b ∷ bytes) (y ∷ line) tail h e = no_line bytes line tail h.1 cc

pub same_line : (one two x y : List ℕ) → HasNoFeed one → HasNoFeed two → with_feed one ++ x ≡ with_feed two ++ y → (one ≡ two) × (x ≡ y)
same_line [] [] x y g h e = (refl, cc)
same_line [] (c ∷ two) x y g h e = absurd (h.0 cc)
same_line (b ∷ one) [] x y g h e = absurd (g.0 cc)
same_line (b ∷ one) (c ∷ two) x y g h e =
    let f = same_line one two x y g.1 h.1 cc in
    let head : b ≡ c = cc in
    (cc (f.0, head), f.1)

pub stuck_at_end : (Allowed : List ℕ → Type 0) (bytes : List ℕ) → HasNoFeed bytes → IsStuck Allowed bytes
stuck_at_end Allowed bytes h line tail g e allowed = no_line bytes line tail h e

pub stuck_at_line : (Allowed : List ℕ → Type 0) (bytes line rest : List ℕ) → HasNoFeed line → bytes ≡ with_feed line ++ rest → (Allowed line → ⊥) → IsStuck Allowed bytes
stuck_at_line Allowed bytes line rest h is not other tail g e allowed = not (subst Allowed (same_line other line tail rest g h (sym e ∙ is)).0 allowed)

-- ---- words

pub AreWords-append : (xs ys : List ℕ) → AreWords xs → AreWords ys → AreWords (xs ++ ys)
AreWords-append [] ys a b = b
AreWords-append (x ∷ xs) ys a b = (a.0, AreWords-append xs ys a.1 b)

-- one more line of words behind full ones
pub word_lines-append : (n : ℕ) (words more : List ℕ) → length words ≡ 8 * n → length more ≤ 8 → word_lines (suc n) (words ++ more) ≡ word_lines n words ++ word_line more ∷ []
word_lines-append zero words more full short =
    let none : words ≡ [] = nil_from_length words (omega arith) in
    rw none (ap (λ l. word_line l ∷ []) (take_all 8 more short))
word_lines-append (suc n) words more full short =
    let le : 8 ≤ length words = omega arith in
    ap (λ l. word_line l ∷ word_lines (suc n) (drop 8 (words ++ more))) (take-append-le 8 words more le)
    ∙ ap (λ l. word_line (take 8 words) ∷ word_lines (suc n) l) (drop-append-le 8 words more le)
    ∙ ap (λ l. word_line (take 8 words) ∷ l) (word_lines-append n (drop 8 words) more (omega (arith, length-drop 8 words)) short)

-- the words read so far, in so many lines
pub record RowsSoFar (bytes rest : List ℕ) (count line : ℕ) (words : List ℕ) : Type 0 where
  pub lines : ℕ
  pub number : line ≡ 3 + lines
  pub counted : length words ≡ min count (8 * lines)
  pub needed : lines ≤ line_count count
  pub fit : AreWords words
  pub text : bytes ≡ lines_text (word_lines lines words) ++ rest

pub rows_start : (bytes : List ℕ) (count : ℕ) (words : List ℕ) → words ≡ [] → RowsSoFar bytes bytes count 3 words
rows_start bytes count words none = record {
  lines = 0;
  number = refl;
  counted = omega (arith, ap length none);
  needed = omega arith;
  fit = subst AreWords (sym none) (tt {0});
  text = refl;
}

pub lines_text-append : (xs ys : List (List ℕ)) (rest : List ℕ) → lines_text (xs ++ ys) ++ rest ≡ lines_text xs ++ (lines_text ys ++ rest)
lines_text-append xs ys rest = ap (λ t. t ++ rest) (flat_map-append with_feed xs ys) ∙ append_assoc (lines_text xs) (lines_text ys) rest

pub lines_text-one : (line rest : List ℕ) → lines_text (line ∷ []) ++ rest ≡ with_feed line ++ rest
lines_text-one line rest = ap (λ t. t ++ rest) (append-nil (with_feed line))

pub rows_more : (bytes rest after : List ℕ) (count line in_line : ℕ) (old new : List ℕ) → RowsSoFar bytes rest count line old → length old < count → in_line ≡ min 8 (count - length old) → NextRow in_line rest after old new → RowsSoFar bytes after count (line + 1) new
rows_more bytes rest after count line in_line old new s lt is n =
    let full : length old ≡ 8 * s.lines = omega (arith, s.counted) in
    let len : length new ≡ length old + length n.words = omega (arith, ap length n.joined, length-append old n.words) in
    record {
      lines = suc s.lines;
      number = omega (arith, s.number);
      counted = omega (arith, n.counted);
      needed = omega arith;
      fit = subst AreWords (sym n.joined) (AreWords-append old n.words s.fit n.row.fit);
      text =
          s.text ∙ ap (λ t. lines_text (word_lines s.lines old) ++ t) (n.text ∙ sym (lines_text-one (word_line n.words) after))
          ∙ sym (lines_text-append (word_lines s.lines old) (word_line n.words ∷ []) after)
          ∙ ap (λ l. lines_text l ++ after) (sym (word_lines-append s.lines old n.words full (omega (arith, n.counted))))
          ∙ ap (λ w. lines_text (word_lines (suc s.lines) w) ++ after) (sym n.joined);
    }

pub rows_stop : (bytes rest : List ℕ) (count line in_line : ℕ) (words : List ℕ) → RowsSoFar bytes rest count line words → length words < count → in_line ≡ min 8 (count - length words) → IsStuck (IsRowOf in_line) rest → StopsAtRow bytes count line
rows_stop bytes rest count line in_line words s lt is stuck =
    let full : length words ≡ 8 * s.lines = omega (arith, s.counted) in
    let same : in_line ≡ min 8 (count - 8 * s.lines) = is ∙ ap (λ n. min 8 (count - n)) full in
    record {
      words = words;
      lines = s.lines;
      number = s.number;
      full = full;
      more = omega arith;
      fit = s.fit;
      rest = rest;
      text = s.text;
      stuck = subst (λ n. IsStuck (IsRowOf n) rest) same stuck;
    }

pub rows_end : (bytes rest : List ℕ) (count line : ℕ) (words : List ℕ) → RowsSoFar bytes rest count line words → count ≤ length words → ReadsRows bytes count words rest
rows_end bytes rest count line words s le =
    let n : s.lines ≡ line_count count = omega (arith, s.counted, s.needed) in
    record {
      counted = omega (arith, s.counted);
      fit = s.fit;
      text = s.text ∙ ap (λ k. lines_text (word_lines k words) ++ rest) n;
    }

-- ---- functions

AreRanges-append : (from count : ℕ) (fs : List FunctionRange) (f : FunctionRange) → AreRanges from count fs → IsRange (behind from fs) count f → AreRanges from count (fs ++ f ∷ [])
AreRanges-append from count [] f h r = (r, tt {0})
AreRanges-append from count (g ∷ fs) f h r = (h.0, AreRanges-append (g.last + 1) count fs f h.1 r)

behind-append : (from : ℕ) (fs : List FunctionRange) (f : FunctionRange) → behind from (fs ++ f ∷ []) ≡ f.last + 1
behind-append from [] f = refl
behind-append from (g ∷ fs) f = behind-append (g.last + 1) fs f

-- the functions read so far
pub record RangesSoFar (bytes rest : List ℕ) (count first line from : ℕ) (functions : List FunctionRange) : Type 0 where
  pub ranges : AreRanges 0 count functions
  pub number : line ≡ first + length functions
  pub next : from ≡ behind 0 functions
  pub few : length functions ≤ from
  pub within : from ≤ count
  pub text : bytes ≡ lines_text (map range_line functions) ++ rest

pub ranges_more : (bytes rest after text : List ℕ) (count first line from low high : ℕ) (functions more : List FunctionRange) (f : FunctionRange) → RangesSoFar bytes rest count first line from functions → rest ≡ with_feed text ++ after → IsNamed f → text ≡ range_line f → low ≡ f.first → high ≡ f.last → from ≤ low → low ≤ high → high < count → more ≡ functions ++ f ∷ [] → RangesSoFar bytes after count first (line + 1) (high + 1) more
ranges_more bytes rest after text count first line from low high functions more f s is named text-is low-is high-is le rises within pushed = record {
  ranges = subst (AreRanges 0 count) (sym pushed) (AreRanges-append 0 count functions f s.ranges (record { name = named.name; behind = omega (arith, s.next); rises = omega arith; within = omega arith }));
  number = omega (arith, s.number, ap length pushed, length-append functions (f ∷ []));
  next = ap (λ n. n + 1) high-is ∙ sym (ap (behind 0) pushed ∙ behind-append 0 functions f);
  few = omega (arith, s.few, ap length pushed, length-append functions (f ∷ []));
  within = omega arith;
  text =
      s.text ∙ ap (λ t. lines_text (map range_line functions) ++ t) (is ∙ ap (λ t. with_feed t ++ after) text-is ∙ sym (lines_text-one (range_line f) after))
      ∙ sym (lines_text-append (map range_line functions) (range_line f ∷ []) after)
      ∙ ap (λ l. lines_text l ++ after) (sym (map-append range_line functions (f ∷ [])))
      ∙ ap (λ l. lines_text (map range_line l) ++ after) (sym pushed);
}

pub ranges_stop : (bytes rest : List ℕ) (count first line from : ℕ) (functions : List FunctionRange) → RangesSoFar bytes rest count first line from functions → IsStuck IsRangeOrLast rest → StopsAtRange bytes count first line
ranges_stop bytes rest count first line from functions s stuck = record { functions = functions; ranges = s.ranges; number = s.number; rest = rest; text = s.text; stuck = stuck }

pub ranges_bad : (bytes rest after text : List ℕ) (count first line from : ℕ) (functions : List FunctionRange) (f : FunctionRange) → RangesSoFar bytes rest count first line from functions → rest ≡ with_feed text ++ after → IsNamed f → text ≡ range_line f → (from ≤ f.first → f.first ≤ f.last → f.last < count → ⊥) → StopsAtBadRange bytes count first line
ranges_bad bytes rest after text count first line from functions f s is named text-is breaks = record {
  functions = functions;
  ranges = s.ranges;
  number = s.number;
  function = f;
  named = named;
  breaks = λ r. breaks (omega (arith, s.next, r.behind)) r.rises r.within;
  rest = after;
  text = s.text ∙ ap (λ t. lines_text (map range_line functions) ++ t) (is ∙ ap (λ t. with_feed t ++ after) text-is);
}

pub ranges_end : (bytes rest after text : List ℕ) (count first line from : ℕ) (functions : List FunctionRange) → RangesSoFar bytes rest count first line from functions → rest ≡ with_feed text ++ after → text ≡ last_line → ReadsRanges bytes count functions after
ranges_end bytes rest after text count first line from functions s is last = record {
  ranges = s.ranges;
  text =
      s.text ∙ ap (λ t. lines_text (map range_line functions) ++ t) (is ∙ ap (λ t. with_feed t ++ after) last ∙ sym (lines_text-one last_line after))
      ∙ sym (lines_text-append (map range_line functions) (last_line ∷ []) after);
}

-- ---- one line of words

spaced_length : (words : List ℕ) → length (flat_map (λ v. 32 ∷ hex4 v) words) ≡ 5 * length words
spaced_length [] = refl
spaced_length (w ∷ ws) = omega (arith, spaced_length ws)

pub line_length : (words : List ℕ) → 0 < length words → length (word_line words) + 1 ≡ 5 * length words
line_length [] some = absurd (omega arith)
line_length (w ∷ ws) some = omega (arith, spaced_length ws)

pub not_row : (count : ℕ) (line old new : List ℕ) (b : Bool) → ReadsRow line old new b → (b ≡ false) ⊎ (length new ≢ length old + count) → IsRowOf count line → ⊥
not_row count line old new true reads (inl e) r = absurd cc
not_row count line old new true reads (inr differs) r =
    differs (omega (arith, ap length reads.joined, length-append old reads.words, line_length reads.words reads.row.some, line_length r.words r.row.some, ap length (sym reads.text ∙ r.text), r.counted))
not_row count line old new false reads which r = reads r.words r.row r.text

pub two_lines : (one two rest : List ℕ) → lines_text (one ∷ two ∷ []) ++ rest ≡ with_feed one ++ (with_feed two ++ rest)
two_lines one two rest = append_assoc (with_feed one) (lines_text (two ∷ [])) rest ∙ ap (λ t. with_feed one ++ t) (lines_text-one two rest)
