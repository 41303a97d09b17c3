-- The parts in which the reading of an image's text stops, and its end.
use Rattle.std.proofs.Common.{◌≡◌, ℕ, zero, suc, ◌+◌, ◌-◌, ◌*◌, ◌<◌, ◌≤◌, min, List, [], ◌∷◌, ◌++◌, length, take, drop, map, replicate, refl, sym, ap, subst, ◌∙◌, inr, arith, append_assoc, append-nil, length-append}
use Rattle.std.proofs.lemmas.List.{length-replicate, length-map, length-drop, nil_from_length, take-append-le, drop-append-le}
use Rattle.c25_isa.specs.declared.image.FunctionRange.{FunctionRange}
use Rattle.c25_isa.specs.Image.{Contents, AreRanges, IsRange}
use Rattle.text_base.specs.Lines.{with_feed, lines_text}
use Rattle.c25_image.specs.ImageText.{first_line, last_line, size_line, word_line, word_lines, line_count, range_line, open_lines, image_lines}
use Rattle.c25_image.specs.ImageReading.{AreWords, IsRowOf, StatesSize, ReadsHead, ReadsRows}
use Rattle.c25_image.specs.ImageFaults.{IsWhole, IsNoText, StatesTooMany, HasBadRange, IsFirstFaulty, behind}
use Rattle.c25_image.specs.ImageStops.{StopsAtFirst, StopsAtSecond, StopsAtRow, StopsAtRange, StopsAtBadRange, IsRangeOrLast}
use Rattle.c25_image.proofs.ImageLoops.{AreWords-append, lines_text-append, lines_text-one, two_lines, line_length}
use Rattle.c25_image.proofs.ImageLines.{first_no_feed, size_no_feed}
use Rattle.c25_image.proofs.ImageNext.{leads_first, leads_second, leads_rows, leads_ranges}
use Rattle.c25_image.proofs.ImageRefused.{Stops, stops_faulty, stops_no_text, too_many}

empty : Contents
empty = record { words = []; functions = [] }

empty_whole : IsWhole empty
unfolding empty
empty_whole = record { words = tt {0}; image = record { short = omega arith; ranges = tt {0} } }

-- ---- in the head

stop_first : (bytes : List ℕ) → StopsAtFirst bytes → Stops bytes [] (λ line. line ≡ first_line)
stop_first bytes stuck = record {
  contents = empty;
  whole = empty_whole;
  back = image_lines empty;
  begun = refl;
  rest = bytes;
  text = refl;
  leads = leads_first;
  ranges = λ c w e f named. absurd cc;
  stuck = stuck;
}

pub faulty_first : (bytes : List ℕ) → StopsAtFirst bytes → IsFirstFaulty bytes 1
faulty_first bytes stuck = stops_faulty bytes [] (λ line. line ≡ first_line) 1 (stop_first bytes stuck) refl
    (λ count t. stuck first_line (with_feed (size_line count) ++ t.rest) first_no_feed (t.text ∙ two_lines first_line (size_line count) t.rest) refl)

pub no_text_first : (bytes : List ℕ) → StopsAtFirst bytes → IsNoText bytes
no_text_first bytes stuck = stops_no_text bytes [] (λ line. line ≡ first_line) (stop_first bytes stuck)

stop_second : (bytes : List ℕ) → StopsAtSecond bytes → Stops bytes (first_line ∷ []) StatesSize
unfolding empty
stop_second bytes s = record {
  contents = empty;
  whole = empty_whole;
  back = _;
  begun = refl;
  rest = s.rest;
  text = s.text ∙ sym (lines_text-one first_line s.rest);
  leads = leads_second;
  ranges = λ c w e f named. absurd cc;
  stuck = s.stuck;
}

pub faulty_second : (bytes : List ℕ) → StopsAtSecond bytes → IsFirstFaulty bytes 2
faulty_second bytes s = stops_faulty bytes (first_line ∷ []) StatesSize 2 (stop_second bytes s) refl
    (λ count t.
    let rest = same_rest t in
    s.stuck (size_line count) t.rest (size_no_feed count t.fits) rest (record { count = count; fits = t.fits; text = refl }))
  where
    same_rest : {count : ℕ} → (t : StatesTooMany bytes count) → s.rest ≡ with_feed (size_line count) ++ t.rest
    same_rest {count} t = same_tail (sym s.text ∙ t.text ∙ two_lines first_line (size_line count) t.rest)
      where
        same_tail : {x y : List ℕ} → with_feed first_line ++ x ≡ with_feed first_line ++ y → x ≡ y
        same_tail e = cc

pub no_text_second : (bytes : List ℕ) → StopsAtSecond bytes → IsNoText bytes
no_text_second bytes s = stops_no_text bytes (first_line ∷ []) StatesSize (stop_second bytes s)

-- ---- in the words

zeros_fit : (n : ℕ) → AreWords (replicate n 0)
zeros_fit zero = tt {0}
zeros_fit (suc n) = (omega arith, zeros_fit n)

rows_split : (lines total more : ℕ) (words others : List ℕ) → total ≡ lines + more → length words ≡ 8 * lines → word_lines total (words ++ others) ≡ word_lines lines words ++ word_lines more others
rows_split zero total more words others sum full =
    let none : words ≡ [] = nil_from_length words (omega arith) in
    let same : total ≡ more = omega arith in
    rw (none, same) refl
rows_split (suc lines) zero more words others sum full = absurd (omega arith)
rows_split (suc lines) (suc total) more words others sum full =
    let le : 8 ≤ length words = omega arith in
    ap (λ l. word_line l ∷ word_lines total (drop 8 (words ++ others))) (take-append-le 8 words others le)
    ∙ ap (λ l. word_line (take 8 words) ∷ word_lines total l) (drop-append-le 8 words others le)
    ∙ ap (λ l. word_line (take 8 words) ∷ l) (rows_split lines total more (drop 8 words) others (omega arith) (omega (arith, length-drop 8 words)))

last_no_row : (count : ℕ) → IsRowOf count last_line → ⊥
last_no_row count r = omega (arith, ap length r.text, line_length r.words r.row.some)

-- words, and zeros up to so many
abbrev filled : ℕ → List ℕ → Contents
filled count words = record { words = words ++ replicate (count - length words) 0; functions = [] }

filled_count : (count : ℕ) (words : List ℕ) → length words ≤ count → length (words ++ replicate (count - length words) 0) ≡ count
filled_count count words le = omega (arith, length-append words (replicate (count - length words) 0), length-replicate {A = ℕ} (count - length words) 0)

filled_whole : (count : ℕ) (words : List ℕ) → count ≤ 65536 → length words ≤ count → AreWords words → IsWhole (filled count words)
filled_whole count words short le fit = record {
  words = AreWords-append words (replicate (count - length words) 0) fit (zeros_fit (count - length words));
  image = record { short = omega (arith, filled_count count words le); ranges = tt {0} };
}

filled_lines : (count lines : ℕ) (words : List ℕ) → length words ≡ 8 * lines → 8 * lines < count
    → image_lines (filled count words) ≡ (first_line ∷ size_line count ∷ word_lines lines words) ++ (word_lines (line_count count - lines) (replicate (count - length words) 0) ++ last_line ∷ [])
filled_lines count lines words full more =
    let zeros : List ℕ = replicate (count - length words) 0 in
    let rows = rows_split lines (line_count count) (line_count count - lines) words zeros (omega arith) full in
    ap (λ n. (first_line ∷ size_line n ∷ (word_lines (line_count n) (words ++ zeros) ++ [])) ++ last_line ∷ []) (filled_count count words (omega arith))
    ∙ ap (λ l. (first_line ∷ size_line count ∷ l) ++ last_line ∷ []) (append-nil (word_lines (line_count count) (words ++ zeros)) ∙ rows)
    ∙ append_assoc (first_line ∷ size_line count ∷ word_lines lines words) (word_lines (line_count count - lines) zeros) (last_line ∷ [])

abbrev row_lines : ℕ → ℕ → List ℕ → List (List ℕ)
row_lines count lines words = first_line ∷ size_line count ∷ word_lines lines words

stop_rows : (bytes rest : List ℕ) (count line : ℕ) → ReadsHead bytes count rest → (s : StopsAtRow rest count line) → Stops bytes (row_lines count s.lines s.words) (IsRowOf (min 8 (count - 8 * s.lines)))
stop_rows bytes rest count line h s = record {
  contents = filled count s.words;
  whole = filled_whole count s.words h.short (omega (arith, s.full, s.more)) s.fit;
  back = _;
  begun = filled_lines count s.lines s.words s.full s.more;
  rest = s.rest;
  text =
      h.text ∙ ap (λ t. lines_text (first_line ∷ size_line count ∷ []) ++ t) s.text
      ∙ sym (lines_text-append (first_line ∷ size_line count ∷ []) (word_lines s.lines s.words) s.rest);
  leads = leads_rows count s.lines s.words h.short s.more;
  ranges = λ c w e f named.
      let next = leads_rows count s.lines s.words h.short s.more c (last_line ∷ []) w (ap (λ l. l ++ last_line ∷ []) e) in
      let is = next.is in
      let same : next.line ≡ last_line = cc in
      absurd (last_no_row (min 8 (count - 8 * s.lines)) (subst (IsRowOf (min 8 (count - 8 * s.lines))) same next.allowed));
  stuck = s.stuck;
}

row_lines_length : (count lines : ℕ) (words : List ℕ) → length (row_lines count lines words) ≡ 2 + lines
row_lines_length count lines words = ap (λ n. suc (suc n)) (rows_length lines words) ∙ omega arith
  where
    rows_length : (n : ℕ) (xs : List ℕ) → length (word_lines n xs) ≡ n
    rows_length zero xs = refl
    rows_length (suc n) xs = ap suc (rows_length n (drop 8 xs))

pub faulty_row : (bytes rest : List ℕ) (count line : ℕ) → ReadsHead bytes count rest → StopsAtRow rest count line → IsFirstFaulty bytes line
faulty_row bytes rest count line h s =
    let stop = stop_rows bytes rest count line h s in
    stops_faulty bytes (row_lines count s.lines s.words) (IsRowOf (min 8 (count - 8 * s.lines))) line stop (omega (arith, s.number, row_lines_length count s.lines s.words))
    (too_many bytes count (word_lines s.lines s.words) stop.rest h.short stop.text)

pub no_text_row : (bytes rest : List ℕ) (count line : ℕ) → ReadsHead bytes count rest → StopsAtRow rest count line → IsNoText bytes
no_text_row bytes rest count line h s = stops_no_text bytes (row_lines count s.lines s.words) (IsRowOf (min 8 (count - 8 * s.lines))) (stop_rows bytes rest count line h s)

-- ---- in the functions

abbrev pub read_of : List ℕ → List FunctionRange → Contents
read_of words functions = record { words = words; functions = functions }

pub read_whole : (count : ℕ) (words : List ℕ) (functions : List FunctionRange) → count ≤ 65536 → length words ≡ count → AreWords words → AreRanges 0 count functions → IsWhole (read_of words functions)
read_whole count words functions short counted fit ranges = record {
  words = fit;
  image = record { short = omega arith; ranges = subst (λ n. AreRanges 0 n functions) (sym counted) ranges };
}

pub read_text : (bytes one two : List ℕ) (count : ℕ) (words : List ℕ) (functions : List FunctionRange) (rest : List ℕ) → ReadsHead bytes count one → ReadsRows one count words two → two ≡ lines_text (map range_line functions) ++ rest
    → bytes ≡ lines_text (open_lines (read_of words functions)) ++ rest
read_text bytes one two count words functions rest h r is =
    let rows = word_lines (line_count count) words in
    let all : bytes ≡ lines_text (first_line ∷ size_line count ∷ (rows ++ map range_line functions)) ++ rest =
    h.text
    ∙ ap (λ t. lines_text (first_line ∷ size_line count ∷ []) ++ t) (r.text ∙ ap (λ t. lines_text rows ++ t) is ∙ sym (lines_text-append rows (map range_line functions) rest))
    ∙ sym (lines_text-append (first_line ∷ size_line count ∷ []) (rows ++ map range_line functions) rest)
    in
    all ∙ ap (λ n. lines_text (first_line ∷ size_line n ∷ (word_lines (line_count n) words ++ map range_line functions)) ++ rest) (sym r.counted)

stop_range : (bytes one two : List ℕ) (count : ℕ) (words : List ℕ) (from line : ℕ) → ReadsHead bytes count one → ReadsRows one count words two → (s : StopsAtRange two count from line) → Stops bytes (open_lines (read_of words s.functions)) IsRangeOrLast
stop_range bytes one two count words from line h r s =
    let whole = read_whole count words s.functions h.short r.counted r.fit s.ranges in
    record {
      contents = read_of words s.functions;
      whole = whole;
      back = last_line ∷ [];
      begun = refl;
      rest = s.rest;
      text = read_text bytes one two count words s.functions s.rest h r s.text;
      leads = leads_ranges (read_of words s.functions) whole;
      ranges = λ c w e f named. inr (f, named, refl);
      stuck = s.stuck;
    }

pub open_length : (words : List ℕ) (functions : List FunctionRange) → length (open_lines (read_of words functions)) ≡ 2 + line_count (length words) + length functions
open_length words functions =
    omega (arith, row_lines_length (length words) (line_count (length words)) words, length-append (word_lines (line_count (length words)) words) (map range_line functions), length-map functions range_line)

pub faulty_range : (bytes one two : List ℕ) (count : ℕ) (words : List ℕ) (from line : ℕ) → from ≡ 3 + line_count count → ReadsHead bytes count one → ReadsRows one count words two → StopsAtRange two count from line → IsFirstFaulty bytes line
faulty_range bytes one two count words from line first h r s =
    let stop = stop_range bytes one two count words from line h r s in
    stops_faulty bytes (open_lines (read_of words s.functions)) IsRangeOrLast line stop (omega (arith, s.number, r.counted, open_length words s.functions, ap line_count r.counted))
    (too_many bytes (length words) (word_lines (line_count (length words)) words ++ map range_line s.functions) stop.rest (omega (arith, h.short, r.counted)) stop.text)

pub no_text_range : (bytes one two : List ℕ) (count : ℕ) (words : List ℕ) (from line : ℕ) → ReadsHead bytes count one → ReadsRows one count words two → StopsAtRange two count from line → IsNoText bytes
no_text_range bytes one two count words from line h r s = stops_no_text bytes (open_lines (read_of words s.functions)) IsRangeOrLast (stop_range bytes one two count words from line h r s)

pub bad_range : (bytes one two : List ℕ) (count : ℕ) (words : List ℕ) (from line : ℕ) → from ≡ 3 + line_count count → ReadsHead bytes count one → ReadsRows one count words two → StopsAtBadRange two count from line → HasBadRange bytes line
bad_range bytes one two count words from line first h r s = record {
  contents = read_of words s.functions;
  whole = read_whole count words s.functions h.short r.counted r.fit s.ranges;
  count = omega (arith, s.number, r.counted, open_length words s.functions, ap line_count r.counted);
  function = s.function;
  named = s.named;
  breaks = subst (λ n. IsRange (behind 0 s.functions) n s.function → ⊥) (sym r.counted) s.breaks;
  rest = s.rest;
  text =
      read_text bytes one two count words s.functions (with_feed (range_line s.function) ++ s.rest) h r s.text
      ∙ ap (λ t. lines_text (open_lines (read_of words s.functions)) ++ t) (sym (lines_text-one (range_line s.function) s.rest))
      ∙ sym (lines_text-append (open_lines (read_of words s.functions)) (range_line s.function ∷ []) s.rest);
}
