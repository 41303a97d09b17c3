-- The end of an image's text, and that it tells the image.
use Rattle.std.proofs.Common.{◌≡◌, ◌≢◌, ℕ, zero, suc, ◌+◌, ◌-◌, ◌≤◌, List, [], ◌∷◌, ◌++◌, length, take, drop, map, refl, sym, ap, subst, ◌∙◌, inl, inr, arith, append_assoc, append-nil, length-append, take-append-drop}
use Rattle.std.specs.Prelude.{◌⊎◌}
use Rattle.std.specs.List.{flat_map}
use Rattle.std.proofs.lemmas.List.{length-drop, nil_from_length}
use Rattle.c25_isa.specs.declared.image.FunctionRange.{FunctionRange}
use Rattle.c25_isa.specs.Image.{Contents, AreRanges}
use Rattle.text_base.specs.Hex.{hex4}
use Rattle.text_base.specs.Lines.{with_feed, lines_text}
use Rattle.c25_image.specs.ImageText.{last_line, word_line, word_lines, line_count, range_line, open_lines, image_lines, image_text}
use Rattle.c25_image.specs.ImageReading.{AreWords, ReadsHead, ReadsRows, ReadsRanges}
use Rattle.c25_image.specs.ImageFaults.{IsWhole, IsNoText, Begins, HasBadRange, IsFirstFaulty, behind}
use Rattle.c25_image.proofs.ImageLoops.{same_line, lines_text-append}
use Rattle.c25_image.proofs.ImageLines.{NoFeeds, NoFeeds-front, NoFeeds-back, open_no_feeds, image_no_feeds, range_no_feed, GoesOn, lines_cut, nothing_left, hex4_injective, range_injective, size_injective, last_no_range}
use Rattle.c25_image.proofs.ImageNext.{open_next, image_ends, range_fits}
use Rattle.c25_image.proofs.ImageRefused.{bad_next, bad_text, too_many}
use Rattle.c25_image.proofs.ImageStopped.{read_of, read_whole, read_text, open_length}

-- ---- at the end

-- a whole image, and what stands behind its last line
pub record Ends (bytes : List ℕ) (c : Contents) (rest : List ℕ) : Type 0 where
  pub whole : IsWhole c
  pub text : bytes ≡ lines_text (image_lines c) ++ rest

pub read_all : (bytes one two : List ℕ) (count : ℕ) (words : List ℕ) (functions : List FunctionRange) (rest : List ℕ) → ReadsHead bytes count one → ReadsRows one count words two → ReadsRanges two count functions rest → Ends bytes (read_of words functions) rest
read_all bytes one two count words functions rest h r s = record {
  whole = read_whole count words functions h.short r.counted r.fit s.ranges;
  text =
      read_text bytes one two count words functions (lines_text (last_line ∷ []) ++ rest) h r (s.text ∙ lines_text-append (map range_line functions) (last_line ∷ []) rest)
      ∙ sym (lines_text-append (open_lines (read_of words functions)) (last_line ∷ []) rest);
}

ends_before : (bytes : List ℕ) (c : Contents) (rest : List ℕ) → Ends bytes c rest → Begins (length (image_lines c)) bytes
ends_before bytes c rest s = record { contents = c; whole = s.whole; front = image_lines c; back = []; lines = sym (append-nil (image_lines c)); count = refl; rest = rest; text = s.text }

ends_here : (bytes : List ℕ) (c : Contents) (rest : List ℕ) → Ends bytes c rest → Begins (length (image_lines c) + 1) bytes → ⊥
ends_here bytes c rest s b =
    let feeds = NoFeeds-front b.front b.back (subst NoFeeds b.lines (image_no_feeds b.contents b.whole)) in
    pick (lines_cut (image_lines c) b.front rest b.rest (image_no_feeds c s.whole) feeds (sym s.text ∙ b.text))
  where
    pick : GoesOn (image_lines c) b.front rest b.rest ⊎ GoesOn b.front (image_lines c) b.rest rest → ⊥
    pick (inl g) =
        let none = image_ends c b.contents (g.more ++ b.back) s.whole b.whole (b.lines ∙ ap (λ l. l ++ b.back) g.lines ∙ append_assoc (image_lines c) g.more b.back) in
        omega (arith, ap length none, length-append g.more b.back, ap length g.lines, length-append (image_lines c) g.more, b.count)
    pick (inr g) = omega (arith, ap length g.lines, length-append b.front g.more, b.count)

pub ends_no_text : (bytes : List ℕ) (c : Contents) (rest : List ℕ) → rest ≢ [] → Ends bytes c rest → IsNoText bytes
ends_no_text bytes c rest some s d w e = pick (lines_cut (image_lines c) (image_lines d) rest [] (image_no_feeds c s.whole) (image_no_feeds d w) (sym s.text ∙ e ∙ sym (append-nil (image_text d))))
  where
    pick : GoesOn (image_lines c) (image_lines d) rest [] ⊎ GoesOn (image_lines d) (image_lines c) [] rest → ⊥
    pick (inl g) = some (g.text ∙ ap (λ l. lines_text l ++ []) (image_ends c d g.more s.whole w g.lines))
    pick (inr g) = some (nothing_left g.more rest g.text).1

ends_not_range : (bytes : List ℕ) (c : Contents) (rest : List ℕ) → Ends bytes c rest → (other : ℕ) → HasBadRange bytes other → ⊥
ends_not_range bytes c rest s other h =
    pick (lines_cut (image_lines c) (open_lines h.contents) rest (with_feed (range_line h.function) ++ h.rest) (image_no_feeds c s.whole) (open_no_feeds h.contents h.whole) (sym s.text ∙ bad_text bytes other h))
  where
    shorter : (more : List (List ℕ)) → open_lines h.contents ≡ image_lines c ++ more → ⊥
    shorter more is =
        let none = image_ends c h.contents (more ++ last_line ∷ []) s.whole h.whole (ap (λ l. l ++ last_line ∷ []) is ∙ append_assoc (image_lines c) more (last_line ∷ [])) in
        omega (arith, ap length none, length-append more (last_line ∷ []))

    longer : (more : List (List ℕ)) → image_lines c ≡ open_lines h.contents ++ more → with_feed (range_line h.function) ++ h.rest ≡ lines_text more ++ rest → ⊥
    longer [] is text = shorter [] (sym (is ∙ append-nil (open_lines h.contents)) ∙ sym (append-nil (image_lines c)))
    longer (d ∷ more) is text =
        let feeds = NoFeeds-back (open_lines h.contents) (d ∷ more) (subst NoFeeds is (image_no_feeds c s.whole)) in
        let same = same_line (range_line h.function) d h.rest (lines_text more ++ rest) (range_no_feed h.function h.named.name) feeds.0 (text ∙ append_assoc (with_feed d) (lines_text more) rest) in
        bad_next (behind 0 h.contents.functions) (length h.contents.words) h.function d more h.whole.image.short h.named h.breaks same.0 (open_next h.contents c (d ∷ more) h.whole s.whole is)

    pick : GoesOn (image_lines c) (open_lines h.contents) rest (with_feed (range_line h.function) ++ h.rest) ⊎ GoesOn (open_lines h.contents) (image_lines c) (with_feed (range_line h.function) ++ h.rest) rest → ⊥
    pick (inl g) = shorter g.more g.lines
    pick (inr g) = longer g.more g.lines g.text

pub ends_faulty : (bytes : List ℕ) (c : Contents) (rest : List ℕ) (line : ℕ) → line ≡ length (image_lines c) + 1 → rest ≢ [] → Ends bytes c rest → IsFirstFaulty bytes line
ends_faulty bytes c rest line number some s = record {
  wrong = ends_no_text bytes c rest some s;
  from_one = omega arith;
  before = subst (λ n. Begins n bytes) (let e : length (image_lines c) ≡ line - 1 = omega arith in e) (ends_before bytes c rest s);
  here = λ b. ends_here bytes c rest s (subst (λ n. Begins n bytes) number b);
  not_long = too_many bytes (length c.words) _ rest s.whole.image.short s.text;
  not_range = ends_not_range bytes c rest s;
}

pub image_length : (words : List ℕ) (functions : List FunctionRange) → length (image_lines (read_of words functions)) ≡ 3 + line_count (length words) + length functions
image_length words functions = omega (arith, open_length words functions, length-append (open_lines (read_of words functions)) (last_line ∷ []))

-- ---- a text tells its image

spaced_injective : (xs ys : List ℕ) → AreWords xs → AreWords ys → flat_map (λ v. 32 ∷ hex4 v) xs ≡ flat_map (λ v. 32 ∷ hex4 v) ys → xs ≡ ys
spaced_injective [] [] g h e = refl
spaced_injective [] (y ∷ ys) g h e = absurd cc
spaced_injective (x ∷ xs) [] g h e = absurd cc
spaced_injective (x ∷ xs) (y ∷ ys) g h e =
    let one : hex4 x ≡ hex4 y = cc in
    let head = hex4_injective x y g.0 h.0 one in
    let tail = spaced_injective xs ys g.1 h.1 cc in
    cc

row_injective : (xs ys : List ℕ) → AreWords xs → AreWords ys → word_line xs ≡ word_line ys → xs ≡ ys
row_injective [] [] g h e = refl
row_injective [] (y ∷ ys) g h e = absurd cc
row_injective (x ∷ xs) [] g h e = absurd cc
row_injective (x ∷ xs) (y ∷ ys) g h e =
    let one : hex4 x ≡ hex4 y = cc in
    let head = hex4_injective x y g.0 h.0 one in
    let tail = spaced_injective xs ys g.1 h.1 cc in
    cc

AreWords-take : (n : ℕ) (words : List ℕ) → AreWords words → AreWords (take n words)
AreWords-take zero words h = tt {0}
AreWords-take (suc n) [] h = tt {0}
AreWords-take (suc n) (w ∷ ws) h = (h.0, AreWords-take n ws h.1)

AreWords-drop : (n : ℕ) (words : List ℕ) → AreWords words → AreWords (drop n words)
AreWords-drop zero words h = h
AreWords-drop (suc n) [] h = tt {0}
AreWords-drop (suc n) (w ∷ ws) h = AreWords-drop n ws h.1

-- the same words, and then the same lines
rows_injective : (n : ℕ) (xs ys : List ℕ) (a b : List (List ℕ)) → AreWords xs → AreWords ys → n ≡ line_count (length xs) → length xs ≡ length ys → word_lines n xs ++ a ≡ word_lines n ys ++ b → (xs ≡ ys) × (a ≡ b)
rows_injective zero xs ys a b g h n len e =
    let one : xs ≡ [] = nil_from_length xs (omega arith) in
    let two : ys ≡ [] = nil_from_length ys (omega arith) in
    (one ∙ sym two, e)
rows_injective (suc n) xs ys a b g h count len e =
    let head = row_injective (take 8 xs) (take 8 ys) (AreWords-take 8 xs g) (AreWords-take 8 ys h) cc in
    let dx = length-drop 8 xs in
    let dy = length-drop 8 ys in
    let tail = rows_injective n (drop 8 xs) (drop 8 ys) a b (AreWords-drop 8 xs g) (AreWords-drop 8 ys h) (omega arith) (omega arith) cc in
    (sym (take-append-drop 8 xs) ∙ ap (λ l. l ++ drop 8 xs) head ∙ ap (λ l. take 8 ys ++ l) tail.0 ∙ take-append-drop 8 ys, tail.1)

abbrev function_of : List ℕ → ℕ → ℕ → FunctionRange
function_of name first last = record { name = name; first = first; last = last }

same_function : (m n : List ℕ) (a b p q : ℕ) → m ≡ n → a ≡ b → p ≡ q → function_of m a p ≡ function_of n b q
same_function m n a b p q d e f = cc

ranges_injective : (from count : ℕ) (fs gs : List FunctionRange) → count ≤ 65536 → AreRanges from count fs → AreRanges from count gs → map range_line fs ++ last_line ∷ [] ≡ map range_line gs ++ last_line ∷ [] → fs ≡ gs
ranges_injective from count [] [] short g h e = refl
ranges_injective from count [] (y ∷ gs) short g h e = absurd (last_no_range y cc)
ranges_injective from count (x ∷ fs) [] short g h e = absurd (last_no_range x cc)
ranges_injective from count (x ∷ fs) (y ∷ gs) short g h e =
    let nx = range_fits from count x short g.0 in
    let ny = range_fits from count y short h.0 in
    let s = range_injective x y nx.first nx.last ny.first ny.last cc in
    let same : x ≡ y = same_function x.name y.name x.first y.first x.last y.last s.name s.first s.last in
    let tail = ranges_injective (y.last + 1) count fs gs short (subst (λ n. AreRanges (n + 1) count fs) s.last g.1) h.1 cc in
    cc

same_contents : (xs ys : List ℕ) (fs gs : List FunctionRange) → xs ≡ ys → fs ≡ gs → read_of xs fs ≡ read_of ys gs
same_contents xs ys fs gs d e = cc

lines_injective : (c d : Contents) → IsWhole c → IsWhole d → image_lines c ≡ image_lines d → c ≡ d
lines_injective c d v w e =
    let n = length c.words in
    let same : length d.words ≡ n = size_injective (length d.words) n (omega (arith, w.image.short)) (omega (arith, v.image.short)) cc in
    let rows : (word_lines (line_count n) c.words ++ map range_line c.functions) ++ last_line ∷ [] ≡ (word_lines (line_count (length d.words)) d.words ++ map range_line d.functions) ++ last_line ∷ [] = cc e in
    let one : word_lines (line_count n) c.words ++ (map range_line c.functions ++ last_line ∷ []) ≡ word_lines (line_count n) d.words ++ (map range_line d.functions ++ last_line ∷ []) =
    sym (append_assoc (word_lines (line_count n) c.words) (map range_line c.functions) (last_line ∷ []))
    ∙ rows
    ∙ append_assoc (word_lines (line_count (length d.words)) d.words) (map range_line d.functions) (last_line ∷ [])
    ∙ ap (λ k. word_lines (line_count k) d.words ++ (map range_line d.functions ++ last_line ∷ [])) same
    in
    let words = rows_injective (line_count n) c.words d.words _ _ v.words w.words refl (sym same) one in
    let functions = ranges_injective 0 n c.functions d.functions v.image.short v.image.ranges (subst (λ k. AreRanges 0 k d.functions) same w.image.ranges) words.1 in
    same_contents c.words d.words c.functions d.functions words.0 functions

pub text_injective : (c d : Contents) → IsWhole c → IsWhole d → image_text c ≡ image_text d → c ≡ d
text_injective c d v w e = pick (lines_cut (image_lines c) (image_lines d) [] [] (image_no_feeds c v) (image_no_feeds d w) (append-nil (image_text c) ∙ e ∙ sym (append-nil (image_text d))))
  where
    pick : GoesOn (image_lines c) (image_lines d) [] [] ⊎ GoesOn (image_lines d) (image_lines c) [] [] → c ≡ d
    pick (inl g) = lines_injective c d v w (sym (append-nil (image_lines c)) ∙ ap (λ m. image_lines c ++ m) (sym (nothing_left g.more [] g.text).0) ∙ sym g.lines)
    pick (inr g) = lines_injective c d v w (g.lines ∙ ap (λ m. image_lines d ++ m) (nothing_left g.more [] g.text).0 ∙ append-nil (image_lines d))
