-- Lines of images: none has a line feed, so a text is cut into them in one way, and they tell what they were written of.
use Rattle.std.proofs.Common.{◌≡◌, ◌≢◌, ℕ, zero, suc, ◌+◌, ◌/◌, ◌%◌, ◌<◌, ◌^◌, List, [], ◌∷◌, ◌++◌, length, take, drop, map, refl, sym, ◌∙◌, inl, inr, arith, rules, append_assoc}
use Rattle.std.specs.Prelude.{◌⊎◌, codes, decimal}
use Rattle.std.specs.List.{flat_map, AllByRecursion}
use Rattle.std.proofs.lemmas.Fmt.{decimal_by_steps, decimal_injective}
use Rattle.std.proofs.lemmas.List.Elements.{recursion_from_All}
use Rattle.std.proofs.lemmas.List.{append_cancel_left}
use Rattle.std.proofs.lemmas.Bool.Decides.{nat_tests}
use Rattle.c25_isa.specs.declared.image.FunctionRange.{FunctionRange}
use Rattle.c25_isa.specs.Image.{Contents, AreRanges}
use Rattle.word_base.specs.Name.{IsName, IsNamePart}
use Rattle.text_base.specs.Hex.{hex_digit, hex4}
use Rattle.text_base.specs.Lines.{with_feed, lines_text, HasNoFeed}
use Rattle.c25_image.specs.ImageText.{first_line, last_line, size_line, word_line, word_lines, line_count, range_words, range_line, open_lines, image_lines}
use Rattle.c25_image.specs.ImageFaults.{IsWhole}
use Rattle.c25_image.proofs.Ranges.{cut_end}
use Rattle.c25_image.proofs.ImageLoops.{same_line}

-- ---- digits

hex_digit-above : (d : ℕ) → hex_digit d ≢ 10
hex_digit-above d = grind (arith, nat_tests)

hex_digit-injective : (d e : ℕ) → d < 16 → e < 16 → hex_digit d ≡ hex_digit e → d ≡ e
hex_digit-injective d e p q h = grind (arith, nat_tests)

pub hex4_injective : (v w : ℕ) → v < 2 ^ 16 → w < 2 ^ 16 → hex4 v ≡ hex4 w → v ≡ w
hex4_injective v w p q e =
    let a = hex_digit-injective (v / 4096) (w / 4096) (omega arith) (omega arith) cc in
    let b = hex_digit-injective (v / 256 % 16) (w / 256 % 16) (omega arith) (omega arith) cc in
    let c = hex_digit-injective (v / 16 % 16) (w / 16 % 16) (omega arith) (omega arith) cc in
    let d = hex_digit-injective (v % 16) (w % 16) (omega arith) (omega arith) cc in
    omega arith

-- ---- lines without line feeds

pub HasNoFeed-append : (xs ys : List ℕ) → HasNoFeed xs → HasNoFeed ys → HasNoFeed (xs ++ ys)
HasNoFeed-append [] ys a b = b
HasNoFeed-append (x ∷ xs) ys a b = (a.0, HasNoFeed-append xs ys a.1 b)

pub hex4_no_feed : (w : ℕ) → HasNoFeed (hex4 w)
hex4_no_feed w = (hex_digit-above (w / 4096), (hex_digit-above (w / 256 % 16), (hex_digit-above (w / 16 % 16), (hex_digit-above (w % 16), tt {0}))))

above : (b : ℕ) → 10 < b → b ≢ 10
above b lt e = omega arith

pub decimal_no_feed : (n : ℕ) → n < 2 ^ 64 → HasNoFeed (decimal n)
decimal_no_feed = decimal_by_steps (λ n ds. HasNoFeed ds)
    (λ n lt. (above (48 + n) (omega arith), tt {0}))
    (λ n ds le more. HasNoFeed-append ds ((48 + n % 10) ∷ []) more (above (48 + n % 10) (omega arith), tt {0}))

spaced_no_feed : (words : List ℕ) → HasNoFeed (flat_map (λ v. 32 ∷ hex4 v) words)
spaced_no_feed [] = tt {0}
spaced_no_feed (w ∷ ws) = (above 32 (omega arith), HasNoFeed-append (hex4 w) (flat_map (λ v. 32 ∷ hex4 v) ws) (hex4_no_feed w) (spaced_no_feed ws))

word_line_no_feed : (words : List ℕ) → HasNoFeed (word_line words)
word_line_no_feed [] = tt {0}
word_line_no_feed (w ∷ ws) = HasNoFeed-append (hex4 w) (flat_map (λ v. 32 ∷ hex4 v) ws) (hex4_no_feed w) (spaced_no_feed ws)

part_above : (b : ℕ) → IsNamePart b → b ≢ 10
part_above b h e = grind arith

parts_no_feed : (name : List ℕ) → AllByRecursion IsNamePart name → HasNoFeed name
parts_no_feed [] h = tt {0}
parts_no_feed (b ∷ name) h = (part_above b h.0, parts_no_feed name h.1)

pub first_no_feed : HasNoFeed first_line
first_no_feed = search rules

last_no_feed : HasNoFeed last_line
last_no_feed = search rules

func_no_feed : HasNoFeed (codes "func ")
func_no_feed = search rules

words_no_feed : HasNoFeed (codes "words ")
words_no_feed = search rules

pub size_no_feed : (n : ℕ) → n < 2 ^ 64 → HasNoFeed (size_line n)
size_no_feed n lt = HasNoFeed-append (codes "words ") (decimal n) words_no_feed (decimal_no_feed n lt)

name_no_feed : (name : List ℕ) → IsName name → HasNoFeed name
name_no_feed name h = parts_no_feed name (recursion_from_All IsNamePart name h.each)

pub range_no_feed : (f : FunctionRange) → IsName f.name → HasNoFeed (range_line f)
range_no_feed f name =
    let pair : HasNoFeed (range_words f.first f.last) =
    (above 32 (omega arith), HasNoFeed-append (hex4 f.first) (32 ∷ hex4 f.last) (hex4_no_feed f.first) (above 32 (omega arith), hex4_no_feed f.last))
    in
    HasNoFeed-append (codes "func ") (f.name ++ range_words f.first f.last) func_no_feed (HasNoFeed-append f.name (range_words f.first f.last) (name_no_feed f.name name) pair)

-- no line has a line feed
abbrev pub NoFeeds : List (List ℕ) → Type 0
NoFeeds lines = AllByRecursion HasNoFeed lines

pub NoFeeds-append : (xs ys : List (List ℕ)) → NoFeeds xs → NoFeeds ys → NoFeeds (xs ++ ys)
NoFeeds-append [] ys a b = b
NoFeeds-append (x ∷ xs) ys a b = (a.0, NoFeeds-append xs ys a.1 b)

pub NoFeeds-back : (xs ys : List (List ℕ)) → NoFeeds (xs ++ ys) → NoFeeds ys
NoFeeds-back [] ys h = h
NoFeeds-back (x ∷ xs) ys h = NoFeeds-back xs ys h.1

pub NoFeeds-front : (xs ys : List (List ℕ)) → NoFeeds (xs ++ ys) → NoFeeds xs
NoFeeds-front [] ys h = tt {0}
NoFeeds-front (x ∷ xs) ys h = (h.0, NoFeeds-front xs ys h.1)

rows_no_feeds : (n : ℕ) (words : List ℕ) → NoFeeds (word_lines n words)
rows_no_feeds zero words = tt {0}
rows_no_feeds (suc n) words = (word_line_no_feed (take 8 words), rows_no_feeds n (drop 8 words))

ranges_no_feeds : (from count : ℕ) (fs : List FunctionRange) → AreRanges from count fs → NoFeeds (map range_line fs)
ranges_no_feeds from count [] h = tt {0}
ranges_no_feeds from count (f ∷ fs) h = (range_no_feed f h.0.name, ranges_no_feeds (f.last + 1) count fs h.1)

pub open_no_feeds : (c : Contents) → IsWhole c → NoFeeds (open_lines c)
open_no_feeds c w = (
  first_no_feed,
  (
    size_no_feed (length c.words) (omega (arith, w.image.short)),
    NoFeeds-append (word_lines (line_count (length c.words)) c.words) (map range_line c.functions) (rows_no_feeds (line_count (length c.words)) c.words) (ranges_no_feeds 0 (length c.words) c.functions w.image.ranges),
  ),
)

pub image_no_feeds : (c : Contents) → IsWhole c → NoFeeds (image_lines c)
image_no_feeds c w = NoFeeds-append (open_lines c) (last_line ∷ []) (open_no_feeds c w) (last_no_feed, tt {0})

-- ---- a text is cut in one way

-- the lines of one text go on behind those of another
pub record GoesOn (shorter longer : List (List ℕ)) (rest behind : List ℕ) : Type 0 where
  pub more : List (List ℕ)
  pub lines : longer ≡ shorter ++ more
  pub text : rest ≡ lines_text more ++ behind

pub lines_cut : (one two : List (List ℕ)) (x y : List ℕ) → NoFeeds one → NoFeeds two → lines_text one ++ x ≡ lines_text two ++ y → GoesOn one two x y ⊎ GoesOn two one y x
lines_cut [] two x y g h e = inl (record { more = two; lines = refl; text = e })
lines_cut (a ∷ one) [] x y g h e = inr (record { more = a ∷ one; lines = refl; text = sym e })
lines_cut (a ∷ one) (b ∷ two) x y g h e =
    let s = same_line a b (lines_text one ++ x) (lines_text two ++ y) g.0 h.0 (sym (append_assoc (with_feed a) (lines_text one) x) ∙ e ∙ append_assoc (with_feed b) (lines_text two) y) in
    elim (lines_cut one two x y g.1 h.1 s.1) [
      | inl t ↦ inl (record { more = t.more; lines = cc (s.0, t.lines); text = t.text })
      | inr t ↦ inr (record { more = t.more; lines = cc (s.0, t.lines); text = t.text })
    ]

pub nothing_left : (lines : List (List ℕ)) (rest : List ℕ) → [] ≡ lines_text lines ++ rest → (lines ≡ []) × (rest ≡ [])
nothing_left [] rest e = (refl, sym e)
nothing_left ([] ∷ lines) rest e = absurd cc
nothing_left ((b ∷ line) ∷ lines) rest e = absurd cc

-- ---- lines tell what they were written of

pub size_injective : (m n : ℕ) → m < 2 ^ 64 → n < 2 ^ 64 → size_line m ≡ size_line n → m ≡ n
size_injective m n p q e = decimal_injective m n p q (append_cancel_left (codes "words ") (decimal m) (decimal n) e)

-- two functions of one line
pub record SameRange (f g : FunctionRange) : Type 0 where
  pub name : f.name ≡ g.name
  pub first : f.first ≡ g.first
  pub last : f.last ≡ g.last

pub range_injective : (f g : FunctionRange) → f.first < 2 ^ 16 → f.last < 2 ^ 16 → g.first < 2 ^ 16 → g.last < 2 ^ 16 → range_line f ≡ range_line g → SameRange f g
range_injective f g ff fl gf gl e =
    let s = cut_end f.name (range_words f.first f.last) g.name (range_words g.first g.last) (append_cancel_left (codes "func ") (f.name ++ range_words f.first f.last) (g.name ++ range_words g.first g.last) e) refl in
    let one : hex4 f.first ≡ hex4 g.first = cc s.1 in
    let two : hex4 f.last ≡ hex4 g.last = cc s.1 in
    record { name = s.0; first = hex4_injective f.first g.first ff gf one; last = hex4_injective f.last g.last fl gl two }

pub last_no_range : (f : FunctionRange) → last_line ≢ range_line f
last_no_range f e = cc
