-- A text in which reading stops is no image's, and the line is the first faulty one.
use Rattle.std.proofs.Common.{◌≡◌, ℕ, ◌+◌, ◌-◌, ◌<◌, ◌≤◌, List, [], ◌∷◌, ◌++◌, length, refl, sym, ap, subst, ◌∙◌, inl, inr, arith, append_assoc, append-nil, length-append}
use Rattle.std.specs.Prelude.{◌⊎◌}
use Rattle.c25_isa.specs.declared.image.FunctionRange.{FunctionRange}
use Rattle.c25_isa.specs.Image.{Contents, IsRange}
use Rattle.text_base.specs.Lines.{with_feed, lines_text}
use Rattle.c25_image.specs.ImageText.{first_line, last_line, size_line, range_line, open_lines, image_lines, image_text}
use Rattle.c25_image.specs.ImageReading.{IsNamed, IsStuck}
use Rattle.c25_image.specs.ImageFaults.{IsWhole, IsNoText, Begins, StatesTooMany, HasBadRange, IsFirstFaulty, behind}
use Rattle.c25_image.proofs.ImageLoops.{same_line, lines_text-append, lines_text-one, two_lines}
use Rattle.c25_image.proofs.ImageLines.{NoFeeds, NoFeeds-front, NoFeeds-back, size_no_feed, first_no_feed, range_no_feed, open_no_feeds, image_no_feeds, GoesOn, lines_cut, nothing_left, range_injective, size_injective, last_no_range}
use Rattle.c25_image.proofs.ImageNext.{Next, Leads, NextRange, open_next, range_fits}

-- reading stops behind some lines with which an image begins: none that may follow stands there
pub record Stops (bytes : List ℕ) (lines : List (List ℕ)) (Allowed : List ℕ → Type 0) : Type 0 where
  pub contents : Contents
  pub whole : IsWhole contents
  pub back : List (List ℕ)
  pub begun : image_lines contents ≡ lines ++ back
  pub rest : List ℕ
  pub text : bytes ≡ lines_text lines ++ rest
  pub leads : Leads lines Allowed
  pub ranges : (c : Contents) → IsWhole c → open_lines c ≡ lines → (f : FunctionRange) → IsNamed f → Allowed (range_line f)
  pub stuck : IsStuck Allowed rest

stops_no_feeds : (bytes : List ℕ) (lines : List (List ℕ)) (Allowed : List ℕ → Type 0) → Stops bytes lines Allowed → NoFeeds lines
stops_no_feeds bytes lines Allowed s = NoFeeds-front lines s.back (subst NoFeeds s.begun (image_no_feeds s.contents s.whole))

-- what stands there begins with no allowed line
no_next : (Allowed : List ℕ → Type 0) (rest behind : List ℕ) (more back : List (List ℕ)) → IsStuck Allowed rest → 0 < length more → NoFeeds more → rest ≡ lines_text more ++ behind → Next Allowed (more ++ back) → ⊥
no_next Allowed rest behind [] back stuck some feeds text next = absurd (omega arith)
no_next Allowed rest behind (d ∷ more) back stuck some feeds text next =
    let is = next.is in
    let same : next.line ≡ d = cc in
    stuck d (lines_text more ++ behind) feeds.0 (text ∙ append_assoc (with_feed d) (lines_text more) behind) (subst Allowed same next.allowed)

pub stops_before : (bytes : List ℕ) (lines : List (List ℕ)) (Allowed : List ℕ → Type 0) → Stops bytes lines Allowed → Begins (length lines) bytes
stops_before bytes lines Allowed s = record { contents = s.contents; whole = s.whole; front = lines; back = s.back; lines = s.begun; count = refl; rest = s.rest; text = s.text }

pub stops_here : (bytes : List ℕ) (lines : List (List ℕ)) (Allowed : List ℕ → Type 0) → Stops bytes lines Allowed → Begins (length lines + 1) bytes → ⊥
stops_here bytes lines Allowed s b =
    let feeds = NoFeeds-front b.front b.back (subst NoFeeds b.lines (image_no_feeds b.contents b.whole)) in
    pick feeds (lines_cut lines b.front s.rest b.rest (stops_no_feeds bytes lines Allowed s) feeds (sym s.text ∙ b.text))
  where
    pick : NoFeeds b.front → GoesOn lines b.front s.rest b.rest ⊎ GoesOn b.front lines b.rest s.rest → ⊥
    pick feeds (inl g) =
        let one : 0 < length g.more = omega (arith, ap length g.lines, length-append lines g.more, b.count) in
        no_next Allowed s.rest b.rest g.more b.back s.stuck one (NoFeeds-back lines g.more (subst NoFeeds g.lines feeds)) g.text
        (s.leads b.contents (g.more ++ b.back) b.whole (b.lines ∙ ap (λ l. l ++ b.back) g.lines ∙ append_assoc lines g.more b.back))
    pick feeds (inr g) = absurd (omega (arith, ap length g.lines, length-append b.front g.more, b.count))

pub stops_no_text : (bytes : List ℕ) (lines : List (List ℕ)) (Allowed : List ℕ → Type 0) → Stops bytes lines Allowed → IsNoText bytes
stops_no_text bytes lines Allowed s c w e = pick (lines_cut lines (image_lines c) s.rest [] (stops_no_feeds bytes lines Allowed s) (image_no_feeds c w) (sym s.text ∙ e ∙ sym (append-nil (image_text c))))
  where
    pick : GoesOn lines (image_lines c) s.rest [] ⊎ GoesOn (image_lines c) lines [] s.rest → ⊥
    pick (inl g) =
        let next = s.leads c g.more w g.lines in
        no_next Allowed s.rest [] g.more [] s.stuck (omega (arith, ap length next.is)) (NoFeeds-back lines g.more (subst NoFeeds g.lines (image_no_feeds c w))) g.text (subst (Next Allowed) (sym (append-nil g.more)) next)
    pick (inr g) =
        let none = (nothing_left g.more s.rest g.text).0 in
        let next = s.leads c [] w (sym (append-nil (image_lines c)) ∙ ap (λ m. image_lines c ++ m) (sym none) ∙ sym g.lines ∙ sym (append-nil lines)) in
        let is = next.is in
        cc

-- the line of a function whose range breaks the rule may not follow
pub bad_next : (from count : ℕ) (f : FunctionRange) (d : List ℕ) (tail : List (List ℕ)) → count ≤ 65536 → IsNamed f → (IsRange from count f → ⊥) → range_line f ≡ d → NextRange from count (d ∷ tail) → ⊥
bad_next from count f d tail short named breaks is (inl e) = last_no_range f cc
bad_next from count f d tail short named breaks is (inr h) =
    let ng = range_fits from count h.0 short h.1 in
    let e = h.2.1 in
    let s = range_injective f h.0 named.first named.last ng.first ng.last cc in
    let r = h.1 in
    breaks (record { name = named.name; behind = omega (arith, s.first, r.behind); rises = omega (arith, s.first, s.last, r.rises); within = omega (arith, s.last, r.within) })

pub bad_text : (bytes : List ℕ) (line : ℕ) (h : HasBadRange bytes line) → bytes ≡ lines_text (open_lines h.contents) ++ (with_feed (range_line h.function) ++ h.rest)
bad_text bytes line h =
    h.text ∙ lines_text-append (open_lines h.contents) (range_line h.function ∷ []) h.rest ∙ ap (λ t. lines_text (open_lines h.contents) ++ t) (lines_text-one (range_line h.function) h.rest)

pub stops_not_range : (bytes : List ℕ) (lines : List (List ℕ)) (Allowed : List ℕ → Type 0) → Stops bytes lines Allowed → (other : ℕ) → HasBadRange bytes other → ⊥
stops_not_range bytes lines Allowed s other h =
    pick (lines_cut lines (open_lines h.contents) s.rest (with_feed (range_line h.function) ++ h.rest) (stops_no_feeds bytes lines Allowed s) (open_no_feeds h.contents h.whole) (sym s.text ∙ bad_text bytes other h))
  where
    here : open_lines h.contents ≡ lines → s.rest ≡ with_feed (range_line h.function) ++ h.rest → ⊥
    here same e = s.stuck (range_line h.function) h.rest (range_no_feed h.function h.named.name) e (s.ranges h.contents h.whole same h.function h.named)

    shorter : (more : List (List ℕ)) → open_lines h.contents ≡ lines ++ more → s.rest ≡ lines_text more ++ (with_feed (range_line h.function) ++ h.rest) → ⊥
    shorter [] is text = here (is ∙ append-nil lines) text
    shorter (d ∷ more) is text =
        no_next Allowed s.rest (with_feed (range_line h.function) ++ h.rest) (d ∷ more) (last_line ∷ []) s.stuck (omega arith) (NoFeeds-back lines (d ∷ more) (subst NoFeeds is (open_no_feeds h.contents h.whole))) text
        (s.leads h.contents ((d ∷ more) ++ last_line ∷ []) h.whole (ap (λ l. l ++ last_line ∷ []) is ∙ append_assoc lines (d ∷ more) (last_line ∷ [])))

    longer : (more : List (List ℕ)) → lines ≡ open_lines h.contents ++ more → with_feed (range_line h.function) ++ h.rest ≡ lines_text more ++ s.rest → ⊥
    longer [] is text = here (sym (is ∙ append-nil (open_lines h.contents))) (sym text)
    longer (d ∷ more) is text =
        let feeds = NoFeeds-back (open_lines h.contents) (d ∷ more) (subst NoFeeds is (stops_no_feeds bytes lines Allowed s)) in
        let same = same_line (range_line h.function) d h.rest (lines_text more ++ s.rest) (range_no_feed h.function h.named.name) feeds.0 (text ∙ append_assoc (with_feed d) (lines_text more) s.rest) in
        bad_next (behind 0 h.contents.functions) (length h.contents.words) h.function d (more ++ s.back) h.whole.image.short h.named h.breaks same.0
        (open_next h.contents s.contents (d ∷ more ++ s.back) h.whole s.whole (s.begun ∙ ap (λ l. l ++ s.back) is ∙ append_assoc (open_lines h.contents) (d ∷ more) s.back))

    pick : GoesOn lines (open_lines h.contents) s.rest (with_feed (range_line h.function) ++ h.rest) ⊎ GoesOn (open_lines h.contents) lines (with_feed (range_line h.function) ++ h.rest) s.rest → ⊥
    pick (inl g) = shorter g.more g.lines g.text
    pick (inr g) = longer g.more g.lines g.text

pub stops_faulty : (bytes : List ℕ) (lines : List (List ℕ)) (Allowed : List ℕ → Type 0) (line : ℕ) → Stops bytes lines Allowed → line ≡ length lines + 1 → ((count : ℕ) → StatesTooMany bytes count → ⊥) → IsFirstFaulty bytes line
stops_faulty bytes lines Allowed line s number not_long = record {
  wrong = stops_no_text bytes lines Allowed s;
  from_one = omega arith;
  before = subst (λ n. Begins n bytes) (let e : length lines ≡ line - 1 = omega arith in e) (stops_before bytes lines Allowed s);
  here = λ b. stops_here bytes lines Allowed s (subst (λ n. Begins n bytes) number b);
  not_long = not_long;
  not_range = stops_not_range bytes lines Allowed s;
}

-- ---- a size

pub too_many : (bytes : List ℕ) (n : ℕ) (more : List (List ℕ)) (rest : List ℕ) → n ≤ 65536 → bytes ≡ lines_text (first_line ∷ size_line n ∷ more) ++ rest → (count : ℕ) → StatesTooMany bytes count → ⊥
too_many bytes n more rest short is count t =
    let one = same_line first_line first_line (with_feed (size_line n) ++ (lines_text more ++ rest)) (with_feed (size_line count) ++ t.rest) first_no_feed first_no_feed (sym (is ∙ lines_text-append (first_line ∷ size_line n ∷ []) more rest ∙ two_lines first_line (size_line n) (lines_text more ++ rest)) ∙ t.text ∙ two_lines first_line (size_line count) t.rest) in
    let two = same_line (size_line n) (size_line count) (lines_text more ++ rest) t.rest (size_no_feed n (omega arith)) (size_no_feed count t.fits) one.1 in
    let same = size_injective n count (omega arith) t.fits two.0 in
    omega (arith, t.above)

pub long_no_text : (bytes : List ℕ) (count : ℕ) → StatesTooMany bytes count → IsNoText bytes
long_no_text bytes count t c w e = too_many bytes (length c.words) _ [] w.image.short (e ∙ sym (append-nil (image_text c))) count t

pub range_no_text : (bytes : List ℕ) (line : ℕ) → HasBadRange bytes line → IsNoText bytes
range_no_text bytes line h c w e =
    pick (lines_cut (open_lines h.contents) (image_lines c) (with_feed (range_line h.function) ++ h.rest) [] (open_no_feeds h.contents h.whole) (image_no_feeds c w) (sym (bad_text bytes line h) ∙ e ∙ sym (append-nil (image_text c))))
  where
    shorter : (more : List (List ℕ)) → image_lines c ≡ open_lines h.contents ++ more → with_feed (range_line h.function) ++ h.rest ≡ lines_text more ++ [] → ⊥
    shorter [] is text = absurd cc
    shorter (d ∷ more) is text =
        let feeds = NoFeeds-back (open_lines h.contents) (d ∷ more) (subst NoFeeds is (image_no_feeds c w)) in
        let same = same_line (range_line h.function) d h.rest (lines_text more ++ []) (range_no_feed h.function h.named.name) feeds.0 (text ∙ append_assoc (with_feed d) (lines_text more) []) in
        bad_next (behind 0 h.contents.functions) (length h.contents.words) h.function d more h.whole.image.short h.named h.breaks same.0 (open_next h.contents c (d ∷ more) h.whole w is)

    pick : GoesOn (open_lines h.contents) (image_lines c) (with_feed (range_line h.function) ++ h.rest) [] ⊎ GoesOn (image_lines c) (open_lines h.contents) [] (with_feed (range_line h.function) ++ h.rest) → ⊥
    pick (inl g) = shorter g.more g.lines g.text
    pick (inr g) = let none = (nothing_left g.more _ g.text).1 in cc
