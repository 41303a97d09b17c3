-- A text has one fault at most.
use Rattle.std.proofs.Common.{◌≡◌, ◌≢◌, ℕ, zero, suc, ◌+◌, ◌-◌, ◌<◌, ◌≤◌, List, [], ◌∷◌, ◌++◌, length, refl, sym, ap, subst, ◌∙◌, inl, inr, arith, append_assoc, length-append}
use Rattle.std.specs.Prelude.{◌⊎◌}
use Rattle.std.proofs.lemmas.Bool.{cases_lt}
use Rattle.text_base.specs.Lines.{with_feed, lines_text}
use Rattle.c25_image.specs.ImageText.{first_line, last_line, size_line, range_line, open_lines}
use Rattle.c25_image.specs.ImageFaults.{IsNoText, Begins, StatesTooMany, HasBadRange, IsFirstFaulty, Says, behind}
use Rattle.c25_image.specs.declared.fault.ImageFault.{ImageFault}
use Rattle.c25_image.specs.declared.fault.ImageFault.TheVariants as faults
use Rattle.c25_image.proofs.ImageLoops.{same_line, lines_text-append, two_lines}
use Rattle.c25_image.proofs.ImageLines.{NoFeeds, NoFeeds-back, first_no_feed, size_no_feed, range_no_feed, open_no_feeds, GoesOn, lines_cut, size_injective}
use Rattle.c25_image.proofs.ImageNext.{open_next}
use Rattle.c25_image.proofs.ImageRefused.{bad_next, bad_text, too_many, long_no_text, range_no_text}

-- the lines before the last
front_one : (lines : List (List ℕ)) (n : ℕ) → length lines ≡ n + 1 → (front : List (List ℕ)) × ((last : List ℕ) × (lines ≡ front ++ last ∷ []))
front_one [] n e = absurd (omega arith)
front_one (l ∷ []) n e = ([], (l, refl))
front_one (l ∷ m ∷ lines) n e =
    let r = front_one (m ∷ lines) (n - 1) (omega arith) in
    let e = r.1.1 in
    (l ∷ r.0, (r.1.0, cc))

begins_less : (n : ℕ) (bytes : List ℕ) → Begins (n + 1) bytes → Begins n bytes
begins_less n bytes b =
    let r = front_one b.front n b.count in
    record {
      contents = b.contents;
      whole = b.whole;
      front = r.0;
      back = r.1.0 ∷ b.back;
      lines = b.lines ∙ ap (λ l. l ++ b.back) r.1.1 ∙ append_assoc r.0 (r.1.0 ∷ []) b.back;
      count = omega (arith, ap length r.1.1, length-append r.0 (r.1.0 ∷ []), b.count);
      rest = lines_text (r.1.0 ∷ []) ++ b.rest;
      text = b.text ∙ ap (λ l. lines_text l ++ b.rest) r.1.1 ∙ lines_text-append r.0 (r.1.0 ∷ []) b.rest;
    }

begins_down : (more n : ℕ) (bytes : List ℕ) (m : ℕ) → m ≡ n + more → Begins m bytes → Begins n bytes
begins_down zero n bytes m e b = subst (λ k. Begins k bytes) (let f : m ≡ n = omega arith in f) b
begins_down (suc more) n bytes m e b = begins_down more n bytes (n + more) refl (begins_less (n + more) bytes (subst (λ k. Begins k bytes) (let f : m ≡ n + more + 1 = omega arith in f) b))

not_earlier : (bytes : List ℕ) (m n : ℕ) → m < n → IsFirstFaulty bytes m → IsFirstFaulty bytes n → ⊥
not_earlier bytes m n lt f g = f.here (begins_down (n - 1 - m) m bytes (n - 1) (omega (arith, lt)) g.before)

line_same : (bytes : List ℕ) (m n : ℕ) → IsFirstFaulty bytes m → IsFirstFaulty bytes n → m ≡ n
line_same bytes m n f g = pick (cases_lt m n) (cases_lt n m)
  where
    pick : (m < n) ⊎ (n ≤ m) → (n < m) ⊎ (m ≤ n) → m ≡ n
    pick (inl a) other = absurd (not_earlier bytes m n a f g)
    pick (inr a) (inl b) = absurd (not_earlier bytes n m b g f)
    pick (inr a) (inr b) = omega arith

count_same : (bytes : List ℕ) (m n : ℕ) → StatesTooMany bytes m → StatesTooMany bytes n → m ≡ n
count_same bytes m n s t =
    let one = same_line first_line first_line (with_feed (size_line m) ++ s.rest) (with_feed (size_line n) ++ t.rest) first_no_feed first_no_feed (sym (s.text ∙ two_lines first_line (size_line m) s.rest) ∙ t.text ∙ two_lines first_line (size_line n) t.rest) in
    let two = same_line (size_line m) (size_line n) s.rest t.rest (size_no_feed m s.fits) (size_no_feed n t.fits) one.1 in
    size_injective m n s.fits t.fits two.0

long_or_range : (bytes : List ℕ) (count line : ℕ) → StatesTooMany bytes count → HasBadRange bytes line → ⊥
long_or_range bytes count line t h = too_many bytes (length h.contents.words) _ h.rest h.whole.image.short h.text count t

no_more : (bytes : List ℕ) (m n : ℕ) (f : HasBadRange bytes m) (g : HasBadRange bytes n) (more : List (List ℕ)) → open_lines g.contents ≡ open_lines f.contents ++ more → with_feed (range_line f.function) ++ f.rest ≡ lines_text more ++ (with_feed (range_line g.function) ++ g.rest) → m ≡ n
no_more bytes m n f g [] is text = omega (arith, f.count, g.count, ap length is, length-append {A = List ℕ} (open_lines f.contents) [])
no_more bytes m n f g (d ∷ more) is text =
    let feeds = NoFeeds-back (open_lines f.contents) (d ∷ more) (subst (λ l. NoFeeds l) is (open_no_feeds g.contents g.whole)) in
    let rest = with_feed (range_line g.function) ++ g.rest in
    let same = same_line (range_line f.function) d f.rest (lines_text more ++ rest) (range_no_feed f.function f.named.name) feeds.0 (text ∙ append_assoc (with_feed d) (lines_text more) rest) in
    absurd (bad_next (behind 0 f.contents.functions) (length f.contents.words) f.function d (more ++ last_line ∷ []) f.whole.image.short f.named f.breaks same.0
    (open_next f.contents g.contents (d ∷ more ++ last_line ∷ []) f.whole g.whole (ap (λ l. l ++ last_line ∷ []) is ∙ append_assoc (open_lines f.contents) (d ∷ more) (last_line ∷ []))))

range_same : (bytes : List ℕ) (m n : ℕ) → HasBadRange bytes m → HasBadRange bytes n → m ≡ n
range_same bytes m n f g =
    pick (lines_cut (open_lines f.contents) (open_lines g.contents) (with_feed (range_line f.function) ++ f.rest) (with_feed (range_line g.function) ++ g.rest) (open_no_feeds f.contents f.whole) (open_no_feeds g.contents g.whole) (sym (bad_text bytes m f) ∙ bad_text bytes n g))
  where
    pick : GoesOn (open_lines f.contents) (open_lines g.contents) (with_feed (range_line f.function) ++ f.rest) (with_feed (range_line g.function) ++ g.rest) ⊎ GoesOn (open_lines g.contents) (open_lines f.contents) (with_feed (range_line g.function) ++ g.rest) (with_feed (range_line f.function) ++ f.rest) → m ≡ n
    pick (inl o) = no_more bytes m n f g o.more o.lines o.text
    pick (inr o) = sym (no_more bytes n m g f o.more o.lines o.text)

-- a fault that isn't the want of memory says that the text is no image's
pub says_no_text : (bytes : List ℕ) (fault : ImageFault) → fault ≢ faults.NoMemory → Says bytes fault → IsNoText bytes
says_no_text bytes (faults.BadLine line) other s = s.wrong
says_no_text bytes (faults.TooLong count) other s = long_no_text bytes count s
says_no_text bytes (faults.BadRange line) other s = range_no_text bytes line s
says_no_text bytes faults.NoMemory other s = absurd (other refl)

-- and no other such fault says so
pub says_same : (bytes : List ℕ) (one two : ImageFault) → two ≢ faults.NoMemory → Says bytes one → Says bytes two → (one ≡ two) ⊎ (one ≡ faults.NoMemory)
says_same bytes faults.NoMemory two other s t = inr refl
says_same bytes one faults.NoMemory other s t = absurd (other refl)
says_same bytes (faults.BadLine m) (faults.BadLine n) other s t = inl (ap (λ k. faults.BadLine k) (line_same bytes m n s t))
says_same bytes (faults.BadLine m) (faults.TooLong n) other s t = absurd (s.not_long n t)
says_same bytes (faults.BadLine m) (faults.BadRange n) other s t = absurd (s.not_range n t)
says_same bytes (faults.TooLong m) (faults.BadLine n) other s t = absurd (t.not_long m s)
says_same bytes (faults.TooLong m) (faults.TooLong n) other s t = inl (ap (λ k. faults.TooLong k) (count_same bytes m n s t))
says_same bytes (faults.TooLong m) (faults.BadRange n) other s t = absurd (long_or_range bytes m n s t)
says_same bytes (faults.BadRange m) (faults.BadLine n) other s t = absurd (t.not_range m s)
says_same bytes (faults.BadRange m) (faults.TooLong n) other s t = absurd (long_or_range bytes n m t s)
says_same bytes (faults.BadRange m) (faults.BadRange n) other s t = inl (ap (λ k. faults.BadRange k) (range_same bytes m n s t))
