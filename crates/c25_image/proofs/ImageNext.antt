-- Which line may follow some lines of an image.
use Rattle.std.proofs.Common.{◌≡◌, ℕ, zero, suc, ◌+◌, ◌-◌, ◌*◌, ◌<◌, ◌≤◌, min, List, [], ◌∷◌, ◌++◌, length, take, drop, map, refl, sym, ap, subst, ◌∙◌, inl, inr, arith, append_assoc}
use Rattle.std.specs.Prelude.{◌⊎◌}
use Rattle.std.proofs.lemmas.List.{length-take, length-drop}
use Rattle.c25_isa.specs.declared.image.FunctionRange.{FunctionRange}
use Rattle.c25_isa.specs.Image.{Contents, AreRanges, IsRange}
use Rattle.c25_image.specs.ImageText.{first_line, last_line, size_line, word_line, word_lines, line_count, range_line, open_lines, image_lines}
use Rattle.c25_image.specs.ImageReading.{AreWords, IsNamed, IsRowOf, StatesSize}
use Rattle.c25_image.specs.ImageFaults.{IsWhole, behind}
use Rattle.c25_image.specs.ImageStops.{IsRangeOrLast}
use Rattle.c25_image.proofs.ImageLines.{range_injective, size_injective, last_no_range}

-- a first line, which is allowed
pub record Next (Allowed : List ℕ → Type 0) (lines : List (List ℕ)) : Type 0 where
  pub line : List ℕ
  pub more : List (List ℕ)
  pub is : lines ≡ line ∷ more
  pub allowed : Allowed line

-- behind these lines an image's go on with an allowed one
abbrev pub Leads : List (List ℕ) → (List ℕ → Type 0) → Type 0
Leads lines Allowed = (c : Contents) (tail : List (List ℕ)) → IsWhole c → image_lines c ≡ lines ++ tail → Next Allowed tail

-- ---- the head

pub leads_first : Leads [] (λ line. line ≡ first_line)
leads_first c tail w e = record { line = first_line; more = _; is = sym e; allowed = refl }

pub leads_second : Leads (first_line ∷ []) StatesSize
leads_second c tail w e = record {
  line = size_line (length c.words);
  more = (word_lines (line_count (length c.words)) c.words ++ map range_line c.functions) ++ last_line ∷ [];
  is = cc;
  allowed = record { count = length c.words; fits = omega (arith, w.image.short); text = refl };
}

-- ---- the words

AreWords-take : (n : ℕ) (words : List ℕ) → AreWords words → AreWords (take n words)
AreWords-take zero words h = tt {0}
AreWords-take (suc n) [] h = tt {0}
AreWords-take (suc n) (w ∷ ws) h = (h.0, AreWords-take n ws h.1)

AreWords-drop : (n : ℕ) (words : List ℕ) → AreWords words → AreWords (drop n words)
AreWords-drop zero words h = h
AreWords-drop (suc n) [] h = tt {0}
AreWords-drop (suc n) (w ∷ ws) h = AreWords-drop n ws h.1

rows_next : (lines total : ℕ) (all words : List ℕ) (behind_all tail : List (List ℕ)) → AreWords all → total ≡ line_count (length all) → 8 * lines < length all
    → word_lines total all ++ behind_all ≡ word_lines lines words ++ tail → Next (IsRowOf (min 8 (length all - 8 * lines))) tail
rows_next zero zero all words behind_all tail fit t more e = absurd (omega arith)
rows_next zero (suc total) all words behind_all tail fit t more e = record {
  line = word_line (take 8 all);
  more = word_lines total (drop 8 all) ++ behind_all;
  is = sym e;
  allowed = record {
    words = take 8 all;
    row = record { some = omega (arith, length-take 8 all); fit = AreWords-take 8 all fit };
    counted = omega (arith, length-take 8 all);
    text = refl;
  };
}
rows_next (suc lines) zero all words behind_all tail fit t more e = absurd (omega arith)
rows_next (suc lines) (suc total) all words behind_all tail fit t more e =
    let len = length-drop 8 all in
    let next = rows_next lines total (drop 8 all) (drop 8 words) behind_all tail (AreWords-drop 8 all fit) (omega arith) (omega arith) cc in
    let same : min 8 (length (drop 8 all) - 8 * lines) ≡ min 8 (length all - 8 * suc lines) = omega arith in
    subst (λ n. Next (IsRowOf n) tail) same next

pub leads_rows : (count lines : ℕ) (words : List ℕ) → count ≤ 65536 → 8 * lines < count → Leads (first_line ∷ size_line count ∷ word_lines lines words) (IsRowOf (min 8 (count - 8 * lines)))
leads_rows count lines words short more c tail w e =
    let same : length c.words ≡ count = size_injective (length c.words) count (omega (arith, w.image.short)) (omega arith) cc in
    let rows : word_lines (line_count (length c.words)) c.words ++ (map range_line c.functions ++ last_line ∷ []) ≡ word_lines lines words ++ tail =
    sym (append_assoc (word_lines (line_count (length c.words)) c.words) (map range_line c.functions) (last_line ∷ [])) ∙ cc e
    in
    subst (λ n. Next (IsRowOf (min 8 (n - 8 * lines))) tail) same
    (rows_next lines (line_count (length c.words)) c.words words (map range_line c.functions ++ last_line ∷ []) tail w.words refl (omega arith) rows)

-- ---- the functions

-- the last line alone, or that of a function that may follow
abbrev pub NextRange : ℕ → ℕ → List (List ℕ) → Type 0
NextRange from count tail = (tail ≡ last_line ∷ []) ⊎ ((f : FunctionRange) × IsRange from count f × ((more : List (List ℕ)) × (tail ≡ range_line f ∷ more)))

pub range_fits : (from count : ℕ) (f : FunctionRange) → count ≤ 65536 → IsRange from count f → IsNamed f
range_fits from count f short r = record { name = r.name; first = omega (arith, r.rises, r.within); last = omega (arith, r.within) }

ranges_next : (from count : ℕ) (all fs : List FunctionRange) (tail : List (List ℕ)) → count ≤ 65536 → AreRanges from count all → AreRanges from count fs
    → map range_line all ++ last_line ∷ [] ≡ map range_line fs ++ tail → NextRange (behind from fs) count tail
ranges_next from count [] [] tail short a h e = inl (sym e)
ranges_next from count (f ∷ all) [] tail short a h e = inr (f, a.0, (map range_line all ++ last_line ∷ [], sym e))
ranges_next from count [] (g ∷ fs) tail short a h e = absurd (last_no_range g cc)
ranges_next from count (f ∷ all) (g ∷ fs) tail short a h e =
    let nf = range_fits from count f short a.0 in
    let ng = range_fits from count g short h.0 in
    let s = range_injective f g nf.first nf.last ng.first ng.last cc in
    ranges_next (g.last + 1) count all fs tail short (subst (λ n. AreRanges (n + 1) count all) s.last a.1) h.1 cc

rows_cancel : (n : ℕ) (xs ys : List ℕ) (a b : List (List ℕ)) → word_lines n xs ++ a ≡ word_lines n ys ++ b → a ≡ b
rows_cancel zero xs ys a b e = e
rows_cancel (suc n) xs ys a b e = rows_cancel n (drop 8 xs) (drop 8 ys) a b cc

-- behind all but the last line of an image another's go on with a function that may follow, or end
pub open_next : (c d : Contents) (tail : List (List ℕ)) → IsWhole c → IsWhole d → image_lines d ≡ open_lines c ++ tail → NextRange (behind 0 c.functions) (length c.words) tail
open_next c d tail v w e =
    let n = length c.words in
    let same : length d.words ≡ n = size_injective (length d.words) n (omega (arith, w.image.short)) (omega (arith, v.image.short)) cc in
    let rows : (word_lines (line_count (length d.words)) d.words ++ map range_line d.functions) ++ last_line ∷ [] ≡ (word_lines (line_count n) c.words ++ map range_line c.functions) ++ tail = cc e in
    let one : word_lines (line_count n) d.words ++ (map range_line d.functions ++ last_line ∷ []) ≡ word_lines (line_count n) c.words ++ (map range_line c.functions ++ tail) =
    ap (λ k. word_lines (line_count k) d.words ++ (map range_line d.functions ++ last_line ∷ [])) (sym same)
    ∙ sym (append_assoc (word_lines (line_count (length d.words)) d.words) (map range_line d.functions) (last_line ∷ []))
    ∙ rows
    ∙ append_assoc (word_lines (line_count n) c.words) (map range_line c.functions) tail
    in
    ranges_next 0 n d.functions c.functions tail v.image.short (subst (λ k. AreRanges 0 k d.functions) same w.image.ranges) v.image.ranges (rows_cancel (line_count n) d.words c.words _ _ one)

allowed_next : (from count : ℕ) (tail : List (List ℕ)) → count ≤ 65536 → NextRange from count tail → Next IsRangeOrLast tail
allowed_next from count tail short (inl e) = record { line = last_line; more = []; is = e; allowed = inl refl }
allowed_next from count tail short (inr h) = record { line = range_line h.0; more = h.2.0; is = h.2.1; allowed = inr (h.0, range_fits from count h.0 short h.1, refl) }

pub leads_ranges : (c : Contents) → IsWhole c → Leads (open_lines c) IsRangeOrLast
leads_ranges c v d tail w e = allowed_next (behind 0 c.functions) (length c.words) tail v.image.short (open_next c d tail v w e)

-- behind the last line nothing follows
pub image_ends : (c d : Contents) (tail : List (List ℕ)) → IsWhole c → IsWhole d → image_lines d ≡ image_lines c ++ tail → tail ≡ []
image_ends c d tail v w e = pick (open_next c d (last_line ∷ tail) v w (e ∙ append_assoc (open_lines c) (last_line ∷ []) tail))
  where
    pick : NextRange (behind 0 c.functions) (length c.words) (last_line ∷ tail) → tail ≡ []
    pick (inl h) = cc
    pick (inr h) = absurd (last_no_range h.0 (let is = h.2.1 in cc))
