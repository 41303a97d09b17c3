-- The numbers of a list.
use Rattle.std.proofs.Common.{◌≡◌, ◌≢◌, ℕ, ◌/◌, ◌%◌, ◌<◌, ◌^◌, min, List, [], ◌∷◌, ◌++◌, refl, sym, ap, ◌∙◌, arith, append_assoc, append-nil}
use Rattle.std.specs.Prelude.{decimal, codes}
use Rattle.std.specs.List.{AllByRecursion}
use Rattle.std.proofs.lemmas.Bool.Decides.{nat_tests}
use Rattle.std.proofs.lemmas.List.{map-append}
use Rattle.std.proofs.lemmas.List.Concat.{flat_map-append}
use Rattle.text_base.specs.Lines.{Lacks}
use Rattle.lay_lines.specs.BlockText.{spaced}
use Rattle.text_base.specs.Fields.{IsSpacedOff}
use Rattle.text_base.proofs.Numbers.{same_front, same_number, same_behind}
use Rattle.lay_lines.proofs.Blocks.{spaced_is_off}
use Rattle.text_base.specs.Hex.{hex_digit, hex4}
use Rattle.lay_lines.specs.ListText.{list_line, capped, Spells, ListsSo}

abbrev Fit : List ℕ → Type 0
Fit numbers = AllByRecursion (λ n. n < 2 ^ 64) numbers

-- the numbers that are read so far, and what is left of the line
pub record NumbersSoFar (bytes rest kept : List ℕ) : Type 0 where
  pub numbers : List ℕ
  pub fit : AllByRecursion (λ n. n < 2 ^ 64) numbers
  pub text : bytes ≡ spaced numbers ++ rest
  pub off : IsSpacedOff rest
  pub are_kept : kept ≡ capped numbers

fit-push : (xs : List ℕ) (x : ℕ) → Fit xs → x < 2 ^ 64 → Fit (xs ++ x ∷ [])
fit-push [] x a lt = (lt, tt {0})
fit-push (y ∷ xs) x a lt = (a.0, fit-push xs x a.1 lt)

pub numbers_more : (bytes rest after kept new : List ℕ) (n : ℕ) → NumbersSoFar bytes rest kept → n < 2 ^ 64 → IsSpacedOff after → rest ≡ 32 ∷ (decimal n ++ after) → new ≡ kept ++ min n 255 ∷ [] → NumbersSoFar bytes after new
numbers_more bytes rest after kept new n s lt p e pushed = record {
  numbers = s.numbers ++ n ∷ [];
  fit = fit-push s.numbers n s.fit lt;
  text =
      s.text
      ∙ ap (λ t. spaced s.numbers ++ t) e
      ∙ sym (append_assoc (spaced s.numbers) (32 ∷ decimal n) after)
      ∙ ap (λ t. t ++ after) (ap (λ t. spaced s.numbers ++ t) (sym (append-nil (32 ∷ decimal n))) ∙ sym (flat_map-append (λ m. 32 ∷ decimal m) s.numbers (n ∷ [])));
  off = p;
  are_kept = pushed ∙ ap (λ k. k ++ min n 255 ∷ []) s.are_kept ∙ sym (map-append (λ m. min m 255) s.numbers (n ∷ []));
}

spaced_off : (numbers rest : List ℕ) → IsSpacedOff rest → IsSpacedOff (spaced numbers ++ rest)
spaced_off [] rest p = p
spaced_off (n ∷ ns) rest p = refl

-- where some numbers are read, others don't go on
cut_short : (all front rest : List ℕ) → Fit all → Fit front → IsSpacedOff rest → rest ≢ [] → ((n : ℕ) (after : List ℕ) → n < 2 ^ 64 → IsSpacedOff after → rest ≢ 32 ∷ (decimal n ++ after)) → spaced all ≢ spaced front ++ rest
cut_short [] [] rest a f p some none e = some (sym e)
cut_short (x ∷ xs) [] rest a f p some none e = none x (spaced xs) a.0 (spaced_is_off xs) (sym e)
cut_short [] (y ∷ ys) rest a f p some none e = absurd cc
cut_short (x ∷ xs) (y ∷ ys) rest a f p some none e =
    let inner : decimal x ++ spaced xs ≡ (decimal y ++ spaced ys) ++ rest = cc in
    let same = same_number x y (spaced xs) (spaced ys ++ rest) a.0 f.0 (spaced_is_off xs) (spaced_off ys rest p) (inner ∙ append_assoc (decimal y) (spaced ys) rest) in
    cut_short xs ys rest a.1 f.1 p some none same.1

pub no_numbers : (bytes rest kept : List ℕ) → NumbersSoFar bytes rest kept → rest ≢ [] → ((n : ℕ) (after : List ℕ) → n < 2 ^ 64 → IsSpacedOff after → rest ≢ 32 ∷ (decimal n ++ after)) → (all : List ℕ) → AllByRecursion (λ n. n < 2 ^ 64) all → bytes ≢ spaced all
no_numbers bytes rest kept s some none all fit e = cut_short all s.numbers rest fit s.fit s.off some none (sym e ∙ s.text)

-- ---- fields

digit_no_space : (d : ℕ) → hex_digit d ≢ 32
digit_no_space d e = grind (arith, nat_tests)

hex_lacks : (w : ℕ) → Lacks 32 (hex4 w)
hex_lacks w = (digit_no_space (w / 4096), (digit_no_space (w / 256 % 16), (digit_no_space (w / 16 % 16), (digit_no_space (w % 16), tt {0}))))

-- the base and the numbers of a list's line
pub list_front : (line fields digits rest all : List ℕ) (base : ℕ) → line ≡ codes "list " ++ fields → Lacks 32 digits → IsSpacedOff rest → fields ≡ digits ++ rest → line ≡ list_line base all → (digits ≡ hex4 base) × (rest ≡ spaced all)
list_front line fields digits rest all base f h p b e =
    same_front digits (hex4 base) rest (spaced all) h (hex_lacks base) p (spaced_is_off all) (sym b ∙ same_behind (codes "list ") fields (hex4 base ++ spaced all) (sym f ∙ e))

pub list_is : (line fields digits rest kept : List ℕ) (base : ℕ) → line ≡ codes "list " ++ fields → fields ≡ digits ++ rest → digits ≡ hex4 base → Spells rest kept → ListsSo line base kept
list_is line fields digits rest kept base f b d s = record {
  numbers = s.numbers;
  fit = s.fit;
  text = f ∙ ap (λ t. codes "list " ++ t) (b ∙ ap (λ t. t ++ rest) d ∙ ap (λ t. hex4 base ++ t) s.text);
  is_kept = s.is_kept;
}
