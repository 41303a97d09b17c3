-- The lines of a file, and those that aren't blank.
use Rattle.std.proofs.Common.{◌≡◌, ℕ, zero, suc, ◌+◌, ◌-◌, ◌<◌, ◌≤◌, List, [], ◌∷◌, ◌++◌, length, take, drop, refl, sym, ap, ◌∙◌, arith, append-nil, take-append-drop, add-one}
use Rattle.std.specs.Str.Lines.{lines}
use Rattle.std.proofs.lemmas.List.{length-drop}
use Rattle.text_base.specs.FilledLines.{filled, filled_to, IsLeft, HasRead, HasReadAll}

-- ---- the lines that aren't blank

pub filled-append : (xs ys : List (List ℕ)) → filled (xs ++ ys) ≡ filled xs ++ filled ys
filled-append [] ys = refl
filled-append ([] ∷ xs) ys = filled-append xs ys
filled-append ((b ∷ bs) ∷ xs) ys = ap (λ l. (b ∷ bs) ∷ l) (filled-append xs ys)

pub filled_one : (line : List ℕ) → 0 < length line → filled (line ∷ []) ≡ line ∷ []
filled_one [] some = absurd (omega arith)
filled_one (b ∷ bs) some = refl

pub filled_none : (line : List ℕ) → length line ≤ 0 → filled (line ∷ []) ≡ []
filled_none [] none = refl
filled_none (b ∷ bs) none = absurd (omega arith)

pub filled_split : (count : ℕ) (all : List (List ℕ)) → filled all ≡ filled (take count all) ++ filled (drop count all)
filled_split count all = ap filled (sym (take-append-drop count all)) ∙ filled-append (take count all) (drop count all)

-- one line more
take_next : (count : ℕ) (all more : List (List ℕ)) (line : List ℕ) → drop count all ≡ line ∷ more → (take (suc count) all ≡ take count all ++ line ∷ []) × (drop (suc count) all ≡ more) × (count < length all)
take_next zero [] more line e = absurd cc
take_next (suc count) [] more line e = absurd cc
take_next zero (l ∷ all) more line e =
    let first : l ≡ line = cc in
    (ap (λ x. x ∷ []) first, (let rest : all ≡ more = cc in rest), omega arith)
take_next (suc count) (l ∷ all) more line e =
    let h = take_next count all more line e in
    (ap (λ x. l ∷ x) h.0, h.1, omega (arith, h.2))

pub take_more : (count : ℕ) (all more : List (List ℕ)) (line : List ℕ) → drop count all ≡ line ∷ more → (take (count + 1) all ≡ take count all ++ line ∷ []) × (drop (count + 1) all ≡ more) × (count < length all)
take_more count all more line e =
    let h = take_next count all more line e in
    (ap (λ n. take n all) (add-one count) ∙ h.0, ap (λ n. drop n all) (add-one count) ∙ h.1, h.2)

-- ---- the lines read so far

pub left_start : (bytes : List ℕ) → IsLeft bytes 0 bytes
left_start bytes = record { cut = refl; there = omega arith; few = omega arith }

pub left_more : (bytes rest after line : List ℕ) (number : ℕ) → IsLeft bytes number rest → lines rest ≡ line ∷ lines after → length after < length rest → IsLeft bytes (number + 1) after
left_more bytes rest after line number s cut shorter =
    let h = take_more number (lines bytes) (lines after) line (sym s.cut ∙ cut) in
    record { cut = sym h.1; there = omega (arith, h.2); few = omega (arith, s.few) }

-- blank lines are passed over since some lines were read
pub record Passed (bytes : List ℕ) (start number : ℕ) (rest : List ℕ) : Type 0 where
  pub left : IsLeft bytes number rest
  pub blanks : filled_to number bytes ≡ filled_to start bytes

pub passed_blank : (bytes rest after line : List ℕ) (start number : ℕ) → Passed bytes start number rest → lines rest ≡ line ∷ lines after → length after < length rest → length line ≤ 0 → Passed bytes start (number + 1) after
passed_blank bytes rest after line start number s cut shorter none =
    let h = take_more number (lines bytes) (lines after) line (sym s.left.cut ∙ cut) in
    record {
      left = left_more bytes rest after line number s.left cut shorter;
      blanks =
          ap filled h.0
          ∙ filled-append (take number (lines bytes)) (line ∷ [])
          ∙ ap (λ l. filled_to number bytes ++ l) (filled_none line none)
          ∙ append-nil (filled_to number bytes)
          ∙ s.blanks;
    }

pub passed_line : (bytes rest after line : List ℕ) (start number : ℕ) → Passed bytes start number rest → lines rest ≡ line ∷ lines after → length after < length rest → 0 < length line → HasRead (filled_to start bytes) line (record { bytes = bytes; number = number + 1 })
passed_line bytes rest after line start number s cut shorter some =
    let h = take_more number (lines bytes) (lines after) line (sym s.left.cut ∙ cut) in
    record {
      from_one = omega arith;
      there = omega (arith, h.2);
      front = ap (λ n. filled_to n bytes) (let e : number + 1 - 1 ≡ number = omega arith in e) ∙ s.blanks;
      all =
          ap filled h.0
          ∙ filled-append (take number (lines bytes)) (line ∷ [])
          ∙ ap (λ l. filled_to number bytes ++ l) (filled_one line some)
          ∙ ap (λ l. l ++ line ∷ []) s.blanks;
    }

drop_nil : (count : ℕ) (all : List (List ℕ)) → drop count all ≡ [] → length all ≤ count
drop_nil count all e = omega (arith, ap length e, length-drop count all)

pub passed_all : (bytes rest : List ℕ) (start number : ℕ) → Passed bytes start number rest → rest ≡ [] → HasReadAll (filled_to start bytes) (record { bytes = bytes; number = number })
passed_all bytes rest start number s none =
    let le = drop_nil number (lines bytes) (sym s.left.cut ∙ ap lines none) in
    record { there = omega (arith, s.left.there); all = s.blanks }
