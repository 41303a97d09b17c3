-- Lines, cut off one by one.
use Rattle.std.proofs.Common.{◌≡◌, ℕ, ◌<◌, Bool, true, false, cond, ◌==◌, if◌then◌else◌, List, [], ◌∷◌, length, Some, None, refl, sym, ap, ◌∙◌, arith}
use Rattle.std.specs.List.{onto_first, slice_split}
use Rattle.std.specs.Str.Lines.{lines, lines_of_parts, strip_carriage_return}
use Rattle.std.proofs.lemmas.List.Splits.{length-slice_split}
use Rattle.std.proofs.lemmas.Bool.Decides.{nat_tests}
use Rattle.c25_asm.specs.Cuts.{before, behind}

module _ (test : ℕ → Bool) where
  split_cut : (bs rest : List ℕ) → behind test bs ≡ Some rest → slice_split test bs ≡ before test bs ∷ slice_split test rest
  split_cut [] rest e = absurd cc
  split_cut (b ∷ bs) rest e = by (test b) (split_cut bs rest) e
    where
      by : (t : Bool) → (behind test bs ≡ Some rest → slice_split test bs ≡ before test bs ∷ slice_split test rest) → (if t then Some bs else behind test bs) ≡ Some rest
          → cond t ([] ∷ slice_split test bs) (onto_first b (slice_split test bs)) ≡ (if t then [] else b ∷ before test bs) ∷ slice_split test rest
      by true further same = let is : bs ≡ rest = cc in ap (λ l. [] ∷ slice_split test l) is
      by false further more = ap (onto_first b) (further more)

  split_whole : (bs : List ℕ) → behind test bs ≡ None → slice_split test bs ≡ before test bs ∷ []
  split_whole [] e = refl
  split_whole (b ∷ bs) e = by (test b) (split_whole bs) e
    where
      by : (t : Bool) → (behind test bs ≡ None → slice_split test bs ≡ before test bs ∷ []) → (if t then Some bs else behind test bs) ≡ None
          → cond t ([] ∷ slice_split test bs) (onto_first b (slice_split test bs)) ≡ (if t then [] else b ∷ before test bs) ∷ []
      by true further same = absurd cc
      by false further more = ap (onto_first b) (further more)

  before_whole : (bs : List ℕ) → behind test bs ≡ None → before test bs ≡ bs
  before_whole [] e = refl
  before_whole (b ∷ bs) e = by (test b) (before_whole bs) e
    where
      by : (t : Bool) → (behind test bs ≡ None → before test bs ≡ bs) → (if t then Some bs else behind test bs) ≡ None → (if t then [] else b ∷ before test bs) ≡ b ∷ bs
      by true further same = absurd cc
      by false further more = ap (λ l. b ∷ l) (further more)

  behind_shorter : (bs rest : List ℕ) → behind test bs ≡ Some rest → length rest < length bs
  behind_shorter [] rest e = absurd cc
  behind_shorter (b ∷ bs) rest e = by (test b) (behind_shorter bs rest) e
    where
      by : (t : Bool) → (behind test bs ≡ Some rest → length rest < length bs) → (if t then Some bs else behind test bs) ≡ Some rest → length rest < length (b ∷ bs)
      by true further same = let is : bs ≡ rest = cc in omega (arith, ap length is)
      by false further more = omega (arith, further more)

-- some part stands in front
some_part : (parts : List (List ℕ)) → 0 < length parts → (y : List ℕ) × ((more : List (List ℕ)) × (parts ≡ y ∷ more))
some_part [] some = absurd (omega arith)
some_part (y ∷ more) some = (y, (more, refl))

pub feed_shorter : (text rest : List ℕ) → Some rest ≡ behind (λ b. b == 10) text → length rest < length text
feed_shorter text rest e = behind_shorter (λ b. b == 10) text rest (sym e)

-- a line ends before a line feed
pub lines_front : (text front line rest : List ℕ) → front ≡ before (λ b. b == 10) text → Some rest ≡ behind (λ b. b == 10) text → line ≡ strip_carriage_return front
    → lines text ≡ line ∷ lines rest
lines_front text front line rest is e stripped =
    let some = some_part (slice_split (λ b. b == 10) rest) (omega (arith, length-slice_split (λ b. b == 10) rest)) in
    let parts = some.1.1 in
    ap lines_of_parts (split_cut (λ b. b == 10) text rest (sym e))
    ∙ ap (λ p. lines_of_parts (before (λ b. b == 10) text ∷ p)) parts
    ∙ ap (λ p. strip_carriage_return (before (λ b. b == 10) text) ∷ lines_of_parts p) (sym parts)
    ∙ ap (λ l. strip_carriage_return l ∷ lines rest) (sym is)
    ∙ ap (λ l. l ∷ lines rest) (sym stripped)

last_whole : (line : List ℕ) → 0 < length line → lines_of_parts (line ∷ []) ≡ line ∷ []
last_whole [] some = absurd (omega arith)
last_whole (b ∷ line) some = ap (λ t. cond t [] ((b ∷ line) ∷ [])) (let e : (length (b ∷ line) == 0) ≡ false = grind (arith, nat_tests) in e)

-- the last line may lack it
pub lines_last : (text front : List ℕ) → 0 < length text → front ≡ before (λ b. b == 10) text → None ≡ behind (λ b. b == 10) text → lines text ≡ front ∷ lines []
lines_last text front some is e =
    let whole : before (λ b. b == 10) text ≡ text = before_whole (λ b. b == 10) text (sym e) in
    ap lines_of_parts (split_whole (λ b. b == 10) text (sym e))
    ∙ last_whole (before (λ b. b == 10) text) (omega (arith, some, ap length whole))
    ∙ ap (λ l. l ∷ []) (sym is)
