-- The lines of a text, one behind another.
use Rattle.std.proofs.Common.{◌≡◌, ◌≢◌, ℕ, ◌<◌, false, ◌==◌, cond, List, [], ◌∷◌, ◌++◌, length, refl, ap, sym, ◌∙◌, arith, append_assoc}
use Rattle.std.specs.List.{slice_split, AllByRecursion}
use Rattle.std.specs.Str.Lines.{lines, lines_of_parts, strip_carriage_return}
use Rattle.std.proofs.lemmas.List.Elements.{All-from_recursion}
use Rattle.std.proofs.lemmas.List.Splits.{slice_split_at, slice_split_none, length-slice_split}
use Rattle.std.proofs.lemmas.Bool.Decides.{nat_tests}
use Rattle.text_base.specs.Lines.{with_feed, Lacks}

onto_some : {X : Type 0} (parts : List X) → 0 < length parts → (y : X) × ((more : List X) × (parts ≡ y ∷ more))
onto_some [] some = absurd (omega arith)
onto_some (y ∷ more) some = (y, (more, refl))

feeds_false : (line : List ℕ) → Lacks 10 line → AllByRecursion (λ b. (b == 10) ≡ false) line
feeds_false [] h = tt {0}
feeds_false (b ∷ line) h = (no_eq b h.0, feeds_false line h.1)
  where
    no_eq : (x : ℕ) → x ≢ 10 → (x == 10) ≡ false
    no_eq x differs = grind (arith, nat_tests)

pub lines_front : (line rest : List ℕ) → Lacks 10 line → lines (with_feed line ++ rest) ≡ strip_carriage_return line ∷ lines rest
lines_front line rest h =
    let parts = slice_split (λ b. b == 10) rest in
    let some = onto_some parts (omega (arith, length-slice_split (λ b. b == 10) rest)) in
    let e = some.1.1 in
    ap lines (append_assoc line (10 ∷ []) rest)
    ∙ ap lines_of_parts (slice_split_at (λ b. b == 10) line 10 rest (All-from_recursion (λ b. (b == 10) ≡ false) line (feeds_false line h)) refl)
    ∙ ap (λ p. lines_of_parts (line ∷ p)) e
    ∙ ap (λ p. strip_carriage_return line ∷ lines_of_parts p) (sym e)

pub lines_last : (line : List ℕ) → 0 < length line → Lacks 10 line → lines line ≡ line ∷ []
lines_last [] some h = absurd (omega arith)
lines_last (b ∷ line) some h =
    ap lines_of_parts (slice_split_none (λ c. c == 10) (b ∷ line) (All-from_recursion (λ c. (c == 10) ≡ false) (b ∷ line) (feeds_false (b ∷ line) h)))
    ∙ ap (λ t. cond t [] ((b ∷ line) ∷ [])) (let e : (length (b ∷ line) == 0) ≡ false = grind (arith, nat_tests) in e)
