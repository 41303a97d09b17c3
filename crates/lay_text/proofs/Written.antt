-- The text that is written is read as the sequence.
use Rattle.std.proofs.Common.{◌≡◌, ◌≢◌, ℕ, ◌+◌, ◌-◌, ◌%◌, ◌<◌, ◌≤◌, ◌^◌, Bool, true, false, ◌==◌, cond, List, [], ◌∷◌, ◌++◌, length, get_or, take, map, refl, ap, ◌∙◌, inl, inr, arith, rules, eqb-true}
use Rattle.std.specs.Prelude.{decimal, codes}
use Rattle.std.specs.List.{AllByRecursion}
use Rattle.std.specs.Str.Lines.{lines, strip_carriage_return}
use Rattle.std.proofs.lemmas.List.Elements.{All-from_recursion, All-get_or}
use Rattle.std.proofs.lemmas.Fmt.{decimal_by_steps}
use Rattle.std.proofs.lemmas.Bool.Decides.{nat_tests}
use Rattle.lay_model.specs.Sequences.{Block, Sequence}
use Rattle.text_base.specs.Lines.{lines_text, Lacks}
use Rattle.text_base.specs.FilledLines.{filled}
use Rattle.lay_lines.specs.BlockText.{scalars_line, step_line, spaced, block_line, step_lines}
use Rattle.lay_text.specs.SequenceText.{last_line, file_lines, sequence_text}
use Rattle.lay_text.specs.SequenceReading.{IsWhole, TellStep, Reads}
use Rattle.lay_lines.proofs.Blocks.{AreSmall, IsWritable}
use Rattle.text_base.proofs.TextLines.{lines_front}
use Rattle.lay_text.proofs.SequenceLines.{AreWritable, whole_writable}

-- each byte is printed, so none ends a line
abbrev ArePrinted : List ℕ → Type 0
ArePrinted line = AllByRecursion (λ b. 31 < b) line

record IsPrintedLine (line : List ℕ) : Type 0 where
  some : 0 < length line
  printed : ArePrinted line

printed-append : (xs ys : List ℕ) → ArePrinted xs → ArePrinted ys → ArePrinted (xs ++ ys)
printed-append [] ys a b = b
printed-append (x ∷ xs) ys a b = (a.0, printed-append xs ys a.1 b)

lacks : (mark : ℕ) (line : List ℕ) → mark < 32 → ArePrinted line → Lacks mark line
lacks mark [] lt a = tt {0}
lacks mark (b ∷ line) lt a = (differs b a.0, lacks mark line lt a.1)
  where
    differs : (x : ℕ) → 31 < x → x ≢ mark
    differs x above e = omega arith

no_return : (line : List ℕ) → ArePrinted line → strip_carriage_return line ≡ line
no_return [] a = refl
no_return (b ∷ bs) a =
    let line = b ∷ bs in
    let last : 31 < get_or line (length line - 1) 0 = All-get_or (λ x. 31 < x) line (length line - 1) 0 (omega arith) (All-from_recursion (λ x. 31 < x) line a) in
    ap (λ t. cond t (take (length line - 1) line) line) (not_13 (get_or line (length line - 1) 0) last)
  where
    not_13 : (x : ℕ) → 31 < x → (x == 13) ≡ false
    not_13 x above = grind (arith, nat_tests)

lines_whole : (all : List (List ℕ)) → AllByRecursion IsPrintedLine all → lines (lines_text all) ≡ all
lines_whole [] a = refl
lines_whole (line ∷ all) a =
    lines_front line (lines_text all) (lacks 10 line (omega arith) a.0.printed)
    ∙ ap (λ l. l ∷ lines (lines_text all)) (no_return line a.0.printed)
    ∙ ap (λ l. line ∷ l) (lines_whole all a.1)

filled_whole : (all : List (List ℕ)) → AllByRecursion IsPrintedLine all → filled all ≡ all
filled_whole [] a = refl
filled_whole ([] ∷ all) a = absurd (omega (arith, a.0.some))
filled_whole ((b ∷ bs) ∷ all) a = ap (λ l. (b ∷ bs) ∷ l) (filled_whole all a.1)

-- ---- the lines of a sequence

decimal_printed : (n : ℕ) → n < 2 ^ 64 → ArePrinted (decimal n)
decimal_printed = decimal_by_steps (λ n ds. ArePrinted ds)
    (λ n lt. (omega arith, tt {0}))
    (λ n ds le more. printed-append ds ((48 + n % 10) ∷ []) more (omega arith, tt {0}))

spaced_printed : (numbers : List ℕ) → AreSmall numbers → ArePrinted (spaced numbers)
spaced_printed [] a = tt {0}
spaced_printed (n ∷ ns) a = (omega arith, printed-append (decimal n) (spaced ns) (decimal_printed n (omega (arith, a.0))) (spaced_printed ns a.1))

scalars_printed : ArePrinted (codes "scalars ")
scalars_printed = search rules

step_printed : ArePrinted (codes "step ")
step_printed = search rules

block_printed : ArePrinted (codes "block ")
block_printed = search rules

end_printed : ArePrinted last_line
end_printed = search rules

block_line_printed : (b : Block) → IsWritable b → IsPrintedLine (block_line b)
block_line_printed b w = record {
  some = omega arith;
  printed = printed-append (codes "block ") (decimal b.weight ++ spaced b.accesses) block_printed (printed-append (decimal b.weight) (spaced b.accesses) (decimal_printed b.weight (omega (arith, w.weight))) (spaced_printed b.accesses w.small));
}

lines-append : (xs ys : List (List ℕ)) → AllByRecursion IsPrintedLine xs → AllByRecursion IsPrintedLine ys → AllByRecursion IsPrintedLine (xs ++ ys)
lines-append [] ys a b = b
lines-append (x ∷ xs) ys a b = (a.0, lines-append xs ys a.1 b)

blocks_printed : (blocks : List Block) → AreWritable blocks → AllByRecursion IsPrintedLine (map block_line blocks)
blocks_printed [] a = tt {0}
blocks_printed (b ∷ bs) a = (block_line_printed b a.0, blocks_printed bs a.1)

step_line_printed : (d : ℕ) → d ≤ 8 → IsPrintedLine (step_line d)
step_line_printed d le = record { some = omega arith; printed = printed-append (codes "step ") (decimal d) step_printed (decimal_printed d (omega arith)) }

step_lines_printed : (d : ℕ) → d ≤ 8 → AllByRecursion IsPrintedLine (step_lines d)
step_lines_printed d le = by_test (d == 1)
  where
    by_test : (b : Bool) → AllByRecursion IsPrintedLine (cond b [] (step_line d ∷ []))
    by_test true = tt {0}
    by_test false = (step_line_printed d le, tt {0})

tell_step : (d : ℕ) → TellStep (step_lines d) d
tell_step d = by_test (d == 1) refl
  where
    by_test : (b : Bool) → (d == 1) ≡ b → TellStep (cond b [] (step_line d ∷ [])) d
    by_test true e = inr (refl, eqb-true d 1 e)
    by_test false e = inl refl

pub reads_written : (s : Sequence) → IsWhole s → Reads (sequence_text s) s
reads_written s w =
    let scalars : IsPrintedLine (scalars_line s.scalars) =
    record { some = omega arith; printed = printed-append (codes "scalars ") (decimal s.scalars) scalars_printed (decimal_printed s.scalars (omega (arith, w.sequence.few))) }
    in
    let end : IsPrintedLine last_line = record { some = omega arith; printed = end_printed } in
    let all = lines-append (step_lines s.step) (map block_line s.blocks ++ last_line ∷ []) (step_lines_printed s.step w.sequence.near) (lines-append (map block_line s.blocks) (last_line ∷ []) (blocks_printed s.blocks (whole_writable s w)) (end, tt {0})) in
    record {
      whole = w;
      steps = step_lines s.step;
      tell = tell_step s.step;
      text = ap filled (lines_whole (file_lines (step_lines s.step) s) (scalars, all)) ∙ filled_whole (file_lines (step_lines s.step) s) (scalars, all);
    }
