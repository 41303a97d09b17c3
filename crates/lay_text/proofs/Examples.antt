-- Texts of sequences, and what bytes are read as, by hand.
use Rattle.std.proofs.Common.{◌≡◌, ◌≤◌, ◌<◌, ◌^◌, ℕ, [], ◌∷◌, refl, sym, subst, inl, inr, arith, lit≤, lit<}
use Rattle.std.specs.Prelude.{All, codes}
use Rattle.std.specs.Fmt.{digits}
use Rattle.std.specs.Str.Lines.{lines}
use Rattle.std.proofs.lemmas.List.Elements.{All-from_recursion, recursion_from_All, All-head}
use Rattle.lay_model.specs.Sequences.{Block, Sequence, IsBlock}
use Rattle.text_base.specs.FilledLines.{filled}
use Rattle.lay_text.specs.SequenceText.{sequence_text}
use Rattle.lay_text.specs.SequenceReading.{IsWhole, Reads, Begins, StatesTooMany, IsFirstFaulty}
use Rattle.lay_lines.specs.BlockText.{IsBlockOf}
use Rattle.lay_lines.proofs.Blocks.{block_injective, block_no_step, below_small}
use Rattle.lay_text.proofs.LastLine.{block_no_end}
use Rattle.lay_text.proofs.SequenceLines.{IsOpen, open_whole}
use Rattle.lay_text.proofs.Faults.{early_count, faulty_block}
use Rattle.lay_text.proofs.Exact.{trailing}

abbrev block : Block
block = record { weight = 12; accesses = 0 ∷ 3 ∷ 0 ∷ [] }

abbrev at_step : ℕ → Sequence
at_step step = record { scalars = 4; step = step; blocks = block ∷ [] }

whole : (step : ℕ) → 1 ≤ step → step ≤ 8 → IsWhole (at_step step)
whole step low high = record {
  sequence = record {
    few = lit≤ tt;
    moves = low;
    near = high;
    blocks = All-from_recursion IsBlock (block ∷ []) (record { counts = lit≤ tt; some = lit≤ tt }, tt);
    scalars = All-from_recursion (λ b. All (λ scalar. scalar < 4) b.accesses) (block ∷ []) (All-from_recursion (λ scalar. scalar < 4) block.accesses (lit< tt, (lit< tt, (lit< tt, tt))), tt);
    countable = lit≤ tt;
  };
  weights = All-from_recursion (λ (b : Block). b.weight < 2 ^ 32) (block ∷ []) (lit< tt, tt);
}

-- the step is written where it isn't 1
written : sequence_text (at_step 2) ≡ codes "scalars 4\nstep 2\nblock 12 0 3 0\nend\n"
unfolding digits
written = refl

written_without_step : sequence_text (at_step 1) ≡ codes "scalars 4\nblock 12 0 3 0\nend\n"
unfolding digits
written_without_step = refl

written_empty : sequence_text (record { scalars = 0; step = 1; blocks = [] }) ≡ codes "scalars 0\nend\n"
unfolding digits
written_empty = refl

-- blank lines, a carriage return before a line feed, and no line feed behind the last line
read : Reads (codes "\r\nscalars 4\r\n\nblock 12 0 3 0\nend") (at_step 1)
unfolding digits
read = record { whole = whole 1 (lit≤ tt) (lit≤ tt); steps = []; tell = inr (refl, refl); text = refl }

-- a step of 1
read_step_1 : Reads (codes "scalars 4\nstep 1\nblock 12 0 3 0\nend\n\n") (at_step 1)
unfolding digits
read_step_1 = record { whole = whole 1 (lit≤ tt) (lit≤ tt); steps = codes "step 1" ∷ []; tell = inl refl; text = refl }

-- a carriage return without a line feed, and a second one, stay in their line
end_with_return : filled (lines (codes "scalars 0\nend\r")) ≡ codes "scalars 0" ∷ codes "end\r" ∷ []
end_with_return = refl

two_returns : filled (lines (codes "\r\r\nend\r\n")) ≡ codes "\r" ∷ codes "end" ∷ []
two_returns = refl

-- a line of a space isn't blank
space : filled (lines (codes "\n \n\r\n")) ≡ codes " " ∷ []
space = refl

-- a file that ends early begins as another one does
begins : Begins 2 (codes "\nscalars 4")
unfolding digits
begins = record {
  there = lit≤ tt;
  more = codes "step 3" ∷ codes "block 12 0 3 0" ∷ codes "end" ∷ [];
  sequence = at_step 3;
  lines = record { whole = whole 3 (lit≤ tt) (lit≤ tt); steps = codes "step 3" ∷ []; tell = inl refl; text = refl };
}

too_many : StatesTooMany (codes "\nscalars 65\nnext") 65
unfolding digits
too_many = record { above = lit< tt; fits = lit< tt; more = codes "next" ∷ []; text = refl }

-- blank lines alone end early
blank_alone : IsFirstFaulty (codes "\n\n") 3
blank_alone = early_count (record { bytes = codes "\n\n"; number = 2 }) 3 (record { there = refl; all = refl }) refl

-- a scalar that is as great as their number
abbrev two : Block
two = record { weight = 1; accesses = 2 ∷ [] }

out_of_range : IsFirstFaulty (codes "scalars 2\n\nblock 1 2\nend\n") 3
unfolding digits
out_of_range =
    faulty_block (record { bytes = codes "scalars 2\n\nblock 1 2\nend\n"; number = 3 }) 2 1 (2 ^ 60) [] [] (codes "block 1 2") (record { few = lit≤ tt; moves = lit≤ tt; near = lit≤ tt; tell = inr (refl, refl); each = tt {0}; countable = lit≤ tt }) refl
    (record { from_one = lit< tt; there = lit≤ tt; front = refl; all = refl })
    (λ e d low high is. block_no_step two d is)
    (λ is. block_no_end two is)
    (λ b h is. not_two b h (block_injective b two (record { weight = h.weight; small = below_small 2 b.accesses (lit< tt) (recursion_from_All (λ x. x < 2) b.accesses h.below) }) (record { weight = lit< tt; small = (lit< tt, tt {0}) }) (sym is)))
  where
    not_two : (b : Block) → IsBlockOf 2 (2 ^ 60) b → b ≡ two → ⊥
    not_two b h e = let below : 2 < 2 = All-head (λ x. x < 2) 2 [] (subst (λ (d : Block). All (λ x. x < 2) d.accesses) e h.below) in omega arith

-- a line behind the last one
behind_end : IsFirstFaulty (codes "scalars 0\nend\n\nend") 4
unfolding digits
behind_end =
    trailing (record { bytes = codes "scalars 0\nend\n\nend"; number = 2 }) (record { bytes = codes "scalars 0\nend\n\nend"; number = 4 }) (record { scalars = 0; step = 1; blocks = [] }) (codes "end") (record { whole = open_whole 0 1 [] [] none; steps = []; tell = inr (refl, refl); text = refl })
    (record { from_one = lit< tt; there = lit≤ tt; front = refl; all = refl })
  where
    none : IsOpen 0 1 [] []
    none = record { few = lit≤ tt; moves = lit≤ tt; near = lit≤ tt; tell = inr (refl, refl); each = tt {0}; countable = lit≤ tt }
