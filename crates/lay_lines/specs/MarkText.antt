-- The lines of marks (docs/FORMATS.md, "Certificates").
use Rattle.std.specs.Prelude.{◌≡◌, ◌≢◌, ℕ, zero, suc, ◌+◌, ◌/◌, ◌==◌, ◌||◌, ◌&&◌, nat_lt, not, Bool, true, false, if◌then◌else◌, List, [], ◌∷◌, ◌++◌, take, drop, map, Option, Some, None}
use Rattle.lay_tree.specs.declared.answer.Mark.{Mark}
use Rattle.lay_tree.specs.declared.answer.Mark.TheVariants.{Branched, Closed}

abbrev pub mark_byte : Mark → ℕ
mark_byte Branched = 98
mark_byte Closed = 99

abbrev pub mark_bytes : List Mark → List ℕ
mark_bytes marks = map mark_byte marks

-- so many lines of marks, sixty-four to a line and the rest on the last
abbrev pub mark_lines : ℕ → List Mark → List (List ℕ)
mark_lines zero marks = []
mark_lines (suc n) marks = mark_bytes (take 64 marks) ∷ mark_lines n (drop 64 marks)

-- how many lines so many marks take
abbrev pub line_count : ℕ → ℕ
line_count marks = (marks + 63) / 64

-- ---- what is read

-- the marks of a line stand behind others
pub record JoinsMarks (line : List ℕ) (old new : List Mark) : Type 0 where
  pub marks : List Mark
  pub text : line ≡ mark_bytes marks
  pub joined : new ≡ old ++ marks

-- all bytes of a line are marks, which stand behind others, or not all are
abbrev pub ReadsMarks : List ℕ → List Mark → List Mark → Bool → Type 0
ReadsMarks line old new true = JoinsMarks line old new
ReadsMarks line old new false = (marks : List Mark) → line ≢ mark_bytes marks

-- ---- how many marks stand at the front of a text

abbrev pub is_mark_byte : ℕ → Bool
is_mark_byte b = (b == 98) || (b == 99)

-- how many marks the unbroken run of lines of marks holds, where so many stand in its lines and so many in the line at hand. None where the text ends in a line
-- of marks without its line feed
abbrev pub held : ℕ → ℕ → List ℕ → Option ℕ
held all here [] = if here == 0 then Some all else None
held all here (b ∷ bs) = if is_mark_byte b then held all (here + 1) bs else (if (b == 10) && not (here == 0) then held (all + here) 0 bs else Some all)

abbrev pub is_below : ℕ → Option ℕ → Bool
is_below marks (Some count) = nat_lt count marks
is_below marks None = false

-- fewer marks than these
abbrev pub is_short : ℕ → List ℕ → Bool
is_short marks text = is_below marks (held 0 0 text)
