-- What the reader of a sequence file has read so far, and what a line gives (docs/FORMATS.md, "Sequences").
use Rattle.std.specs.Prelude.{◌≡◌, ◌≢◌, ℕ, ◌≤◌, List, [], ◌∷◌}
use Rattle.lay_model.specs.Sequences.{Sequence}
use Rattle.text_base.specs.FilledLines.{Place, read_to, HasRead}
use Rattle.lay_lines.specs.BlockText.{scalars_line, step_line}
use Rattle.lay_text.specs.SequenceReading.{TellStep, AreLinesOf}

-- the line that says how many scalars there are is read
pub record HasCount (p : Place) (scalars : ℕ) : Type 0 where
  pub few : scalars ≤ 64
  pub read : read_to p ≡ scalars_line scalars ∷ []

-- the lines before the blocks are read, and one behind them
pub record IsHead (p : Place) (scalars step : ℕ) (line : List ℕ) : Type 0 where
  pub few : scalars ≤ 64
  pub moves : 1 ≤ step
  pub near : step ≤ 8
  pub steps : List (List ℕ)
  pub tell : TellStep steps step
  pub read : HasRead (scalars_line scalars ∷ steps) line p
  pub behind : steps ≡ [] → (d : ℕ) → 1 ≤ d → d ≤ 8 → line ≢ step_line d

-- the lines of a sequence are read
abbrev pub HasWhole : Place → Sequence → Type 0
HasWhole p s = AreLinesOf s (read_to p)
