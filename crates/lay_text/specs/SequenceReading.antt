-- How bytes are read as an access sequence, and which line is faulty where they aren't one (docs/FORMATS.md, "Sequences").
use Rattle.std.specs.Prelude.{◌≡◌, ◌⊎◌, ℕ, ◌-◌, ◌<◌, ◌≤◌, ◌^◌, List, [], ◌∷◌, ◌++◌, length, All}
use Rattle.std.specs.Str.Lines.{lines}
use Rattle.lay_model.specs.Sequences.{Sequence, IsSequence}
use Rattle.text_base.specs.FilledLines.{filled, filled_to}
use Rattle.lay_lines.specs.BlockText.{scalars_line, step_line}
use Rattle.lay_text.specs.SequenceText.{file_lines}
use Rattle.lay_text.specs.declared.fault.SeqFault.{SeqFault}
use Rattle.lay_text.specs.declared.fault.SeqFault.TheVariants as faults

-- a sequence whose weights have 32 bits
pub record IsWhole (s : Sequence) : Type 0 where
  pub sequence : IsSequence s
  pub weights : All (λ b. b.weight < 2 ^ 32) s.blocks

-- the step has its line, which a step of 1 may lack
abbrev pub TellStep : List (List ℕ) → ℕ → Type 0
TellStep steps step = (steps ≡ step_line step ∷ []) ⊎ ((steps ≡ []) × (step ≡ 1))

-- lines are those of a sequence
pub record AreLinesOf (s : Sequence) (all : List (List ℕ)) : Type 0 where
  pub whole : IsWhole s
  pub steps : List (List ℕ)
  pub tell : TellStep steps s.step
  pub text : all ≡ file_lines steps s

-- bytes are read as a sequence: blank lines are passed over
abbrev pub Reads : List ℕ → Sequence → Type 0
Reads bytes s = AreLinesOf s (filled (lines bytes))

-- behind the first so many lines of the bytes others can follow so that all are those of a sequence
pub record Begins (count : ℕ) (bytes : List ℕ) : Type 0 where
  pub there : count ≤ length (lines bytes)
  pub more : List (List ℕ)
  pub sequence : Sequence
  pub lines : AreLinesOf sequence (filled_to count bytes ++ more)

-- the first line that isn't blank states more scalars than a sequence has
pub record StatesTooMany (bytes : List ℕ) (count : ℕ) : Type 0 where
  pub above : 64 < count
  pub fits : count < 2 ^ 64
  pub more : List (List ℕ)
  pub text : filled (lines bytes) ≡ scalars_line count ∷ more

-- the bytes aren't read, the line is the first up to which no others could follow, and too many scalars aren't the fault
pub record IsFirstFaulty (bytes : List ℕ) (line : ℕ) : Type 0 where
  pub wrong : (s : Sequence) → Reads bytes s → ⊥
  pub from_one : 0 < line
  pub before : Begins (line - 1) bytes
  pub here : Begins line bytes → ⊥
  pub not_many : (count : ℕ) → StatesTooMany bytes count → ⊥

-- what each fault says of the bytes
abbrev pub Says : List ℕ → SeqFault → Type 0
Says bytes (faults.BadLine line) = IsFirstFaulty bytes line
Says bytes (faults.TooManyScalars count) = StatesTooMany bytes count
Says bytes faults.NoMemory = Unit {0}
