-- The text of an access sequence (docs/FORMATS.md, "Sequences").
use Rattle.std.specs.Prelude.{ℕ, List, [], ◌∷◌, ◌++◌, map, codes}
use Rattle.lay_model.specs.Sequences.{Sequence}
use Rattle.text_base.specs.Lines.{lines_text}
pub use Rattle.lay_lines.specs.BlockText.{scalars_line, step_line, step_lines, spaced, block_line}

-- the line behind which nothing stands
abbrev pub last_line : List ℕ
last_line = codes "end"

-- all lines, those of the step as given
abbrev pub file_lines : List (List ℕ) → Sequence → List (List ℕ)
file_lines steps s = scalars_line s.scalars ∷ (steps ++ (map block_line s.blocks ++ last_line ∷ []))

-- the text that is written
abbrev pub sequence_text : Sequence → List ℕ
sequence_text s = lines_text (file_lines (step_lines s.step) s)
