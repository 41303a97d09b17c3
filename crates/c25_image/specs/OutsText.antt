-- The text of the words that were put out (docs/FORMATS.md, "Outputs").
use Rattle.std.specs.Prelude.{ℕ, ◌<◌, ◌^◌, List, ◌∷◌, ◌++◌, map, decimal}
use Rattle.text_base.specs.Hex.{hex4}
use Rattle.text_base.specs.Lines.{lines_text}

-- a port and its word
abbrev pub out_line : ℕ × ℕ → List ℕ
out_line out = decimal out.0 ++ 32 ∷ hex4 out.1

-- a line for each word
abbrev pub outs_text : List (ℕ × ℕ) → List ℕ
outs_text outs = lines_text (map out_line outs)

-- a word of 16 bits at one of 16 ports
pub record IsOut (out : ℕ × ℕ) : Type 0 where
  pub port : out.0 < 16
  pub word : out.1 < 2 ^ 16
