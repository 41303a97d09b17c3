-- The text of a certificate (docs/FORMATS.md, "Certificates").
use Rattle.std.specs.Prelude.{ℕ, Bool, true, false, List, [], ◌∷◌, ◌++◌, length, map, codes, decimal}
use Rattle.std.specs.List.{flat_map}
use Rattle.text_base.specs.Lines.{lines_text}
use Rattle.lay_lines.specs.BlockText.{scalars_line, step_line, block_line}
use Rattle.lay_lines.specs.ListText.{list_lines}
use Rattle.lay_lines.specs.MarkText.{mark_lines, line_count}
use Rattle.lay_cert.specs.declared.certificate.Claim.{Claim}
use Rattle.lay_cert.specs.declared.certificate.Claim.TheVariants.{Optimal, Best}
use Rattle.lay_cert.specs.Frames.{Frame}

-- the line that names the format
abbrev pub version_line : ℕ → List ℕ
version_line version = codes "C25 CERTIFICATE " ++ decimal version

abbrev pub frame_line : List ℕ → List ℕ
frame_line name = codes "frame " ++ name

abbrev pub registers_line : ℕ → List ℕ
registers_line registers = codes "registers " ++ decimal registers

abbrev pub cost_line : ℕ → List ℕ
cost_line cost = codes "cost " ++ decimal cost

abbrev pub claim_line : Claim → List ℕ
claim_line Optimal = codes "claim optimal"
claim_line (Best piece quota) = codes "claim best " ++ (decimal piece ++ 32 ∷ decimal quota)

-- the line that says how many marks there are
abbrev pub marks_line : ℕ → List ℕ
marks_line marks = codes "marks " ++ decimal marks

-- the line behind which a frame's lines are over, and that behind which all are
abbrev pub frame_end : List ℕ
frame_end = codes "endframe"

abbrev pub last_line : List ℕ
last_line = codes "end"

-- version 1 has no line of the step
abbrev pub step_part : Bool → ℕ → List (List ℕ)
step_part true step = step_line step ∷ []
step_part false step = []

-- the lines of the marks and what is before them
abbrev pub log_lines : Frame → List (List ℕ)
log_lines f = marks_line (length f.log) ∷ (mark_lines (line_count (length f.log)) f.log ++ frame_end ∷ [])

abbrev pub layout_lines : Frame → List (List ℕ)
layout_lines f = map block_line f.seq.blocks ++ (list_lines f.bases f.arr ++ (cost_line f.cost ∷ claim_line f.claim ∷ log_lines f))

-- all lines of a frame, in a version with steps or without them
abbrev pub frame_lines : Bool → Frame → List (List ℕ)
frame_lines steps f = frame_line f.name ∷ registers_line f.registers ∷ (step_part steps f.seq.step ++ (scalars_line f.seq.scalars ∷ layout_lines f))

-- the one text of a certificate that is written
abbrev pub cert_text : List Frame → List ℕ
cert_text fs = lines_text (version_line 2 ∷ (flat_map (frame_lines true) fs ++ last_line ∷ []))

-- the text of the first version, where each step is 1
abbrev pub old_text : List Frame → List ℕ
old_text fs = lines_text (version_line 1 ∷ (flat_map (frame_lines false) fs ++ last_line ∷ []))
