use Rattle.std.proofs.Common.{◌≡◌, ◌+◌, ◌^◌, ℕ, Bool, List, [], ◌∷◌, length}
use Rattle.std.specs.List.{sum_by}
use Rattle.lay_model.specs.Sequences.{counted}
use Rattle.lay_lines.specs.BlockText.{step_line}
use Rattle.lay_text.proofs.SequenceLines.{IsOpen}
use Rattle.lay_cert.specs.Frames.{Frame}
use Rattle.lay_cert.specs.CertReading.{Head, Inside, Listing}
use Rattle.lay_cert.specs.LineReading.{Stands}
use Rattle.lay_cert.proofs.frames.read_blocks.Given as goal

abbrev pub invariant-loop-line : goal.invariant-loop-line
invariant-loop-line l = record {
  is_open : IsOpen l.head.scalars l.head.step (step_line l.head.step ∷ []) l.blocks;
  room_is : sum_by counted l.blocks + l.room ≡ 2 ^ 60;
  so_far : (bytes : List ℕ) (steps : Bool) (fs : List Frame) (h : Head) → h.scalars ≡ l.head.scalars → Stands bytes l.initial.lines (Inside steps fs (Listing h [] [] [])) → Stands bytes l.lines (Inside steps fs (Listing h l.blocks [] []));
}

abbrev pub decreases-loop-line : goal.decreases-loop-line
decreases-loop-line l = length l.lines.text
