-- What is left is put behind.
use Rattle.std.proofs.Common.{◌≡◌, ◌++◌, false, drop}
use Rattle.std.specs.Prelude.{slice_index_or}
use Rattle.cc_check.specs.CheckText.{no_frame_lines}
use Rattle.cc_check.proofs.lines.push_no_frames.Given as goal

abbrev pub invariant-loop-index : goal.invariant-loop-index
invariant-loop-index l =
    l.text.items ++ no_frame_lines (λ k. slice_index_or l.framed k false) l.index (drop l.index l.functions)
    ≡ l.initial.text.items ++ no_frame_lines (λ k. slice_index_or l.framed k false) 0 l.functions
