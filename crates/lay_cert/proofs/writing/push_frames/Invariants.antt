use Rattle.std.proofs.Common.{◌≡◌, ◌++◌, drop, true}
use Rattle.std.specs.List.{AllWithin, flat_map}
use Rattle.text_base.specs.Lines.{lines_text}
use Rattle.lay_cert.specs.Frames.{IsWhole}
use Rattle.lay_cert.specs.CertText.{frame_lines}
use Rattle.lay_cert.proofs.writing.push_frames.Given as goal

abbrev pub invariant-loop-frame : goal.invariant-loop-frame
invariant-loop-frame l = record {
  text : l.text.items ++ lines_text (flat_map (frame_lines true) (drop l.frame-index l.frames)) ≡ l.initial.text.items ++ lines_text (flat_map (frame_lines true) l.frames);
  whole : AllWithin IsWhole l.frames 0 l.frame-index;
}
