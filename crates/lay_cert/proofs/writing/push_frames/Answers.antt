use Rattle.std.proofs.Common.{◌≡◌, ◌∙◌, ℕ, ◌+◌, ◌<◌, true, List, ◌∷◌, ◌++◌, length, drop, get_or, sym, ap, append_assoc}
use Rattle.std.specs.List.{flat_map}
use Rattle.std.proofs.lemmas.List.{drop_more}
use Rattle.std.proofs.lemmas.List.Elements.{AllWithin-more, at_read}
use Rattle.text_base.specs.Lines.{lines_text}
use Rattle.lay_cert.specs.Frames.{Frame, IsWhole}
use Rattle.lay_cert.specs.CertText.{frame_lines}
use Rattle.lay_cert.proofs.Written.{lines-append}
use Rattle.lay_cert.proofs.writing.push_frames.Goals as goal

-- the lines of one more frame
pushed : (frames : List Frame) (i : ℕ) (f : Frame) (text more all : List ℕ) → i < length frames → f ≡ get_or frames i f → more ≡ text ++ lines_text (frame_lines true f)
    → text ++ lines_text (flat_map (frame_lines true) (drop i frames)) ≡ all → more ++ lines_text (flat_map (frame_lines true) (drop (i + 1) frames)) ≡ all
pushed frames i f text more all lt is written so_far =
    let rest = flat_map (frame_lines true) (drop (i + 1) frames) in
    let cut : drop i frames ≡ f ∷ drop (i + 1) frames = drop_more frames i f lt ∙ ap (λ g. g ∷ drop (i + 1) frames) (sym is) in
    ap (λ t. t ++ lines_text rest) written ∙ append_assoc text (lines_text (frame_lines true f)) (lines_text rest)
    ∙ ap (λ t. text ++ t) (sym (lines-append (frame_lines true f) rest))
    ∙ ap (λ fs. text ++ lines_text (flat_map (frame_lines true) fs)) (sym cut) ∙ so_far

pub loop-frame-preserved : goal.loop-frame-preserved
loop-frame-preserved c = record {
  text = pushed c.args.frames.now c.loop-frame.frame-index c.frame-item.result c.loop-frame.text.items c.push_frame.new.text.items _ c.loop-frame-test.true c.frame-item.is c.in_ok-push_frame.ensures.text c.loop-frame.invariant.text;
  whole = AllWithin-more IsWhole c.args.frames.now 0 c.loop-frame.frame-index c.loop-frame.invariant.whole
      (at_read c.args.frames.now IsWhole c.loop-frame.frame-index c.frame-item.result c.loop-frame-test.true c.frame-item.is c.in_ok-push_frame.ensures.whole);
}
