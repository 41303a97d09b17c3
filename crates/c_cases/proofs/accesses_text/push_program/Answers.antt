use Rattle.std.proofs.Common.{subst, sym}
use Rattle.std.specs.Prelude.{All}
use Rattle.acc_code.specs.AccSequence.{IsInFrame}
use Rattle.acc_code.specs.AccView.{function_items_of}
use Rattle.c_cases.proofs.Frames.{in_frames}
use Rattle.c_cases.proofs.accesses_text.push_program.Goals as goal

pub push_functions-requires : goal.push_functions-requires
push_functions-requires c = record {
  in_frame = subst (All (λ f. IsInFrame (function_items_of f))) (sym c.as_slice.ensures) (in_frames c.args.code.now.functions c.requires.in_frame);
}
