use Rattle.std.proofs.Common.{◌∙◌, ◌++◌, ◌∷◌, [], ap₂, sym, subst}
use Rattle.std.specs.Prelude.{All}
use Rattle.std.proofs.lemmas.List.Elements.{All-append, All-cons, All-nil}
use Rattle.acc_code.specs.AccSequence.{IsInFrame}
use Rattle.acc_code.specs.AccView.{function_items_of}
use Rattle.acc_code.specs.declared.program.AccFunction.{AccFunction}
use Rattle.frame_layouts.specs.Frames.{IsJob, job_of}
use Rattle.frame_layouts.proofs.Loops.{mapped_further}
use Rattle.frame_layouts.proofs.layouts.jobs_of.Goals as goal

pub job_for-requires-clause-in_frame : goal.job_for-requires-clause-in_frame
job_for-requires-clause-in_frame c =
    subst (λ (f : AccFunction). IsInFrame (function_items_of f)) (sym c.function-item.is) (c.requires.in_frames c.loop-function.function-index c.function-item.result c.loop-function-test.true)

pub loop-function-preserved : goal.loop-function-preserved
loop-function-preserved c = record {
  jobs = c.in_ok-push.ensures.items
      ∙ ap₂ (λ l x. l ++ x ∷ []) c.loop-function.invariant.jobs c.in_ok-job_for.ensures.job
      ∙ mapped_further (job_of c.args.options) function_items_of c.args.functions.now c.loop-function.function-index c.function-item.result c.loop-function-test.true c.function-item.is;
  are_jobs = subst (All IsJob) (sym c.in_ok-push.ensures.items)
      (All-append IsJob _ _ c.loop-function.invariant.are_jobs (All-cons IsJob _ [] c.in_ok-job_for.ensures.is_job (All-nil IsJob)));
}
