use Rattle.std.proofs.Common.{◌≡◌, ◌∙◌, ◌+◌, ◌++◌, [], map, drop, refl, sym, ap, subst, arith}
use Rattle.std.specs.Prelude.{All, sum}
use Rattle.std.proofs.lemmas.List.Elements.{All-append, All-cons, All-nil}
use Rattle.lay_model.specs.Sequences.{Sequence}
use Rattle.cc_compile.specs.frame_layouts.Frames.{IsJob, job_with}
use Rattle.cc_compile.specs.frame_layouts.lay_par.Jobs.{Job}
use Rattle.lay_profile.specs.Recordings.{counts_of, entered_from, recording_of, search_options, weighed_from}
use Rattle.lay_profile.specs.Weighing.{weighed}
use Rattle.lay_profile.proofs.Recordeds.{accesses_of, are_own, entry_count, more_counts, one_further}
use Rattle.lay_profile.proofs.recorded.record_run.Goals as goal

pub job_for-requires-clause-counts : goal.job_for-requires-clause-counts
job_for-requires-clause-counts c =
    (are_own (recording_of c.args.image.now c.args.ports.now c.args.options.steps) c.args.functions.now c.loop-function.function-index
    c.function-item.result c.loop-function.rest.now c.split_at.result.0.now c.len.result c.requires.options.few_steps c.requires.placed
    c.loop-function-test.true c.function-item.is c.loop-function.invariant.rest (omega (arith, c.len.ensures)) c.split_at.ensures.front).counts

pub total-requires : goal.total-requires
total-requires c =
    (are_own (recording_of c.args.image.now c.args.ports.now c.args.options.steps) c.args.functions.now c.loop-function.function-index
    c.function-item.result c.loop-function.rest.now c.split_at.result.0.now c.len.result c.requires.options.few_steps c.requires.placed
    c.loop-function-test.true c.function-item.is c.loop-function.invariant.rest (omega (arith, c.len.ensures)) c.split_at.ensures.front).counts

pub loop-function-preserved : goal.loop-function-preserved
loop-function-preserved c =
    let fs = c.args.functions.now in
    let i = c.loop-function.function-index in
    let s = c.function-item.result in
    let within = c.loop-function-test.true in
    let here = c.function-item.is in
    let before = c.loop-function.invariant in
    let r = recording_of c.args.image.now c.args.ports.now c.args.options.steps in
    let f : Sequence → Job = job_with (search_options c.args.options) in
    let left = accesses_of (drop (i + 1) fs) in
    let own : c.split_at.result.0.now ≡ counts_of r i =
    (are_own (recording_of c.args.image.now c.args.ports.now c.args.options.steps) c.args.functions.now c.loop-function.function-index
    c.function-item.result c.loop-function.rest.now c.split_at.result.0.now c.len.result c.requires.options.few_steps c.requires.placed
    c.loop-function-test.true c.function-item.is c.loop-function.invariant.rest (omega (arith, c.len.ensures)) c.split_at.ensures.front).are in
    record {
      rest = more_counts (entry_count r) fs i s c.loop-function.rest.now within here before.rest c.split_at.result.1.now c.len.result
          (omega (arith, c.len.ensures)) c.split_at.ensures.back;
      jobs = ap (λ l. l ++ map f (weighed_from r (i + 1) left)) c.in_ok-push.ensures.items
          ∙ one_further (λ k xs. map f (weighed_from r k xs)) fs (λ k x. f (weighed x (counts_of r k))) (λ k x xs. refl)
          c.loop-function.jobs.items i s c.in_ok-job_for.field-0 within here
          (c.in_ok-job_for.ensures.job ∙ ap (λ l. f (weighed s.accesses l)) own)
          ∙ before.jobs;
      are_jobs = subst (All IsJob) (sym c.in_ok-push.ensures.items)
          (All-append IsJob _ _ before.are_jobs (All-cons IsJob _ [] c.in_ok-job_for.ensures.is_job (All-nil IsJob)));
      entered = ap (λ l. l ++ entered_from r (i + 1) left) c.in_ok-push-2.ensures.items
          ∙ one_further (entered_from r) fs (λ k x. sum (counts_of r k)) (λ k x xs. refl)
          c.loop-function.entered.items i s c.total.result within here (c.total.ensures ∙ ap sum own)
          ∙ before.entered;
    }
