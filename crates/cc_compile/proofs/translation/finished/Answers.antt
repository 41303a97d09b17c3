use Rattle.std.proofs.Common.{◌≡◌, ◌≤◌, ◌∙◌, List, map, ap, sym, subst}
use Rattle.std.specs.Prelude.{All}
use Rattle.acc_code.specs.AccView.{functions_of}
use Rattle.image_proof.specs.acc_select.Selected.{selected}
use Rattle.c25_isa.specs.Pieces.{Linked, PiecesFit}
use Rattle.c25_link.specs.Linking.{linked_image, pieces_words}
use Rattle.c_tree.specs.TypedTree.{ProgramTree}
use Rattle.frame_layouts.specs.lay_cert.Frames.{Frame}
use Rattle.frame_layouts.specs.lay_par.Jobs.{Job}
use Rattle.frame_layouts.specs.mem_plan.declared.data_plan.DataPlan.{DataPlan}
use Rattle.frame_layouts.specs.mem_plan.Plan.{IsPlan}
use Rattle.tree_code.specs.Lowered.{lowered_program}
use Rattle.tree_code.specs.ProgramView.{tree_of}
use Rattle.tree_code.specs.WordTree.{ProgramCode}
use Rattle.frame_layouts.specs.Frames.{ClaimsHold, frames_of, jobs_in, layout_of}
use Rattle.cc_compile.specs.TranslationFaults.{SaysOfPieces}
use Rattle.cc_compile.specs.Images.{FrameJobs, IsPlanOf, all_pieces, jobs_at, layouts}
use Rattle.cc_compile.proofs.LayoutLemmas.{all_based, one_each}
use Rattle.cc_compile.proofs.TranslationLemmas.{tree_says, pieces_say, passed_on}
use Rattle.cc_compile.proofs.translation.finished.Goals as goal

pub returns-in_err-planned-clause-refused : goal.returns-in_err-planned-clause-refused
returns-in_err-planned-clause-refused g c = λ t is.
    let o = jobs_at c.args.step c.args.jobs.items in
    let fault = c.in_err-planned.field-0.0 in
    passed_on o t c.from_residual.result fault c.from_residual.ensures.1 (tree_says o t (tree_of c.args.selection.now.tree) fault is c.in_err-planned.ensures.refused)

-- the plan of the program
planned_of : (o : FrameJobs) (t : ProgramTree) (p : ProgramCode) (plan : DataPlan) → p ≡ lowered_program t → IsPlan p (layouts o) plan → IsPlanOf o t plan
planned_of o t p plan same is = subst (λ (p : ProgramCode). IsPlan p (layouts o) plan) same is

pub returns-in_err-image-clause-refused : goal.returns-in_err-image-clause-refused
returns-in_err-image-clause-refused g c = λ t is.
    let p = tree_of c.args.selection.now.tree in
    let step = c.args.step in
    let o = jobs_at step c.args.jobs.items in
    let kept = c.in_ok-planned.ensures.jobs in
    let plan = c.in_ok-planned.planned.plan in
    let fault = c.in_err-image.field-0.0 in
    let planned = subst (λ (jobs : List Job). IsPlan p (map layout_of jobs) plan) kept c.in_ok-planned.ensures.planned.plan in
    passed_on o t c.from_residual-in_err-image.result fault c.from_residual-in_err-image.ensures.1
    (pieces_say o t plan fault (planned_of o t p plan is planned)
    (subst (λ (p : ProgramCode). SaysOfPieces (all_pieces o p plan) fault) is
    (subst (λ (jobs : List Job). SaysOfPieces (all_pieces (jobs_at step jobs) p plan) fault) kept c.in_err-image.ensures.refused)))

pub returns-clause-image : goal.returns-clause-image
returns-clause-image g c = λ t is.
    let p = tree_of c.args.selection.now.tree in
    let step = c.args.step in
    let o = jobs_at step c.args.jobs.items in
    let kept = c.in_ok-planned.ensures.jobs in
    let plan = c.in_ok-planned.planned.plan in
    record {
      plan = plan;
      planned = planned_of o t p plan is (subst (λ (jobs : List Job). IsPlan p (map layout_of jobs) plan) kept c.in_ok-planned.ensures.planned.plan);
      fits = subst (λ (p : ProgramCode). pieces_words (all_pieces o p plan) ≤ 65536) is
          (subst (λ (jobs : List Job). pieces_words (all_pieces (jobs_at step jobs) p plan) ≤ 65536) kept c.in_ok-image.ensures.fits);
      is = c.in_ok-image.ensures.image
          ∙ ap (λ (jobs : List Job). linked_image (all_pieces (jobs_at step jobs) p plan)) kept
          ∙ ap (λ (p : ProgramCode). linked_image (all_pieces o p plan)) is;
      linked = subst (λ (p : ProgramCode). Linked (all_pieces o p plan) c.in_ok-image.image) is
          (subst (λ (jobs : List Job). Linked (all_pieces (jobs_at step jobs) p plan) c.in_ok-image.image) kept c.in_ok-image.ensures.linked);
      ranges = subst (λ (p : ProgramCode). PiecesFit (all_pieces o p plan)) is
          (subst (λ (jobs : List Job). PiecesFit (all_pieces (jobs_at step jobs) p plan)) kept c.in_ok-image.ensures.ranges);
    }

pub returns-clause-frames : goal.returns-clause-frames
returns-clause-frames g c = λ t is.
    let p = tree_of c.args.selection.now.tree in
    let o = jobs_at c.args.step c.args.jobs.items in
    let kept = c.in_ok-planned.ensures.jobs in
    let plan = c.in_ok-planned.planned.plan in
    record {
      plan = plan;
      planned = planned_of o t p plan is (subst (λ (jobs : List Job). IsPlan p (map layout_of jobs) plan) kept c.in_ok-planned.ensures.planned.plan);
      are = c.in_ok-certificate.ensures
          ∙ ap (λ (jobs : List Job). frames_of (functions_of c.args.selection.now.code) jobs plan.frames) kept
          ∙ ap (λ gs. frames_of gs o.jobs plan.frames) c.requires.selection.code
          ∙ ap (λ (p : ProgramCode). frames_of (selected p) o.jobs plan.frames) is;
    }

pub returns-clause-arranged : goal.returns-clause-arranged
returns-clause-arranged g c = c.in_ok-planned.ensures.arranged

pub returns-clause-claims : goal.returns-clause-claims
returns-clause-claims g c =
    let l = c.in_ok-planned.planned.layouts in
    subst (All ClaimsHold) (sym c.in_ok-certificate.ensures)
    (c.claims_hold.ensures (functions_of c.args.selection.now.code) (jobs_in l) c.in_ok-planned.planned.plan.frames c.in_ok-planned.ensures.planned.jobs.each)

pub returns-clause-sequences : goal.returns-clause-sequences
returns-clause-sequences g c =
    let s = c.args.selection.now in
    let gs = functions_of s.code in
    let jobs = jobs_in c.in_ok-planned.planned.layouts in
    let plan = c.in_ok-planned.planned.plan in
    let planned = c.in_ok-planned.ensures.planned in
    let count = one_each jobs gs planned.jobs in
    ap (map (λ (f : Frame). f.seq)) c.in_ok-certificate.ensures
    ∙ c.frames_are_arranged.ensures.sequences gs jobs plan.frames count (all_based jobs (tree_of s.tree) plan (count ∙ c.requires.selection.emittable.count) planned.plan)
    ∙ ap (map (λ (job : Job). job.sequence)) c.in_ok-planned.ensures.jobs
