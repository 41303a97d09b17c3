use Rattle.std.proofs.Common.{◌≡◌, ◌≢◌, ℕ, List, arith, refl, sym, subst}
use Rattle.std.specs.Prelude.{All}
use Rattle.c_tree.specs.ProgramView.{program_of}
use Rattle.c_tree.specs.SourceRun.{source_run}
use Rattle.c25_isa.specs.Agrees.{Agrees}
use Rattle.c25_isa.specs.Image.{Contents}
use Rattle.frame_layouts.specs.lay_cert.Frames.{Frame}
use Rattle.frame_layouts.specs.Frames.{ClaimsHold}
use Rattle.c_tree.specs.TypedTree.{ProgramTree}
use Rattle.frame_layouts.specs.declared.options.Options.{Options}
use Rattle.image_proof.specs.Agreeing.{EndsInTime}
use Rattle.cc_compile.specs.Apart.{LieApart}
use Rattle.cc_compile.specs.Images.{HasFrames, HasImage, IsDirect, KeepsRuns, LeadsRight, ListsFrames, TreeKeepsRuns, source_jobs}
use Rattle.cc_compile.specs.Made.{IsMade}
use Rattle.cc_compile.specs.Walked.{AccessAs, AreWalked}
use Rattle.cc_compile.specs.PartFaults.{of_translation_fault}
use Rattle.cc_compile.specs.SourceFaults.{HasFault, HasProgram}
use Rattle.cc_compile.specs.declared.fault.BuildFault.{BuildFault}
use Rattle.cc_compile.specs.declared.fault.BuildFault.TheVariants as faults
use Rattle.image_proof.proofs.ExecWords.{zero_starts}
use Rattle.cc_compile.proofs.Promised.{are_direct, are_found, have_data, have_names}
use Rattle.cc_compile.proofs.FaultLemmas.{no_image, passed_on}
use Rattle.cc_compile.proofs.phases.compile.Goals as goal

pub returns-in_err-translated-clause-refused : goal.returns-in_err-translated-clause-refused
returns-in_err-translated-clause-refused g c =
    let fault = c.in_err-translated.field-0.0 in
    passed_on c.from_residual-in_err-translated.result (of_translation_fault fault) (λ (why : BuildFault). why ≢ faults.NoMemory → HasFault c.args.options c.args.source.now why) c.from_residual-in_err-translated.ensures.1
    (no_image c.args.options c.args.source.now (program_of c.in_ok-program.program) fault c.in_ok-program.ensures.typed c.in_err-translated.ensures.refused)

pub returns-in_err-with_rows-clause-refused : goal.returns-in_err-with_rows-clause-refused
returns-in_err-with_rows-clause-refused g c =
    passed_on c.from_residual-in_err-with_rows.result faults.NoMemory (λ (why : BuildFault). why ≢ faults.NoMemory → HasFault c.args.options c.args.source.now why) c.from_residual-in_err-with_rows.ensures.1 (λ some. absurd (some refl))

walked_too : (image other : Contents) (frames others : List Frame) → image ≡ other → frames ≡ others → ∥ AreWalked other others ∥₁ → ∥ AreWalked image frames ∥₁
walked_too image other frames others e f h = subst (λ i. ∥ AreWalked i frames ∥₁) (sym e) (subst (λ fs. ∥ AreWalked other fs ∥₁) (sym f) h)

-- how it is made
made_of : (o : Options) (bytes : List ℕ) (t : ProgramTree) (image other : Contents) (frames others : List Frame) → HasProgram bytes t → image ≡ other → frames ≡ others → HasImage (source_jobs o t) t other → HasFrames (source_jobs o t) t others
    → ∥ TreeKeepsRuns (source_jobs o t) t ∥₁ → ∥ KeepsRuns (source_jobs o t) t ∥₁ → ∥ LeadsRight (source_jobs o t) t other ∥₁ → ∥ ListsFrames (source_jobs o t) t other ∥₁ → IsMade o bytes image frames
made_of o bytes t image other frames others typed same also has framed tree keeps leads listed = record {
  program = t;
  typed = typed;
  has = subst (λ (i : Contents). HasImage (source_jobs o t) t i) (sym same) has;
  framed = subst (λ (fs : List Frame). HasFrames (source_jobs o t) t fs) (sym also) framed;
  tree = tree;
  keeps = keeps;
  leads = subst (λ (i : Contents). ∥ LeadsRight (source_jobs o t) t i ∥₁) (sym same) leads;
  listed = subst (λ (i : Contents). ∥ ListsFrames (source_jobs o t) t i ∥₁) (sym same) listed;
}

pub returns-clause-made : goal.returns-clause-made
returns-clause-made g c =
    made_of c.args.options c.args.source.now (program_of c.in_ok-program.program) _ _ _ _ c.in_ok-program.ensures.typed c.in_ok-with_rows.ensures.image c.in_ok-with_rows.ensures.certificate c.in_ok-translated.ensures.image
    c.in_ok-translated.ensures.frames c.in_ok-translated.ensures.tree c.in_ok-translated.ensures.keeps c.in_ok-translated.ensures.leads c.in_ok-translated.ensures.listed

pub returns-clause-built : goal.returns-clause-built
returns-clause-built g c =
    let has = c.in_ok-program.ensures.typed in
    let program = program_of c.in_ok-program.program in
    let image = subst (λ (i : Contents). HasImage (source_jobs c.args.options program) program i) (sym c.in_ok-with_rows.ensures.image) c.in_ok-translated.ensures.image in
    let framed = subst (λ (fs : List Frame). HasFrames (source_jobs c.args.options program) program fs) (sym c.in_ok-with_rows.ensures.certificate) c.in_ok-translated.ensures.frames in
    record {
      tokens = has.0;
      source = has.1;
      program = program;
      lexes = has.2;
      is_source = has.3;
      typed = has.4;
      starts = zero_starts _ _ image.linked image.ranges;
      agrees = subst (λ (i : Contents). ∥ Agrees (source_run program) i.words ∥₁) (sym c.in_ok-with_rows.ensures.image) c.in_ok-translated.ensures.agrees;
      in_time = subst (λ (i : Contents). ∥ EndsInTime program i.words ∥₁) (sym c.in_ok-with_rows.ensures.image) c.in_ok-translated.ensures.in_time;
      short =
          let bound = c.code_is_bounded.ensures.image (source_jobs c.args.options program) program _ c.in_ok-program.program.well_formed image in
          let few = c.programs_weigh_by_nodes.ensures has.1 program has.4 in
          omega (arith, bound, few);
      names = have_names c.args.options program _ _ image framed;
      accesses = subst (λ (fs : List Frame). AccessAs c.args.options.step program fs) (sym c.in_ok-with_rows.ensures.certificate) c.in_ok-translated.ensures.accesses;
      found = are_found c.args.options program _ framed;
      walked = walked_too _ _ _ _ c.in_ok-with_rows.ensures.image c.in_ok-with_rows.ensures.certificate c.in_ok-translated.ensures.walked;
      plan = framed.plan;
      memory = have_data c.args.options program _ framed (subst (λ (fs : List Frame). LieApart program fs) (sym c.in_ok-with_rows.ensures.certificate) c.in_ok-translated.ensures.apart);
      direct =
          are_direct c.args.options program _ _ framed (c.accesses_are_kept.ensures.sequences c.args.options.step program c.in_ok-program.program.well_formed)
          (subst (λ (i : Contents). ∥ IsDirect (source_jobs c.args.options program) program i ∥₁) (sym c.in_ok-with_rows.ensures.image) c.in_ok-translated.ensures.direct);
    }

pub returns-clause-claims : goal.returns-clause-claims
returns-clause-claims g c = subst (λ (fs : List Frame). All ClaimsHold fs) (sym c.in_ok-with_rows.ensures.certificate) c.in_ok-translated.ensures.claims
