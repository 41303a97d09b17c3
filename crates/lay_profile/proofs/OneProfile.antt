-- A source and a recorded image have one outcome: an image with its frames and entries, or a fault.
use Rattle.std.proofs.Common.{◌≡◌, ◌≢◌, ◌∙◌, ℕ, List, Ok, Err, ap, refl, subst, sym}
use Rattle.std.specs.Prelude.{Result, IfErr}
use Rattle.cc_compile.specs.declared.fault.BuildFault.{BuildFault}
use Rattle.lay_profile.specs.PartFaults.{of_build_fault}
use Rattle.c25_isa.specs.Image.{Contents}
use Rattle.cc_compile.proofs.OneFault.{program_no_fault, same_program}
use Rattle.cc_compile.proofs.OneImage.{one, frames_same, image_no_link_fault, image_no_plan_fault}
use Rattle.cc_compile.specs.Images.{HasFrames, HasImage}
use Rattle.cc_compile.specs.SourceFaults.{HasProgram, HasTree, IsTypedWith}
use Rattle.cc_compile.specs.c_tree.TypedTree.{ProgramTree}
use Rattle.cc_compile.specs.declared.fault.BuildFault.TheVariants as build
use Rattle.cc_compile.specs.lay_cert.Frames.{Frame}
use Rattle.cc_compile.specs.Compiles.{IsBuilt}
use Rattle.cc_compile.specs.frame_layouts.declared.options.Options.{Options}
use Rattle.lay_profile.proofs.BuiltShapes.{has_shape}
use Rattle.lay_profile.specs.Profiles.{HasFault, HasLayoutFault, IsProfiled, searched}
use Rattle.lay_profile.specs.Recordings.{Recording, entered_from, search_options}
use Rattle.lay_profile.specs.Shapes.{accesses_of}
use Rattle.lay_profile.specs.declared.fault.ProfileFault.{ProfileFault}
use Rattle.lay_profile.specs.declared.fault.ProfileFault.TheVariants.{Lex, Parse, Types, OtherSource, Plan, Link, NoMemory}
use Rattle.lay_profile.specs.declared.options.ProfileOptions.{ProfileOptions}

module _ (o : ProfileOptions) (bytes : List ℕ) (r : Recording) where
  program_of : (image : Contents) (frames : List Frame) (entered : List ℕ) (p : IsProfiled o bytes r image frames entered) → HasProgram bytes p.program
  program_of image frames entered p = (p.tokens, p.source, p.lexes, p.is_source, p.typed)

  module _ (a b : Contents) (fs gs : List Frame) (es ds : List ℕ) (p : IsProfiled o bytes r a fs es) (q : IsProfiled o bytes r b gs ds) where
    same : p.program ≡ q.program
    same = same_program bytes p.program q.program (program_of a fs es p) (program_of b gs ds q)

    pub one_image : a ≡ b
    one_image = one (searched o r q.program) q.program a b (subst (λ t. HasImage (searched o r t) t a) same p.laid_out.has) q.laid_out.has

    pub one_framed : fs ≡ gs
    one_framed = frames_same (searched o r q.program) q.program fs gs (subst (λ t. HasFrames (searched o r t) t fs) same p.laid_out.framed) q.laid_out.framed

    pub one_entered : es ≡ ds
    one_entered = p.laid_out.is_entered ∙ ap (λ t. entered_from r 0 (accesses_of t)) same ∙ sym q.laid_out.is_entered

  -- a fault of a typed program is one of the program that the bytes have
  of_program : (P : ProgramTree → Type 0) (t : ProgramTree) → HasProgram bytes t → HasTree bytes (IsTypedWith P) → P t
  of_program P t has h =
      let typed : HasProgram bytes h.4.0 = (h.0, h.1, h.2, h.3, h.4.1) in
      subst P (same_program bytes h.4.0 t typed has) h.4.2

  -- what is laid out has no fault
  pub profiled_no_fault : (image : Contents) (frames : List Frame) (entered : List ℕ) (fault : ProfileFault) → IsProfiled o bytes r image frames entered → HasFault o bytes r fault → ⊥
  profiled_no_fault image frames entered (Lex why) p f = program_no_fault (search_options o) bytes p.program (build.Lex why) (program_of image frames entered p) f
  profiled_no_fault image frames entered (Parse why) p f = program_no_fault (search_options o) bytes p.program (build.Parse why) (program_of image frames entered p) f
  profiled_no_fault image frames entered (Types why) p f = program_no_fault (search_options o) bytes p.program (build.Types why) (program_of image frames entered p) f
  profiled_no_fault image frames entered OtherSource p f =
      of_program (λ t. HasLayoutFault o r t OtherSource) p.program (program_of image frames entered p) f p.laid_out.shape
  profiled_no_fault image frames entered (Plan why) p f =
      let h = of_program (λ t. HasLayoutFault o r t (Plan why)) p.program (program_of image frames entered p) f in
      image_no_plan_fault (searched o r p.program) p.program image why p.laid_out.has h.1
  profiled_no_fault image frames entered (Link why) p f =
      let h = of_program (λ t. HasLayoutFault o r t (Link why)) p.program (program_of image frames entered p) f in
      image_no_link_fault (searched o r p.program) p.program image why p.laid_out.has h.1
  profiled_no_fault image frames entered NoMemory p f = of_program (λ t. HasLayoutFault o r t NoMemory) p.program (program_of image frames entered p) f

  -- an image of another source goes with a typed program, and with a shape that isn't that of the program
  program_in : (P : ProgramTree → Type 0) (h : HasTree bytes (IsTypedWith P)) → HasProgram bytes h.4.0
  program_in P h = (h.0, h.1, h.2, h.3, h.4.1)

  -- where the image is one of another source, there is no fault of the source
  pub other_source_alone : (fault : ProfileFault) → HasFault o bytes r OtherSource → HasFault o bytes r fault → fault ≡ OtherSource
  other_source_alone (Lex why) h f = absurd (program_no_fault (search_options o) bytes h.4.0 (build.Lex why) (program_in _ h) f)
  other_source_alone (Parse why) h f = absurd (program_no_fault (search_options o) bytes h.4.0 (build.Parse why) (program_in _ h) f)
  other_source_alone (Types why) h f = absurd (program_no_fault (search_options o) bytes h.4.0 (build.Types why) (program_in _ h) f)
  other_source_alone OtherSource h f = refl
  other_source_alone (Plan why) h f = absurd (h.4.2 (of_program (λ t. HasLayoutFault o r t (Plan why)) h.4.0 (program_in _ h) f).0)
  other_source_alone (Link why) h f = absurd (h.4.2 (of_program (λ t. HasLayoutFault o r t (Link why)) h.4.0 (program_in _ h) f).0)
  other_source_alone NoMemory h f = absurd (of_program (λ t. HasLayoutFault o r t NoMemory) h.4.0 (program_in _ h) f)

  pub memory_no_fault : HasFault o bytes r NoMemory → ⊥
  memory_no_fault f = f.4.2

-- an image that the source is compiled to has the shape of its program, so it isn't one of another source
pub own_image_accepted : (built : Options) (o : ProfileOptions) (bytes : List ℕ) (r : Recording) (frames : List Frame) → IsBuilt built bytes r.image frames → HasFault o bytes r OtherSource → ⊥
own_image_accepted built o bytes r frames b f =
    of_program o bytes r (λ t. HasLayoutFault o r t OtherSource) b.program (b.tokens, b.source, b.lexes, b.is_source, b.typed) f (has_shape built bytes r.image frames b)

-- so no call says that it is
pub never_other : {A : Type 0} (built : Options) (o : ProfileOptions) (bytes : List ℕ) (r : Recording) (frames : List Frame) (t : ProgramTree) (made : Result A ProfileFault) → IsBuilt built bytes r.image frames → HasProgram bytes t
    → IfErr made (λ why. why ≢ NoMemory → HasLayoutFault o r t why) → IfErr made (λ why. why ≢ OtherSource)
never_other built o bytes r frames t (Ok a) b has says = tt
never_other built o bytes r frames t (Err why) b has says =
    λ is. own_image_accepted built o bytes r frames b (has.0, has.1, has.2, has.3, (t, has.4, subst (HasLayoutFault o r t) is (says (λ none. apart (sym is ∙ none)))))
  where
    apart : OtherSource ≡ NoMemory → ⊥
    apart e = cc

pub source_fault_apart : (fault : BuildFault) → of_build_fault fault ≢ OtherSource
source_fault_apart (build.Lex why) = λ e. cc
source_fault_apart (build.Parse why) = λ e. cc
source_fault_apart (build.Types why) = λ e. cc
source_fault_apart (build.Plan why) = λ e. cc
source_fault_apart (build.Link why) = λ e. cc
source_fault_apart build.NoMemory = λ e. cc
