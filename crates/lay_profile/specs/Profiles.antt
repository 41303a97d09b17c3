-- What a source is compiled to with layouts for a recorded run, and why it isn't (docs/LAYOUT.md, "Recorded runs").
use Rattle.std.specs.Prelude.{◌≡◌, ◌≤◌, ℕ, ◌+◌, ◌*◌, List, length, map, slice_get, Some}
use Rattle.c25_isa.specs.Agrees.{Agrees}
use Rattle.c25_isa.specs.Image.{Contents}
use Rattle.lay_model.specs.Sequences.{Sequence}
use Rattle.lay_cost.specs.Placements.{Placement, IsPlacement}
use Rattle.cc_compile.specs.c_rules.Checked.{IsTyped}
use Rattle.cc_compile.specs.c_syntax.Counts.{unit_count}
use Rattle.cc_compile.specs.c_syntax.Lexes.{Lexes}
use Rattle.cc_compile.specs.c_syntax.Source.{IsSource}
use Rattle.cc_compile.specs.c_syntax.SyntaxTree.{UnitTree}
use Rattle.cc_compile.specs.c_syntax.declared.token.Token.{Token}
use Rattle.cc_compile.specs.c_tree.SourceRun.{source_run}
use Rattle.cc_compile.specs.c_tree.TypedTree.{ProgramTree}
use Rattle.cc_compile.specs.Compiles.{HaveNames}
use Rattle.cc_compile.specs.Images.{FrameJobs, HasFrames, HasImage, HasLinkFault, HasPlanFault, IsDirect, KeepsRuns, LeadsRight, ListsFrames, TreeKeepsRuns}
use Rattle.cc_compile.specs.declared.fault.BuildFault.TheVariants as build
use Rattle.cc_compile.specs.image_proof.Agreeing.{EndsInTime}
use Rattle.cc_compile.specs.lay_cert.Frames.{Frame}
use Rattle.cc_compile.specs.lay_cert.declared.certificate.Claim.TheVariants.{Optimal}
use Rattle.cc_compile.specs.Walked.{AreWalkedAs}
use Rattle.cc_compile.specs.SourceFaults.{HasNoProgramFor, HasTree, IsTypedWith}
use Rattle.lay_profile.specs.declared.fault.ProfileFault.{ProfileFault}
use Rattle.lay_profile.specs.declared.fault.ProfileFault.TheVariants.{Lex, Parse, Types, OtherSource, Plan, Link}
use Rattle.lay_profile.specs.declared.options.ProfileOptions.{ProfileOptions}
use Rattle.lay_profile.specs.Recordings.{Recording, counts_of, entered_from, recorded_jobs, search_options, weighed_from}
use Rattle.lay_profile.specs.Shapes.{HasShapeOf, accesses_of}
use Rattle.lay_profile.specs.Weighing.{arranged_run_cost, run_cost}

-- a frame costs the address instructions that the run's blocks need by its layout. Where it is claimed to be optimal, no placement over its registers
-- needs fewer.
pub record HasRunCost (accesses : Sequence) (counts : List ℕ) (f : Frame) : Type 0 where
  pub cost : f.cost ≡ arranged_run_cost accesses counts f.arr
  pub least : f.claim ≡ Optimal → (p : Placement) → IsPlacement accesses f.registers p → f.cost ≤ run_cost accesses counts p

-- so do frames of functions in order, each by how often the run enters its blocks
abbrev pub HaveRunCosts : Recording → List Sequence → List Frame → Type 0
HaveRunCosts r sequences frames = (k : ℕ) (accesses : Sequence) (f : Frame) → slice_get sequences k ≡ Some accesses → slice_get frames k ≡ Some f → HasRunCost accesses (counts_of r k) f

-- what is searched for a program
abbrev pub searched : ProfileOptions → Recording → ProgramTree → FrameJobs
searched o r t = recorded_jobs (search_options o) r t

-- a typed program, whose shape the recorded image has, has the image and the frames, which are laid out for the run. The words do what the program does
pub record IsLaidOut (o : ProfileOptions) (r : Recording) (t : ProgramTree) (image : Contents) (frames : List Frame) (entered : List ℕ) : Type 0 where
  pub shape : HasShapeOf r.image t
  pub has : HasImage (searched o r t) t image
  pub framed : HasFrames (searched o r t) t frames
  -- a range and a frame for each function, in order, by its name
  pub names : HaveNames t image frames
  -- each frame is laid out for the accesses of its function in the source, weighed by how often the run enters their blocks
  pub sequences : map (λ (f : Frame). f.seq) frames ≡ weighed_from r 0 (accesses_of t)
  pub costs : HaveRunCosts r (accesses_of t) frames
  -- what its accumulator code and its word tree do is what the program does
  pub keeps : ∥ KeepsRuns (searched o r t) t ∥₁
  pub tree : ∥ TreeKeepsRuns (searched o r t) t ∥₁
  -- and so is what the image does, wherever C defines what the program does; where the program ends, in time
  pub agrees : ∥ Agrees (source_run t) image.words ∥₁
  pub in_time : ∥ EndsInTime t image.words ∥₁
  -- the words of each function access what the source says, where its frame says
  pub walked : ∥ AreWalkedAs image (accesses_of t) frames ∥₁
  -- no direct operand of them names a word of its scalars
  pub direct : ∥ IsDirect (searched o r t) t image ∥₁
  -- jumps lead to first words of instructions of their ranges, and calls to those of ranges and of routines
  pub leads : ∥ LeadsRight (searched o r t) t image ∥₁
  -- along its code in each run, words of a function's scalars are accessed as walks list it, or through another address register than AR2 to AR5
  pub listed : ∥ ListsFrames (searched o r t) t image ∥₁
  pub is_entered : entered ≡ entered_from r 0 (accesses_of t)

-- the bytes have a tree, and this a typed program that is laid out so
pub record IsProfiled (o : ProfileOptions) (bytes : List ℕ) (r : Recording) (image : Contents) (frames : List Frame) (entered : List ℕ) : Type 0 where
  pub tokens : List Token
  pub source : UnitTree
  pub program : ProgramTree
  pub lexes : Lexes bytes tokens
  pub is_source : IsSource tokens source
  pub typed : IsTyped source program
  pub laid_out : IsLaidOut o r program image frames entered
  -- of few words for its expressions, statements and declared items
  pub short : length image.words ≤ 1000 + 64 * unit_count source

-- what each fault says of a typed program
abbrev pub HasLayoutFault : ProfileOptions → Recording → ProgramTree → ProfileFault → Type 0
HasLayoutFault o r t OtherSource = ¬ HasShapeOf r.image t
HasLayoutFault o r t (Plan why) = HasShapeOf r.image t × HasPlanFault t why
HasLayoutFault o r t (Link why) = HasShapeOf r.image t × HasLinkFault (searched o r t) t why
HasLayoutFault o r t why = ⊥

-- what each fault says of the bytes of a source and of the recorded image. Want of memory is no fault of them.
abbrev pub HasFault : ProfileOptions → List ℕ → Recording → ProfileFault → Type 0
HasFault o bytes r (Lex why) = HasNoProgramFor (build.Lex why) bytes
HasFault o bytes r (Parse why) = HasNoProgramFor (build.Parse why) bytes
HasFault o bytes r (Types why) = HasNoProgramFor (build.Types why) bytes
HasFault o bytes r why = HasTree bytes (IsTypedWith (λ program. HasLayoutFault o r program why))
