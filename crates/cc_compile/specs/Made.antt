-- How a source is compiled: which image, by which code, and what each pass keeps. The promises of `Compiles` don't cite it.
use Rattle.std.specs.Prelude.{List, ℕ}
use Rattle.c_tree.specs.TypedTree.{ProgramTree}
use Rattle.c25_isa.specs.Image.{Contents}
use Rattle.frame_layouts.specs.lay_cert.Frames.{Frame}
use Rattle.frame_layouts.specs.declared.options.Options.{Options}
use Rattle.cc_compile.specs.Images.{HasFrames, HasImage, KeepsRuns, LeadsRight, ListsFrames, TreeKeepsRuns, source_jobs}
use Rattle.cc_compile.specs.SourceFaults.{HasProgram}

pub record IsMade (o : Options) (bytes : List ℕ) (image : Contents) (frames : List Frame) : Type 0 where
  pub program : ProgramTree
  pub typed : HasProgram bytes program
  -- the image is linked from the pieces that are emitted and the routines, and the frames are those of the search
  pub has : HasImage (source_jobs o program) program image
  pub framed : HasFrames (source_jobs o program) program frames
  -- what its word tree does, with objects where the plan has them, is what the program does, with no more work
  pub tree : ∥ TreeKeepsRuns (source_jobs o program) program ∥₁
  -- and so is what its accumulator code does
  pub keeps : ∥ KeepsRuns (source_jobs o program) program ∥₁
  -- jumps lead to first words of instructions of their ranges, and calls to those of ranges and of routines
  pub leads : ∥ LeadsRight (source_jobs o program) program image ∥₁
  -- along its code in each run, words of a function's scalars are accessed as walks list it, or through another address register than AR2 to AR5
  pub listed : ∥ ListsFrames (source_jobs o program) program image ∥₁
