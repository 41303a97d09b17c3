-- Whether an image can be that of a source: by the shape of its functions alone (docs/LAYOUT.md, "Recorded runs").
use Rattle.std.specs.Prelude.{◌≡◌, ℕ, List, length, map, slice_get, Some}
use Rattle.c25_isa.specs.declared.image.FunctionRange.{FunctionRange}
use Rattle.c25_isa.specs.Image.{Contents}
use Rattle.c25_isa.specs.Walk.{Blocks}
use Rattle.c25_walk.specs.Walks.{walk_of}
use Rattle.lay_model.specs.Sequences.{Sequence}
use Rattle.cc_compile.specs.Compiles.{names_of}
use Rattle.cc_compile.specs.c_tree.TypedTree.{ProgramTree}
use Rattle.cc_compile.specs.image_proof.acc_select_proof.SourceSequences.{source_sequence}

-- the walk of the function of a number has no fault, and its blocks are as long as those of a sequence
pub record HasShape (image : Contents) (k : ℕ) (accesses : Sequence) : Type 0 where
  pub blocks : List (List ℕ)
  pub walks : walk_of image k ≡ Some (Blocks blocks)
  pub lengths : map length blocks ≡ map (λ b. length b.accesses) accesses.blocks

-- the functions of an image have these names, in order, and the shapes of these sequences
pub record AreShapes (image : Contents) (names : List (List ℕ)) (sequences : List Sequence) : Type 0 where
  pub named : map (λ (f : FunctionRange). f.name) image.functions ≡ names
  pub each : (k : ℕ) (accesses : Sequence) → slice_get sequences k ≡ Some accesses → HasShape image k accesses

-- the accesses of a program's functions, in order; the step is 1
abbrev pub accesses_of : ProgramTree → List Sequence
accesses_of t = map (source_sequence 1) t.functions

-- the image has the shape of a typed program's functions
abbrev pub HasShapeOf : Contents → ProgramTree → Type 0
HasShapeOf image t = AreShapes image (names_of t) (accesses_of t)
