-- Where the jumps and the calls of a function's range lead.
use Rattle.std.specs.Prelude.{◌≡◌, ◌⊎◌, ℕ, ◌==◌, List, slice_get, Option, Some, None, IfSome, IsTrue}
use Rattle.std.specs.List.{list_any, AllByRecursion}
use Rattle.c25_isa.specs.declared.image.FunctionRange.{FunctionRange}
use Rattle.c25_isa.specs.declared.instruction.Instr.{Instr}
use Rattle.c25_isa.specs.declared.instruction.Instr.TheVariants.{Call}
use Rattle.c25_isa.specs.Image.{Contents}
use Rattle.c25_isa.specs.Pieces.{Piece, address_in}
use Rattle.c25_isa.specs.Walk.{Code, code_of, jump_target}
use Rattle.image_proof.specs.c25_helper.declared.routine.Routine.{Routine}
use Rattle.image_proof.specs.c25_helper.Routines.{routine_name}
use Rattle.image_proof.specs.c25_helper.Answering.{AnswerFor}
use Rattle.image_proof.specs.Emissions.{Emission}
use Rattle.tree_code.specs.WordTree.{FunctionCode}
use Rattle.acc_code.specs.AccTree.{FunctionItems}
use Rattle.mem_plan.specs.declared.data_plan.FramePlan.{FramePlan}
use Rattle.image_proof.specs.FunctionWalks.{IsFunctionOf}
use Rattle.image_proof.specs.Keeping.{all_pieces}

-- each jump of code leads to the first word of one of its instructions
abbrev pub JumpsWithin : Code → Type 0
JumpsWithin code = AllByRecursion (λ p. IfSome (jump_target p.instr) (λ to. IsTrue (list_any (λ q. q.at == to) code.placed))) code.placed

-- the word that a call names
abbrev pub call_target : Instr → Option ℕ
call_target (Call to i) = Some to
call_target i = None

-- a function's range begins at a word
pub record BeginsRange (image : Contents) (to : ℕ) : Type 0 where
  pub number : ℕ
  pub range : FunctionRange
  pub there : slice_get image.functions number ≡ Some range
  pub first : to ≡ range.first

-- a piece that answers for a routine does, where pieces have these places
pub record BeginsRoutine (place : ℕ → ℕ) (pieces : List Piece) (to : ℕ) : Type 0 where
  pub routine : Routine
  pub answer : AnswerFor routine pieces
  pub first : to ≡ address_in place pieces (routine_name routine)

-- each call of code leads to the first word of a function's range, or of a routine
abbrev pub CallsRight : (ℕ → ℕ) → List Piece → Contents → Code → Type 0
CallsRight place pieces image code = AllByRecursion (λ p. IfSome (call_target p.instr) (λ to. BeginsRange image to ⊎ BeginsRoutine place pieces to)) code.placed

-- a function has a range in the image, whose jumps and calls lead to such words
pub record HasTargets (place : ℕ → ℕ) (pieces : List Piece) (image : Contents) (k : ℕ) : Type 0 where
  pub range : FunctionRange
  pub there : slice_get image.functions k ≡ Some range
  pub jumps : JumpsWithin (code_of image.words range.first range.last)
  pub calls : CallsRight place pieces image (code_of image.words range.first range.last)

-- so it is of each function, where its pieces and routines have these places
abbrev pub AllHaveTargets : Emission → List Piece → (ℕ → ℕ) → Contents → Type 0
AllHaveTargets e routines place image = (k : ℕ) (code : FunctionCode) (g : FunctionItems) (frame : FramePlan) (lists : List (List ℕ)) → IsFunctionOf e k code g frame lists
    → HasTargets place (all_pieces e routines) image k
