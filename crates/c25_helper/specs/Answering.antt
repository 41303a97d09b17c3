-- Which pieces answer calls of routines: any that come back as a routine does, our own among them.
use Rattle.std.specs.Prelude.{◌≡◌, true, List, Some}
use Rattle.c25_isa.specs.Pieces.{Piece}
use Rattle.c25_code.specs.Links.{first_piece, PieceIsFit}
use Rattle.c25_helper.specs.declared.routine.Routine.{Routine}
use Rattle.c25_helper.specs.Routines.{routine_name}
use Rattle.c25_helper.specs.Calls.{pieces_call}
use Rattle.c25_helper.specs.Results.{HelperResult}

-- the first of these pieces that has a routine's name does what is asked of the routine, and its marks are fit
pub record AnswerFor (r : Routine) (pieces : List Piece) : Type 0 where
  pub piece : Piece
  pub there : first_piece pieces (routine_name r) ≡ Some piece
  pub fit : PieceIsFit piece
  pub result : HelperResult r piece.items

-- so it is of each routine that other pieces call
abbrev pub AnswersCalls : List Piece → List Piece → Type 0
AnswersCalls pieces routines = (r : Routine) → pieces_call (routine_name r) pieces ≡ true → AnswerFor r routines

-- or of every routine
abbrev pub AllAnswer : List Piece → Type 0
AllAnswer routines = (r : Routine) → AnswerFor r routines
