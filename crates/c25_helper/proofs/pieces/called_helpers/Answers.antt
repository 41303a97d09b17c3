use Rattle.std.proofs.Common.{◌≡◌, ◌∙◌, List, map, ap, subst}
use Rattle.std.specs.Prelude.{filter, IfOk}
use Rattle.std.proofs.lemmas.Result.{IfOk-weaker}
use Rattle.c25_isa.specs.Pieces.{Piece, piece_of}
use Rattle.c25_helper.specs.declared.called.Called.{Called}
use Rattle.c25_helper.specs.Routines.{routine_piece, all_routines}
use Rattle.c25_helper.specs.Calls.{is_called, called_helper_pieces}
use Rattle.c25_helper.proofs.CallLemmas.{called_pieces}
use Rattle.c25_helper.proofs.HelperPieces.{called_help, pieces_help}
use Rattle.c25_helper.proofs.Answering.{same_answer}
use Rattle.c25_helper.proofs.pieces.called_helpers.Goals as goal

pub returns : goal.returns
returns c =
    let pieces = map piece_of c.args.pieces.now in
    let all : map routine_piece (filter (is_called c.of.result) all_routines) ≡ called_helper_pieces pieces =
    ap (λ (called : Called). map routine_piece (filter (is_called called) all_routines)) c.of.ensures ∙ called_pieces pieces in
    let are = subst (λ (helpers : List Piece). IfOk c.pieces_of_called.result (λ ps. map piece_of ps.items ≡ helpers)) all c.pieces_of_called.ensures in
    record {
      pieces = are;
      results = IfOk-weaker c.pieces_of_called.result _ _ (λ ps e. pieces_help (map piece_of ps.items) (called_helper_pieces pieces) e (called_help pieces)) are;
      answers = IfOk-weaker c.pieces_of_called.result _ _ (λ ps e. same_answer pieces (map piece_of ps.items) e) are;
    }
