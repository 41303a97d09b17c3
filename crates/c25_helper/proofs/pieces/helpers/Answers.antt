use Rattle.std.proofs.Common.{◌≡◌, map, arith}
use Rattle.std.proofs.lemmas.Grind.{common_steps}
use Rattle.c25_isa.specs.Pieces.{piece_of}
use Rattle.c25_helper.specs.Routines.{helper_pieces}
use Rattle.c25_helper.proofs.HelperPieces.{all_help, pieces_help}
use Rattle.c25_helper.proofs.Answering.{all_answer}
use Rattle.c25_helper.proofs.pieces.helpers.Goals as goal

pub returns-clause-results : goal.returns-clause-results
returns-clause-results c =
    let are : map piece_of c.loop-routine.pieces.items ≡ helper_pieces = grind (arith, common_steps) in
    pieces_help (map piece_of c.loop-routine.pieces.items) helper_pieces are all_help

pub returns-clause-answers : goal.returns-clause-answers
returns-clause-answers c =
    let are : map piece_of c.loop-routine.pieces.items ≡ helper_pieces = grind (arith, common_steps) in
    all_answer (map piece_of c.loop-routine.pieces.items) are
