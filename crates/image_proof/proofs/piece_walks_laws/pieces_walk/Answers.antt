use Rattle.image_proof.proofs.FunctionWalks.{code_is, direct_is, walk_is, count_is}
use Rattle.image_proof.proofs.piece_walks_laws.pieces_walk.Goals as goal

pub returns : goal.returns
returns c = record {
  blocks = λ pieces image linked name p m body cost h walks. walk_is pieces image linked name p m body h cost walks;
  count = λ pieces image linked name p m body cost h free walks. count_is pieces image linked name p m body h cost free walks;
  direct = λ pieces image linked name p m body own places given h keeps direct. direct_is pieces image linked name p m body h own places given keeps direct;
  code = code_is;
}
