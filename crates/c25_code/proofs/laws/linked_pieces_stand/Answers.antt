use Rattle.c25_code.proofs.PiecesStand.{all_stand, image_stands}
use Rattle.c25_code.proofs.laws.linked_pieces_stand.Goals as goal

pub returns : goal.returns
returns c = record {
  pieces = all_stand;
  image = image_stands;
}
