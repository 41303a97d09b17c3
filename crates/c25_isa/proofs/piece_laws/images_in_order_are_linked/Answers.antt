use Rattle.c25_isa.proofs.InOrder.{in_order_linked}
use Rattle.c25_isa.proofs.piece_laws.images_in_order_are_linked.Goals as goal

pub returns : goal.returns
returns c = record { linked = in_order_linked }
