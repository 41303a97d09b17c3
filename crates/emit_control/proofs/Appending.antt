-- Items appended one behind another.
use Rattle.std.proofs.Common.{◌≡◌, ap, sym, subst, ◌∙◌, List, [], ◌∷◌, ◌++◌, append_assoc, append-nil}
use Rattle.c25_isa.specs.declared.piece.PieceItem.{PieceItem}
use Rattle.c25_isa.specs.Items.{ItemFits, ItemsFit}
use Rattle.emit_control.specs.Emits.{Puts}

pub both_fit : (a b : List PieceItem) → ItemsFit a → ItemsFit b → ItemsFit (a ++ b)
both_fit [] b fit more = more
both_fit (x ∷ a) b fit more = (fit.0, both_fit a b fit.1 more)

-- what every appender stands on
pub ruleset put = (append_assoc, append-nil, both_fit)
