-- Instructions as items, one behind another.
use Rattle.std.proofs.Common.{◌≡◌, refl, ap, List, [], ◌∷◌, ◌++◌, append_assoc, append-nil}
use Rattle.c25_isa.specs.declared.instruction.Instr.{Instr}
use Rattle.c25_isa.specs.declared.piece.PieceItem.TheVariants.{Do}
use Rattle.c25_isa.specs.declared.piece.PieceItem.{PieceItem}
use Rattle.c25_isa.specs.Items.{ItemsFit}
use Rattle.c25_code.specs.Items.{plain_items}
use Rattle.emit_blocks.specs.Right.{AreInstrs}

pub plain_items_of_both : (a b : List Instr) → plain_items (a ++ b) ≡ plain_items a ++ plain_items b
plain_items_of_both [] b = refl
plain_items_of_both (i ∷ a) b = ap (λ items. Do i ∷ items) (plain_items_of_both a b)

-- what every appender stands on
pub ruleset appended = (append_assoc, append-nil, plain_items_of_both)

plain_items_fit : (code : List Instr) → AreInstrs code → ItemsFit (plain_items code)
plain_items_fit [] fit = tt
plain_items_fit (i ∷ is) fit = (fit.0, plain_items_fit is fit.1)

pub items_fit : (items : List PieceItem) (code : List Instr) → ItemsFit items → AreInstrs code → ItemsFit (items ++ plain_items code)
items_fit [] code fit more = plain_items_fit code more
items_fit (x ∷ items) code fit more = (fit.0, items_fit items code fit.1 more)
