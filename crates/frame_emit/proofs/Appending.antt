-- Items one behind another.
use Rattle.std.proofs.Common.{◌≡◌, refl, ap, List, [], ◌∷◌, ◌++◌, append_assoc, append-nil}
use Rattle.c25_isa.specs.declared.instruction.Instr.{Instr}
use Rattle.c25_isa.specs.declared.piece.PieceItem.TheVariants.{Do}
use Rattle.c25_isa.specs.declared.piece.PieceItem.{PieceItem}
use Rattle.c25_isa.specs.Items.{ItemFits, ItemsFit}
use Rattle.c25_code.specs.Items.{plain_items}

pub one_more_fits : (items : List PieceItem) (item : PieceItem) → ItemsFit items → ItemFits item → ItemsFit (items ++ item ∷ [])
one_more_fits [] item fit one = (one, tt)
one_more_fits (x ∷ items) item fit one = (fit.0, one_more_fits items item fit.1 one)

pub plain_items_of_both : (a b : List Instr) → plain_items (a ++ b) ≡ plain_items a ++ plain_items b
plain_items_of_both [] b = refl
plain_items_of_both (i ∷ a) b = ap (λ items. Do i ∷ items) (plain_items_of_both a b)

-- what every appender stands on
pub ruleset appended = (append_assoc, append-nil, plain_items_of_both)
