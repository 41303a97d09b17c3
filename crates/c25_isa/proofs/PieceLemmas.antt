-- The instructions of pieces whose operands are in range are so too.
use Rattle.std.proofs.Common.{ℕ, ◌+◌, ◌<◌, List, [], ◌∷◌, ◌++◌, arith}
use Rattle.std.specs.List.{AllByRecursion}
use Rattle.c25_isa.specs.declared.instruction.Instr.{Instr}
use Rattle.c25_isa.specs.declared.piece.PieceItem.{PieceItem}
use Rattle.c25_isa.specs.declared.piece.PieceItem.TheVariants.{Do, Mark, Jump, CallTo}
use Rattle.c25_isa.specs.Table.{IsInstr}
use Rattle.c25_isa.specs.Step.{wrap16}
use Rattle.c25_isa.specs.Items.{ItemsFit}
use Rattle.c25_isa.specs.Pieces.{Piece, items_size, mark_address, items_code, piece_code, pieces_code, PiecesFit}

instrs-append : (a b : List Instr) → AllByRecursion IsInstr a → AllByRecursion IsInstr b → AllByRecursion IsInstr (a ++ b)
instrs-append [] b f g = g
instrs-append (i ∷ a) b f g = (f.0, instrs-append a b f.1 g)

items_fit : (marks : ℕ → ℕ) (names : List ℕ → ℕ) → ((m : ℕ) → marks m < 65536) → ((name : List ℕ) → names name < 65536) → (items : List PieceItem) → ItemsFit items → AllByRecursion IsInstr (items_code marks names items)
items_fit marks names low below [] fit = tt
items_fit marks names low below (Do i ∷ items) fit = (fit.0, items_fit marks names low below items fit.1)
items_fit marks names low below (Mark mark ∷ items) fit = items_fit marks names low below items fit.1
items_fit marks names low below (Jump op to o ∷ items) fit = ((low to, fit.0), items_fit marks names low below items fit.1)
items_fit marks names low below (CallTo name o ∷ items) fit = ((below name, fit.0), items_fit marks names low below items fit.1)

pub wraps_low : (n : ℕ) → wrap16 n < 65536
wraps_low n = omega arith

pub piece_fits : (names : List ℕ → ℕ) (at : ℕ) (p : Piece) → ((name : List ℕ) → names name < 65536) → ItemsFit p.items → AllByRecursion IsInstr (piece_code names at p)
piece_fits names at p below fit =
    items_fit (λ mark. wrap16 (mark_address at p.items mark)) names (λ m. wraps_low (mark_address at p.items m)) below p.items fit

pub pieces_fit : (names : List ℕ → ℕ) (pieces : List Piece) (at : ℕ) → ((name : List ℕ) → names name < 65536) → PiecesFit pieces → AllByRecursion IsInstr (pieces_code names at pieces)
pieces_fit names [] at below fit = tt
pieces_fit names (p ∷ ps) at below fit =
    instrs-append (piece_code names at p) (pieces_code names (at + items_size p.items) ps) (piece_fits names at p below fit.0) (pieces_fit names ps (at + items_size p.items) below fit.1)
