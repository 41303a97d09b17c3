-- Pieces that call nothing, and whose names differ (docs/MACHINE.md, "Pieces").
use Rattle.std.specs.Prelude.{◌≡◌, false, List, [], ◌∷◌}
use Rattle.std.specs.List.{AllByRecursion}
use Rattle.std.specs.Str.{bytes_eq}
use Rattle.c25_isa.specs.declared.piece.PieceItem.{PieceItem}
use Rattle.c25_isa.specs.Pieces.{Piece}
use Rattle.c25_code.specs.Naming.{names_called}

-- they call no name
abbrev pub CallsNone : List PieceItem → Type 0
CallsNone items = names_called items ≡ []

-- no two pieces have one name
abbrev pub NamesDiffer : List Piece → Type 0
NamesDiffer [] = Unit {0}
NamesDiffer (p ∷ ps) = AllByRecursion (λ q. bytes_eq p.name q.name ≡ false) ps × NamesDiffer ps
