-- The marks and the names that items name, and where they stand (docs/MACHINE.md, "Pieces").
use Rattle.std.specs.Prelude.{◌≡◌, ℕ, List, [], ◌∷◌, All, count_by}
use Rattle.std.specs.Str.{bytes_eq}
use Rattle.c25_isa.specs.declared.piece.PieceItem.{PieceItem}
use Rattle.c25_isa.specs.declared.piece.PieceItem.TheVariants.{Do, Mark, Jump, CallTo}
use Rattle.c25_isa.specs.Pieces.{Piece, is_mark}

-- the marks that items jump to
abbrev pub marks_named : List PieceItem → List ℕ
marks_named [] = []
marks_named (Do i ∷ items) = marks_named items
marks_named (Mark mark ∷ items) = marks_named items
marks_named (Jump op to o ∷ items) = to ∷ marks_named items
marks_named (CallTo name o ∷ items) = marks_named items

-- each of them stands once among them
abbrev pub HasItsMarks : List PieceItem → Type 0
HasItsMarks items = All (λ mark. count_by (is_mark mark) items ≡ 1) (marks_named items)

-- the names that items call
abbrev pub names_called : List PieceItem → List (List ℕ)
names_called [] = []
names_called (Do i ∷ items) = names_called items
names_called (Mark mark ∷ items) = names_called items
names_called (Jump op to o ∷ items) = names_called items
names_called (CallTo name o ∷ items) = name ∷ names_called items

-- each of them is that of one of these pieces, and of no other one
abbrev pub CallsPieces : List Piece → List PieceItem → Type 0
CallsPieces pieces items = All (λ name. count_by (λ p. bytes_eq p.name name) pieces ≡ 1) (names_called items)
