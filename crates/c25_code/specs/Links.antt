-- Pieces in program memory: the first of a name, its marks, and what is asked of the marks of a piece.
use Rattle.std.specs.Prelude.{◌⊎◌, ◌≡◌, ℕ, suc, ◌+◌, ◌<◌, ◌≤◌, if◌then◌else◌, List, [], ◌∷◌, slice_get, Option, Some, None}
use Rattle.std.specs.Str.{bytes_eq}
use Rattle.c25_isa.specs.declared.piece.PieceItem.{PieceItem}
use Rattle.c25_isa.specs.declared.piece.PieceItem.TheVariants.{Do, Mark, Jump, CallTo}
use Rattle.c25_isa.specs.Step.{wrap16}
use Rattle.c25_isa.specs.State.{Memory}
use Rattle.c25_isa.specs.CodeAt.{CodeAt}
use Rattle.c25_isa.specs.Pieces.{Piece, items_size, mark_address, piece_code, address_in, ItemsAt}

abbrev pub IsMarkOf : ℕ → List PieceItem → Type 0
IsMarkOf m [] = ⊥
IsMarkOf m (Do i ∷ items) = IsMarkOf m items
IsMarkOf m (Mark mark ∷ items) = (mark ≡ m) ⊎ IsMarkOf m items
IsMarkOf m (Jump op to o ∷ items) = IsMarkOf m items
IsMarkOf m (CallTo name o ∷ items) = IsMarkOf m items

-- no mark stands twice
abbrev pub MarksDiffer : List PieceItem → Type 0
MarksDiffer [] = Unit {0}
MarksDiffer (Do i ∷ items) = MarksDiffer items
MarksDiffer (Mark mark ∷ items) = (IsMarkOf mark items → ⊥) × MarksDiffer items
MarksDiffer (Jump op to o ∷ items) = MarksDiffer items
MarksDiffer (CallTo name o ∷ items) = MarksDiffer items

-- a word stands behind each mark
abbrev pub MarksAtWords : List PieceItem → Type 0
MarksAtWords [] = Unit {0}
MarksAtWords (Do i ∷ items) = MarksAtWords items
MarksAtWords (Mark mark ∷ items) = (1 ≤ items_size items) × MarksAtWords items
MarksAtWords (Jump op to o ∷ items) = MarksAtWords items
MarksAtWords (CallTo name o ∷ items) = MarksAtWords items

-- items whose marks differ and lie in a range
pub record OwnMarks (low high : ℕ) (items : List PieceItem) : Type 0 where
  pub apart : MarksDiffer items
  pub between : (m : ℕ) → IsMarkOf m items → (low ≤ m) × (m < high)

-- the first piece of a name
abbrev pub first_piece : List Piece → List ℕ → Option Piece
first_piece [] name = None
first_piece (p ∷ ps) name = if bytes_eq p.name name then Some p else first_piece ps name

-- where pieces have addresses by their numbers: the address of a name, and those of the marks of its first piece
abbrev pub address_of : (ℕ → ℕ) → List Piece → List ℕ → ℕ
address_of place all name = wrap16 (address_in place all name)

abbrev pub marks_of : (ℕ → ℕ) → List Piece → List ℕ → ℕ → ℕ
marks_of place [] name mark = 0
marks_of place (p ∷ ps) name mark = if bytes_eq p.name name then wrap16 (mark_address (place 0) p.items mark) else marks_of (λ k. place (suc k)) ps name mark

-- the instructions of each piece stand at its address, where names have these addresses
pub record EachIsInMemory (program : Memory) (names : List ℕ → ℕ) (place : ℕ → ℕ) (all : List Piece) : Type 0 where
  pub code : (k : ℕ) (p : Piece) → slice_get all k ≡ Some p → CodeAt program (place k) (piece_code names (place k) p)
  pub ends : (k : ℕ) (p : Piece) → slice_get all k ≡ Some p → place k + items_size p.items ≤ 65536

-- marks differ, a word stands behind each, and there is a word
abbrev pub MarksAreFit : List PieceItem → Type 0
MarksAreFit items = MarksDiffer items × MarksAtWords items × (1 ≤ items_size items)

abbrev pub PieceIsFit : Piece → Type 0
PieceIsFit p = MarksAreFit p.items

-- the first piece of each name stands at its address with its marks, where these are fit
abbrev pub AllStand : Memory → (ℕ → ℕ) → List Piece → Type 0
AllStand program place all = (name : List ℕ) (p : Piece) → first_piece all name ≡ Some p → PieceIsFit p
    → ItemsAt program (marks_of place all name) (address_of place all) (address_of place all name) p.items × (address_of place all name + items_size p.items ≤ 65536)
