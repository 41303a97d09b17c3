-- Code before it is linked (docs/MACHINE.md, "Pieces"): how many words its items take, where its marks are, its instructions once marks and
-- names have addresses, and pieces in an image.
use Rattle.std.specs.Prelude.{◌≡◌, ℕ, zero, suc, ◌+◌, ◌-◌, ◌<◌, ◌≤◌, Bool, true, false, ◌==◌, if◌then◌else◌, List, [], ◌∷◌, ◌++◌, flat_map, length, slice_get, Some}
use Rattle.std.specs.Str.{bytes_eq}
use Rattle.c25_isa.specs.declared.instruction.Instr.{Instr}
use Rattle.c25_isa.specs.declared.instruction.Instr.TheVariants.{Branch, Call}
use Rattle.c25_isa.specs.declared.piece.Piece as code
use Rattle.c25_isa.specs.declared.piece.PieceItem.{PieceItem}
use Rattle.c25_isa.specs.declared.piece.PieceItem.TheVariants.{Do, Mark, Jump, CallTo}
use Rattle.c25_isa.specs.declared.image.FunctionRange.{FunctionRange}
use Rattle.c25_isa.specs.Items.{ItemsFit}
use Rattle.c25_isa.specs.State.{Memory, words_at}
use Rattle.c25_isa.specs.Table.{second_word, length_of, code_words}
use Rattle.c25_isa.specs.Step.{wrap16}
use Rattle.c25_isa.specs.CodeAt.{StandsAt, WordsAt}
use Rattle.c25_isa.specs.Image.{Contents}

-- a piece, by the list of its items
pub record Piece : Type 0 where
  pub name : List ℕ
  pub listed : Bool
  pub items : List PieceItem

-- the piece that one in memory stands for
abbrev pub piece_of : code.Piece → Piece
piece_of p = record { name = p.name; listed = p.listed; items = p.items.items }

-- how many words an item takes
abbrev pub item_size : PieceItem → ℕ
item_size (Do i) = length_of (second_word i)
item_size (Mark mark) = 0
item_size (Jump op to o) = 2
item_size (CallTo name o) = 2

abbrev pub items_size : List PieceItem → ℕ
items_size [] = 0
items_size (item ∷ items) = item_size item + items_size items

abbrev pub is_mark : ℕ → PieceItem → Bool
is_mark mark (Do i) = false
is_mark mark (Mark other) = other == mark
is_mark mark (Jump op to o) = false
is_mark mark (CallTo name o) = false

-- the address of a mark in items that stand from an address on; of one that isn't there, the address behind them
abbrev pub mark_address : ℕ → List PieceItem → ℕ → ℕ
mark_address at [] mark = at
mark_address at (item ∷ items) mark = if is_mark mark item then at else mark_address (at + item_size item) items mark

-- the instructions of an item, where marks and names have addresses
abbrev pub item_code : (ℕ → ℕ) → (List ℕ → ℕ) → PieceItem → List Instr
item_code marks names (Do i) = i ∷ []
item_code marks names (Mark mark) = []
item_code marks names (Jump op to o) = Branch op (marks to) o ∷ []
item_code marks names (CallTo name o) = Call (names name) o ∷ []

abbrev pub items_code : (ℕ → ℕ) → (List ℕ → ℕ) → List PieceItem → List Instr
items_code marks names items = flat_map (item_code marks names) items

-- the items stand in program memory from an address on, with these addresses of marks and names
abbrev pub ItemsAt : Memory → (ℕ → ℕ) → (List ℕ → ℕ) → ℕ → List PieceItem → Type 0
ItemsAt program marks names at [] = Unit {0}
ItemsAt program marks names at (Do i ∷ items) = StandsAt program at i × ItemsAt program marks names (at + length_of (second_word i)) items
ItemsAt program marks names at (Mark mark ∷ items) = (marks mark ≡ at) × ItemsAt program marks names at items
ItemsAt program marks names at (Jump op to o ∷ items) = StandsAt program at (Branch op (marks to) o) × ItemsAt program marks names (at + 2) items
ItemsAt program marks names at (CallTo name o ∷ items) = StandsAt program at (Call (names name) o) × ItemsAt program marks names (at + 2) items

-- the instructions of a piece that stands at an address: a mark is known in its own piece alone, and addresses wrap
abbrev pub piece_code : (List ℕ → ℕ) → ℕ → Piece → List Instr
piece_code names at p = items_code (λ mark. wrap16 (mark_address at p.items mark)) names p.items

-- the address of the first piece of a name, where the pieces of a list have addresses by their numbers in it; a name that no piece has gets that of
-- the number behind the last one
abbrev pub address_in : (ℕ → ℕ) → List Piece → List ℕ → ℕ
address_in place [] name = place 0
address_in place (p ∷ ps) name = if bytes_eq p.name name then place 0 else address_in (λ k. place (suc k)) ps name

-- where pieces stand one behind another from an address on: the address of the piece of a number, and behind the last one that behind all
abbrev pub places_from : ℕ → List Piece → ℕ → ℕ
places_from at [] k = at
places_from at (p ∷ ps) zero = at
places_from at (p ∷ ps) (suc k) = places_from (at + items_size p.items) ps k

-- then the address of the first piece of a name; where there is none, that behind them
abbrev pub piece_address : ℕ → List Piece → List ℕ → ℕ
piece_address at [] name = at
piece_address at (p ∷ ps) name = if bytes_eq p.name name then at else piece_address (at + items_size p.items) ps name

-- and their instructions
abbrev pub pieces_code : (List ℕ → ℕ) → ℕ → List Piece → List Instr
pieces_code names at [] = []
pieces_code names at (p ∷ ps) = piece_code names at p ++ pieces_code names (at + items_size p.items) ps

-- operands are in their ranges, as those of each piece in memory are
abbrev pub PiecesFit : List Piece → Type 0
PiecesFit [] = Unit {0}
PiecesFit (p ∷ ps) = ItemsFit p.items × PiecesFit ps

-- the range of so many words from an address on
abbrev pub range_of : List ℕ → ℕ → ℕ → FunctionRange
range_of name at size = record { name = name; first = at; last = at + size - 1 }

-- the ranges of those that are listed, in their order
abbrev pub ranges_in : (ℕ → ℕ) → List Piece → List FunctionRange
ranges_in place [] = []
ranges_in place (p ∷ ps) =
    (if p.listed then range_of p.name (place 0) (items_size p.items) ∷ [] else []) ++ ranges_in (λ k. place (suc k)) ps

-- those of pieces one behind another from an address on
abbrev pub listed_ranges : ℕ → List Piece → List FunctionRange
listed_ranges at [] = []
listed_ranges at (p ∷ ps) =
    (if p.listed then range_of p.name at (items_size p.items) ∷ [] else [])
    ++ listed_ranges (at + items_size p.items) ps

-- each that is listed has a word
abbrev pub ListedHaveWords : List Piece → Type 0
ListedHaveWords [] = Unit {0}
ListedHaveWords (p ∷ ps) = (p.listed ≡ true → 1 ≤ items_size p.items) × ListedHaveWords ps

-- the words of a piece are among other words from an address on
pub record IsPlacedAt (words : List ℕ) (names : List ℕ → ℕ) (at : ℕ) (p : Piece) : Type 0 where
  pub code : WordsAt (words_at words) at (code_words (piece_code names at p))
  pub within : at + items_size p.items ≤ length words

-- a word is one of the piece of a number
pub record IsWordOf (place : ℕ → ℕ) (pieces : List Piece) (k a : ℕ) : Type 0 where
  pub piece : Piece
  pub there : slice_get pieces k ≡ Some piece
  pub begins : place k ≤ a
  pub within : a < place k + items_size piece.items

-- an image is linked from pieces: each has an address, the first one that of program word 0, and from there on the words of its instructions, with
-- each mark and name replaced by its address. No word is one of two pieces, and each is one of a piece
pub record Linked (pieces : List Piece) (image : Contents) : Type 0 where
  pub place : ℕ → ℕ
  pub first : place 0 ≡ 0
  pub placed : (k : ℕ) (p : Piece) → slice_get pieces k ≡ Some p → IsPlacedAt image.words (λ name. wrap16 (address_in place pieces name)) (place k) p
  pub apart : (j k a : ℕ) → IsWordOf place pieces j a → IsWordOf place pieces k a → j ≡ k
  pub filled : (a : ℕ) → a < length image.words → (k : ℕ) × IsWordOf place pieces k a
  pub functions : image.functions ≡ ranges_in place pieces
  pub listed : ListedHaveWords pieces
