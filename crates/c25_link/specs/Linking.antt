-- What linking makes of pieces (docs/MACHINE.md, "Pieces"): the words that they take together, the image that they become, and why they
-- become none.
use Rattle.std.specs.Prelude.{◌≡◌, ℕ, ◌<◌, ◌≤◌, true, List, All, sum_by}
use Rattle.word_base.specs.Name.{IsName}
use Rattle.c25_isa.specs.declared.piece.PieceItem.{PieceItem}
use Rattle.c25_isa.specs.Image.{Contents}
use Rattle.c25_isa.specs.Pieces.{Piece, items_size, mark_address, piece_address, pieces_code, listed_ranges}
use Rattle.c25_isa.specs.Step.{wrap16}
use Rattle.c25_isa.specs.Table.{code_words}
use Rattle.c25_code.specs.Naming.{HasItsMarks, CallsPieces}
use Rattle.c25_link.specs.declared.fault.LinkFault.{LinkFault}
use Rattle.c25_link.specs.declared.fault.LinkFault.TheVariants.{CodeFull, NoMemory}

-- how many words pieces take together
abbrev pub pieces_words : List Piece → ℕ
pieces_words pieces = sum_by (λ p. items_size p.items) pieces

-- the addresses of the marks of items that stand from an address on, and of the names of pieces from program word 0 on
abbrev pub mark_addresses : ℕ → List PieceItem → ℕ → ℕ
mark_addresses at items = λ mark. wrap16 (mark_address at items mark)

abbrev pub name_addresses : List Piece → List ℕ → ℕ
name_addresses pieces = λ name. wrap16 (piece_address 0 pieces name)

-- the image of pieces one behind another from program word 0 on
abbrev pub linked_image : List Piece → Contents
linked_image pieces = record {
  words = code_words (pieces_code (name_addresses pieces) 0 pieces);
  functions = listed_ranges 0 pieces;
}

-- what a piece needs to become a function, where it is listed: a name of C and a word
pub record IsLinkable (p : Piece) : Type 0 where
  pub name : p.listed ≡ true → IsName p.name
  pub words : p.listed ≡ true → 1 ≤ items_size p.items

-- what linking wants of pieces. Each mark that one names stands once in it, and each name that one calls is that of one of them
pub record AreLinkable (pieces : List Piece) : Type 0 where
  pub marks : All (λ p. HasItsMarks p.items) pieces
  pub calls : All (λ p. CallsPieces pieces p.items) pieces
  pub listed : All IsLinkable pieces

-- when each fault comes
abbrev pub IsFaultOf : List Piece → LinkFault → Type 0
IsFaultOf pieces (CodeFull words) = (words ≡ pieces_words pieces) × (65536 < words)
IsFaultOf pieces NoMemory = pieces_words pieces ≤ 65536
