-- What is left of pieces behind the first of them.
use Rattle.std.proofs.Common.{◌≡◌, ℕ, ◌+◌, ◌<◌, List, ◌∷◌, length, get_or, drop, map, ap, sym, ◌∙◌}
use Rattle.std.proofs.lemmas.List.{drop_more}
use Rattle.std.proofs.lemmas.List.Sums.{sum_by-cons}
use Rattle.c25_isa.specs.declared.piece.Piece as code
use Rattle.c25_isa.specs.declared.piece.PieceItem.{PieceItem}
use Rattle.c25_isa.specs.Pieces.{Piece, piece_of, item_size, items_size}
use Rattle.c25_link.specs.Linking.{pieces_words}

-- from an index on, by the one there
pub items_more : (items : List PieceItem) (i : ℕ) (item : PieceItem) → i < length items → item ≡ get_or items i item → drop i items ≡ item ∷ drop (i + 1) items
items_more items i item within is = drop_more items i item within ∙ ap (λ x. x ∷ drop (i + 1) items) (sym is)

pub pieces_more : (pieces : List code.Piece) (i : ℕ) (p : code.Piece) → i < length pieces → p ≡ get_or pieces i p → map piece_of (drop i pieces) ≡ piece_of p ∷ map piece_of (drop (i + 1) pieces)
pieces_more pieces i p within is = ap (map piece_of) (drop_more pieces i p within) ∙ ap (λ x. piece_of x ∷ map piece_of (drop (i + 1) pieces)) (sym is)

pub items_size_more : (items : List PieceItem) (i : ℕ) (item : PieceItem) → i < length items → item ≡ get_or items i item → items_size (drop i items) ≡ item_size item + items_size (drop (i + 1) items)
items_size_more items i item within is = ap items_size (items_more items i item within is)

pub pieces_words_more : (pieces : List code.Piece) (i : ℕ) (p : code.Piece) → i < length pieces → p ≡ get_or pieces i p → pieces_words (map piece_of (drop i pieces)) ≡ items_size p.items.items + pieces_words (map piece_of (drop (i + 1) pieces))
pieces_words_more pieces i p within is =
    ap pieces_words (pieces_more pieces i p within is)
    ∙ sum_by-cons (λ (q : Piece). items_size q.items) (piece_of p) (map piece_of (drop (i + 1) pieces))
