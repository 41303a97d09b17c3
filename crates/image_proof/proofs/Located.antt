-- The words of a piece are found in the image where its name's address is.
use Rattle.std.proofs.Common.{◌≡◌, ℕ, zero, suc, ◌+◌, ◌-◌, ◌<◌, ◌≤◌, List, [], ◌∷◌, length, get_or, take, drop, slice_range, Some, None, refl, ap, ap₂, sym, ◌∙◌, subst, arith}
use Rattle.c25_isa.specs.declared.instruction.Instr.{Instr}
use Rattle.c25_isa.specs.declared.piece.PieceItem.{PieceItem}
use Rattle.c25_isa.specs.CodeAt.{WordsAt}
use Rattle.c25_isa.specs.Image.{Contents}
use Rattle.c25_isa.specs.State.{words_at}
use Rattle.c25_isa.specs.Table.{code_words}
use Rattle.c25_isa.specs.Step.{wrap16}
use Rattle.c25_isa.specs.Pieces.{Piece, items_size, mark_address, piece_code, address_in, IsPlacedAt, Linked, PiecesFit}
use Rattle.c25_isa.specs.Walk.{code_of, code_from}
use Rattle.c25_isa.proofs.PieceLemmas.{wraps_low, piece_fits}
use Rattle.c25_code.specs.Links.{first_piece}
use Rattle.c25_code.proofs.PiecesStand.{first_number, one_fits, piece_code-size}
use Rattle.image_proof.specs.RunWalks.{placed_from}
use Rattle.image_proof.proofs.Decoded.{decoded}

-- the addresses of the marks of items
abbrev pub marks_at : ℕ → List PieceItem → ℕ → ℕ
marks_at at items mark = wrap16 (mark_address at items mark)

-- those of names, where pieces have these places
abbrev pub name_addresses : (ℕ → ℕ) → List Piece → List ℕ → ℕ
name_addresses place pieces name = wrap16 (address_in place pieces name)

-- the first piece of a name stands at the address of the name
pub first_placed : (pieces : List Piece) (image : Contents) (name : List ℕ) (p : Piece) → (linked : Linked pieces image) → first_piece pieces name ≡ Some p → IsPlacedAt image.words (name_addresses linked.place pieces) (address_in linked.place pieces name) p
first_placed pieces image name p linked first =
    let h = first_number linked.place pieces name p first in
    subst (λ at. IsPlacedAt image.words (name_addresses linked.place pieces) at p) (sym h.address) (linked.placed h.number p h.there)

first_fits : (pieces : List Piece) (place : ℕ → ℕ) (name : List ℕ) (p : Piece) → PiecesFit pieces → first_piece pieces name ≡ Some p → PiecesFit (p ∷ [])
first_fits pieces place name p fit first = let h = first_number place pieces name p first in one_fits pieces fit h.number p h.there

-- words that stand at the front of others, or behind some of them, are a part of those
front_is : (words mine : List ℕ) → ((k : ℕ) → k < length mine → get_or words k 0 ≡ get_or mine k 0) → length mine ≤ length words → take (length mine) words ≡ mine
front_is words [] there within = refl
front_is [] (w ∷ mine) there within = absurd (omega (arith, within))
front_is (x ∷ words) (w ∷ mine) there within =
    ap₂ (λ y ys. y ∷ ys) (there 0 (omega arith)) (front_is words mine (λ k below. there (suc k) (omega (arith, below))) (omega (arith, within)))

part_is : (words mine : List ℕ) (at : ℕ) → ((k : ℕ) → k < length mine → get_or words (at + k) 0 ≡ get_or mine k 0) → at + length mine ≤ length words → take (length mine) (drop at words) ≡ mine
part_is words mine zero there within = front_is words mine (λ k below. let same : k ≡ 0 + k = omega arith in ap (λ n. get_or words n 0) same ∙ there k below) (omega (arith, within))
part_is [] [] (suc at) there within = refl
part_is [] (w ∷ mine) (suc at) there within = absurd (omega (arith, within))
part_is (x ∷ words) mine (suc at) there within =
    part_is words mine at (λ k below. let same : suc (at + k) ≡ suc at + k = omega arith in ap (λ n. get_or (x ∷ words) n 0) same ∙ there k below) (omega (arith, within))

range_is : (words mine : List ℕ) (at last : ℕ) → WordsAt (words_at words) at mine → at + length mine ≤ length words → last + 1 ≡ at + length mine → slice_range words at (last + 1) ≡ mine
range_is words mine at last there within e =
    let count : last + 1 - at ≡ length mine = omega (arith, e) in ap (λ n. take n (drop at words)) count ∙ part_is words mine at there within

-- the instructions of the range are those of the piece
pub code_found : (pieces : List Piece) (image : Contents) (name : List ℕ) (p : Piece) (last : ℕ) → (linked : Linked pieces image) → PiecesFit pieces → first_piece pieces name ≡ Some p → last + 1 ≡ address_in linked.place pieces name + items_size p.items
    → code_of image.words (address_in linked.place pieces name) last
    ≡ record { placed = placed_from (address_in linked.place pieces name) (piece_code (name_addresses linked.place pieces) (address_in linked.place pieces name) p); fault = None }
code_found pieces image name p last linked fit first e =
    let address : ℕ = address_in linked.place pieces name in
    let names : List ℕ → ℕ = name_addresses linked.place pieces in
    let mine : List Instr = piece_code names address p in
    let size = piece_code-size names address p in
    let stands = first_placed pieces image name p linked first in
    let within = stands.within in
    ap (code_from address 0) (range_is image.words (code_words mine) address last stands.code (omega (arith, size, within)) (omega (arith, e, size)))
    ∙ decoded mine address (piece_fits names address p (λ n. wraps_low (address_in linked.place pieces n)) (first_fits pieces linked.place name p fit first).0)
