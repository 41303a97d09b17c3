-- Pieces whose instructions stand each at its address stand there with their marks, and so do those of a linked image.
use Rattle.std.proofs.Common.{◌≡◌, ℕ, zero, suc, ◌+◌, ◌<◌, ◌≤◌, Bool, true, false, List, [], ◌∷◌, length, Some, refl, ap, sym, ◌∙◌, subst, cond, arith}
use Rattle.std.specs.Prelude.{slice_get}
use Rattle.std.specs.Str.{bytes_eq}
use Rattle.std.proofs.lemmas.Option.{same_Some}
use Rattle.c25_isa.specs.State.{Memory, Start, BeginsWith, words_at}
use Rattle.c25_isa.specs.Table.{code_words}
use Rattle.c25_isa.specs.Image.{Contents}
use Rattle.c25_isa.proofs.CodeAt.{code_at}
use Rattle.c25_isa.specs.Step.{wrap16}
use Rattle.c25_isa.specs.Pieces.{Piece, items_size, mark_address, piece_code, address_in, ItemsAt, Linked, PiecesFit}
use Rattle.c25_isa.proofs.PieceLemmas.{wraps_low, piece_fits}
use Rattle.c25_code.specs.Links.{first_piece, address_of, marks_of, EachIsInMemory, AllStand}
use Rattle.c25_code.proofs.Pieces.{code_words-size}
use Rattle.c25_code.proofs.Links.{items_stand, items_code-size}

-- the first piece of a name has a number, by which its address and those of its marks are given
pub record HasNumber (place : ℕ → ℕ) (all : List Piece) (name : List ℕ) (p : Piece) : Type 0 where
  pub number : ℕ
  pub there : slice_get all number ≡ Some p
  pub address : address_in place all name ≡ place number
  pub marks : marks_of place all name ≡ (λ mark. wrap16 (mark_address (place number) p.items mark))

pub first_number : (place : ℕ → ℕ) (all : List Piece) (name : List ℕ) (p : Piece) → first_piece all name ≡ Some p → HasNumber place all name p
first_number place [] name p e = absurd cc
first_number place (q ∷ qs) name p e = by (bytes_eq q.name name) e (first_number (λ k. place (suc k)) qs name p) refl
  where
    by : (b : Bool) → cond b (Some q) (first_piece qs name) ≡ Some p → (first_piece qs name ≡ Some p → HasNumber (λ k. place (suc k)) qs name p) → bytes_eq q.name name ≡ b → HasNumber place (q ∷ qs) name p
    by true f more is = record {
      number = 0;
      there = f;
      address = ap (λ b. cond b (place 0) (address_in (λ k. place (suc k)) qs name)) is;
      marks = ap (λ b. λ mark. cond b (wrap16 (mark_address (place 0) q.items mark)) (marks_of (λ k. place (suc k)) qs name mark)) is ∙ ap (λ (x : Piece). λ mark. wrap16 (mark_address (place 0) x.items mark)) (same_Some q p f);
    }
    by false f more is =
        let rest = more f in
        record {
          number = suc rest.number;
          there = rest.there;
          address = ap (λ b. cond b (place 0) (address_in (λ k. place (suc k)) qs name)) is ∙ rest.address;
          marks = ap (λ b. λ mark. cond b (wrap16 (mark_address (place 0) q.items mark)) (marks_of (λ k. place (suc k)) qs name mark)) is ∙ rest.marks;
        }

pub all_stand : (program : Memory) (place : ℕ → ℕ) (all : List Piece) → EachIsInMemory program (address_of place all) place all → AllStand program place all
all_stand program place all each name p e fit =
    let names : List ℕ → ℕ = address_of place all in
    let h = first_number place all name p e in
    let ends = each.ends h.number p h.there in
    let low : place h.number < 65536 = let some = fit.2 in omega (arith, ends, some) in
    let is : place h.number ≡ names name = let there = h.address in omega (arith, low, there) in
    let stands = items_stand program names p.items (place h.number) fit.0 fit.1 ends (each.code h.number p h.there) in (
      subst (λ marks. ItemsAt program marks names (names name) p.items) (sym h.marks) (subst (λ at. ItemsAt program (λ mark. wrap16 (mark_address (place h.number) p.items mark)) names at p.items) is stands),
      subst (λ at. at + items_size p.items ≤ 65536) is ends,
    )

-- the operands of a piece of the list are in their ranges
pub one_fits : (pieces : List Piece) → PiecesFit pieces → (k : ℕ) (p : Piece) → slice_get pieces k ≡ Some p → PiecesFit (p ∷ [])
one_fits [] fit k p is = absurd cc
one_fits (q ∷ qs) fit zero p is = subst (λ (x : Piece). PiecesFit (x ∷ [])) (same_Some q p is) (fit.0, tt)
one_fits (q ∷ qs) fit (suc k) p is = one_fits qs fit.1 k p is

-- the size of a piece's code is that of its items
pub piece_code-size : (names : List ℕ → ℕ) (at : ℕ) (p : Piece) → length (code_words (piece_code names at p)) ≡ items_size p.items
piece_code-size names at p =
    code_words-size (piece_code names at p) ∙ items_code-size (λ mark. wrap16 (mark_address at p.items mark)) names p.items

-- the words of an image from the address of a piece on are the piece's instructions
pub words_stand : (all : List Piece) (image : Contents) (linked : Linked all image) → PiecesFit all → (program : Memory) → ((a : ℕ) → a < length image.words → program a ≡ words_at image.words a) → length image.words ≤ 65536 → EachIsInMemory program (address_of linked.place all) linked.place all
words_stand all image linked ranges program same small = record {
  code = λ k p is.
      let placed = linked.placed k p is in
      let ends = placed.within in
      let size = piece_code-size (address_of linked.place all) (linked.place k) p in
      code_at program (piece_code (address_of linked.place all) (linked.place k) p) (linked.place k) (piece_fits (address_of linked.place all) (linked.place k) p (λ name. wraps_low (address_in linked.place all name)) (one_fits all ranges k p is).0)
      (λ a below. same (linked.place k + a) (omega (arith, ends, size, below)) ∙ placed.code a below) (omega (arith, ends, size, small));
  ends = λ k p is. let ends = (linked.placed k p is).within in omega (arith, ends, small);
}

-- so they stand at a reset
pub image_stands : (b : Start) (all : List Piece) (image : Contents) → (linked : Linked all image) → BeginsWith image.words b → PiecesFit all → length image.words ≤ 65536 → AllStand b.program linked.place all
image_stands b all image linked begins ranges small = all_stand b.program linked.place all (words_stand all image linked ranges b.program begins small)
