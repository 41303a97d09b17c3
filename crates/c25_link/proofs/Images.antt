-- The words and the ranges of pieces make an image.
use Rattle.std.proofs.Common.{◌≡◌, ℕ, suc, ◌+◌, ◌-◌, ◌≤◌, Bool, true, false, if◌then◌else◌, List, [], ◌∷◌, ◌++◌, length, map, refl, ap, sym, subst, ◌∙◌, arith, length-append}
use Rattle.std.specs.Prelude.{All}
use Rattle.std.proofs.lemmas.Grind.{flat_map-append}
use Rattle.std.proofs.lemmas.List.{get_or-map, length-map}
use Rattle.std.proofs.lemmas.List.Sums.{sum_by-cons}
use Rattle.c25_isa.specs.declared.image.FunctionRange.{FunctionRange}
use Rattle.c25_isa.specs.declared.instruction.Instr.{Instr}
use Rattle.c25_isa.specs.declared.piece.Piece as code
use Rattle.c25_isa.specs.Image.{AreRanges, IsImage}
use Rattle.c25_isa.specs.Pieces.{Piece, piece_of, items_size, mark_address, items_code, pieces_code, range_of, listed_ranges, PiecesFit, ListedHaveWords}
use Rattle.c25_isa.specs.Step.{wrap16}
use Rattle.c25_isa.specs.Table.{instr_words, code_words}
use Rattle.c25_isa.proofs.InOrder.{items_length}
use Rattle.c25_link.specs.Linking.{pieces_words, IsLinkable}

-- the words of pieces are as many as the pieces take
pub pieces_length : (names : List ℕ → ℕ) (at : ℕ) (pieces : List Piece) → length (code_words (pieces_code names at pieces)) ≡ pieces_words pieces
pieces_length names at [] = refl
pieces_length names at (p ∷ ps) =
    let mine : List Instr = items_code (λ mark. wrap16 (mark_address at p.items mark)) names p.items in
    let rest : List Instr = pieces_code names (at + items_size p.items) ps in
    ap length (flat_map-append instr_words mine rest)
    ∙ length-append (code_words mine) (code_words rest)
    ∙ ap (λ n. n + length (code_words rest)) (items_length (λ mark. wrap16 (mark_address at p.items mark)) names p.items)
    ∙ ap (λ n. items_size p.items + n) (pieces_length names (at + items_size p.items) ps)
    ∙ sym (sum_by-cons (λ (q : Piece). items_size q.items) p ps)

-- what holds of each of some pieces holds of the first and of the others
head_of : {A : Type 0} (P : A → Type 0) (x : A) (xs : List A) → All P (x ∷ xs) → P x
head_of P x xs all = all 0 x (omega arith)

tail_of : {A : Type 0} (P : A → Type 0) (x : A) (xs : List A) → All P (x ∷ xs) → All P xs
tail_of P x xs all = λ k d within. all (suc k) d (omega (arith, within))

-- a piece that is listed is a range behind those before it, and the others are behind that one
range_then : (p : Piece) (from at count : ℕ) (others : List FunctionRange) → IsLinkable p → from ≤ at → at + items_size p.items ≤ count
    → ((next : ℕ) → next ≤ at + items_size p.items → AreRanges next count others) → (listed : Bool) → p.listed ≡ listed
    → AreRanges from count ((if listed then range_of p.name at (items_size p.items) ∷ [] else []) ++ others)
range_then p from at count others linkable behind ends rest false is = rest from (omega (arith, behind))
range_then p from at count others linkable behind ends rest true is =
    let some : 1 ≤ items_size p.items = linkable.words is in (
      record { name = linkable.name is; behind = behind; rises = omega (arith, some); within = omega (arith, some, ends) },
      rest (at + items_size p.items - 1 + 1) (omega (arith, some)),
    )

ranges : (pieces : List code.Piece) (from at count : ℕ) → All (λ p. IsLinkable (piece_of p)) pieces → from ≤ at → at + pieces_words (map piece_of pieces) ≤ count → AreRanges from count (listed_ranges at (map piece_of pieces))
ranges [] from at count all behind within = tt
ranges (p ∷ ps) from at count all behind within =
    let sum = sum_by-cons (λ (q : Piece). items_size q.items) (piece_of p) (map piece_of ps) in
    range_then (piece_of p) from at count (listed_ranges (at + items_size p.items.items) (map piece_of ps)) (head_of (λ q. IsLinkable (piece_of q)) p ps all) behind (omega (arith, within, sum))
    (λ next before. ranges ps next (at + items_size p.items.items) count (tail_of (λ q. IsLinkable (piece_of q)) p ps all) before (omega (arith, within, sum)))
    p.listed refl

pub image_is : (names : List ℕ → ℕ) (pieces : List code.Piece) → All (λ p. IsLinkable (piece_of p)) pieces → pieces_words (map piece_of pieces) ≤ 65536
    → IsImage (code_words (pieces_code names 0 (map piece_of pieces))) (listed_ranges 0 (map piece_of pieces))
image_is names pieces all short =
    let size = pieces_length names 0 (map piece_of pieces) in
    record {
      short = omega (arith, size, short);
      ranges = ranges pieces 0 0 _ all (omega arith) (omega (arith, size));
    }

pub listed_have_words : (pieces : List code.Piece) → All (λ p. IsLinkable (piece_of p)) pieces → ListedHaveWords (map piece_of pieces)
listed_have_words [] all = tt
listed_have_words (p ∷ ps) all = (
  (head_of (λ q. IsLinkable (piece_of q)) p ps all).words,
  listed_have_words ps (tail_of (λ q. IsLinkable (piece_of q)) p ps all),
)

-- the operands of pieces in memory are in their ranges
pub all_fit : (pieces : List code.Piece) → PiecesFit (map piece_of pieces)
all_fit [] = tt
all_fit (p ∷ ps) = (p.fit, all_fit ps)

-- what each piece needs, of pieces in memory
pub each_linkable : (pieces : List code.Piece) → All IsLinkable (map piece_of pieces) → All (λ p. IsLinkable (piece_of p)) pieces
each_linkable pieces all = λ k d within. subst IsLinkable (get_or-map piece_of pieces k d (piece_of d) within) (all k (piece_of d) (omega (arith, within, length-map pieces piece_of)))
