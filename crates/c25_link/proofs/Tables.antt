-- A table that grows item by item, or piece by piece, and what is left of them.
use Rattle.std.proofs.Common.{◌≡◌, ℕ, ◌+◌, ◌<◌, Bool, true, false, cond, if◌then◌else◌, is_some, List, length, get_or, drop, map, Option, Some, None, unwrap_or, refl, ap, sym, ◌∙◌}
use Rattle.std.specs.Str.{bytes_eq}
use Rattle.std.specs.Map.{update}
use Rattle.std.proofs.lemmas.Slice.Eq.{bytes_eq-Decides}
use Rattle.c25_isa.specs.declared.piece.Piece as code
use Rattle.c25_isa.specs.declared.piece.PieceItem.{PieceItem}
use Rattle.c25_isa.specs.Pieces.{piece_of, is_mark, item_size, items_size, mark_address, piece_address}
use Rattle.c25_isa.specs.Step.{wrap16}
use Rattle.c25_link.specs.Addresses.{or_at, with_mark, with_name}
use Rattle.c25_link.proofs.SizeLemmas.{items_more, pieces_more}

-- what is wanted is at the first place that it has, before a rest or in it
or_rest : (found : Option ℕ) (wanted : Bool) (at rest : ℕ) → unwrap_or (or_at found wanted at) (wrap16 rest) ≡ unwrap_or found (wrap16 (if wanted then at else rest))
or_rest (Some address) wanted at rest = refl
or_rest None true at rest = refl
or_rest None false at rest = refl

pub marks_step : (items : List PieceItem) (i : ℕ) (item : PieceItem) (at : ℕ) (old new : ℕ → Option ℕ) → i < length items → item ≡ get_or items i item → new ≡ with_mark item at old → (mark : ℕ)
    → unwrap_or (new mark) (wrap16 (mark_address (at + item_size item) (drop (i + 1) items) mark)) ≡ unwrap_or (old mark) (wrap16 (mark_address at (drop i items) mark))
marks_step items i item at old new within is added mark =
    ap (λ (f : ℕ → Option ℕ). unwrap_or (f mark) (wrap16 (mark_address (at + item_size item) (drop (i + 1) items) mark))) added
    ∙ or_rest (old mark) (is_mark mark item) at (mark_address (at + item_size item) (drop (i + 1) items) mark)
    ∙ ap (λ rest. unwrap_or (old mark) (wrap16 (mark_address at rest mark))) (sym (items_more items i item within is))

pub names_step : (pieces : List code.Piece) (i : ℕ) (p : code.Piece) (at : ℕ) (old new : List ℕ → Option ℕ) → i < length pieces → p ≡ get_or pieces i p → new ≡ with_name p.name at old → (name : List ℕ)
    → unwrap_or (new name) (wrap16 (piece_address (at + items_size p.items.items) (map piece_of (drop (i + 1) pieces)) name)) ≡ unwrap_or (old name) (wrap16 (piece_address at (map piece_of (drop i pieces)) name))
names_step pieces i p at old new within is added name =
    ap (λ (f : List ℕ → Option ℕ). unwrap_or (f name) (wrap16 (piece_address (at + items_size p.items.items) (map piece_of (drop (i + 1) pieces)) name))) added
    ∙ or_rest (old name) (bytes_eq p.name name) at (piece_address (at + items_size p.items.items) (map piece_of (drop (i + 1) pieces)) name)
    ∙ ap (λ rest. unwrap_or (old name) (wrap16 (piece_address at rest name))) (sym (pieces_more pieces i p within is))

-- a name that no piece before has
pub new_name : (old : List ℕ → Option ℕ) (name : List ℕ) (at : ℕ) → is_some (old name) ≡ false → (other : List ℕ) → update bytes_eq old name (Some (wrap16 at)) other ≡ with_name name at old other
new_name old name at none other = by (bytes_eq name other) ((bytes_eq-Decides name other).0)
  where
    absent : (found : Option ℕ) → is_some found ≡ false → Some (wrap16 at) ≡ or_at found true at
    absent None e = refl
    absent (Some address) e = absurd cc

    kept : (found : Option ℕ) → found ≡ or_at found false at
    kept None = refl
    kept (Some address) = refl

    by : (b : Bool) → (b ≡ true → name ≡ other) → cond b (Some (wrap16 at)) (old other) ≡ or_at (old other) b at
    by true same = absent (old other) (ap (λ n. is_some (old n)) (sym (same refl)) ∙ none)
    by false same = kept (old other)
