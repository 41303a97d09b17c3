-- The piece of a function in an image, and what its runs give a walk.
use Rattle.std.specs.Prelude.{◌≡◌, ⊤, ℕ, ◌+◌, ◌-◌, ◌≤◌, false, List, [], ◌∷◌, length, map, Some}
use Rattle.c25_isa.specs.Image.{Contents}
use Rattle.c25_isa.specs.Pieces.{Piece, items_size, address_in, PiecesFit, Linked}
use Rattle.c25_code.specs.Links.{first_piece}
use Rattle.acc_code.specs.AccTree.{ItemList}
use Rattle.acc_code.specs.Emittable.{IsPlaced}
use Rattle.emit_blocks.specs.Runs.{run_code}
use Rattle.image_proof.specs.emit_control.Entries.{Entry, Run}
use Rattle.image_proof.specs.emit_control.Cuts.{function_items}
use Rattle.image_proof.specs.emit_control.Settings.{Setting}
use Rattle.image_proof.specs.RunWalks.{scalars_of, address_of, WalksAs}

-- a run gives a walk the addresses of its scalars, and as many address instructions as they cost
abbrev pub EntryWalks : Setting → (List ℕ → ℕ) → Entry → Type 0
EntryWalks m cost (Run os) = WalksAs (run_code m.places os) (map (address_of m.places) (scalars_of os)) (cost (scalars_of os))
EntryWalks m cost e = ⊤

abbrev pub RunsWalk : Setting → (List ℕ → ℕ) → List Entry → Type 0
RunsWalk m cost [] = ⊤
RunsWalk m cost (e ∷ es) = EntryWalks m cost e × RunsWalk m cost es

-- the first piece of a name is that of a function's body, in an image that is linked from pieces
pub record IsFunctionIn (pieces : List Piece) (image : Contents) (linked : Linked pieces image) (name : List ℕ) (p : Piece) (m : Setting) (body : ItemList) : Type 0 where
  pub fit : PiecesFit pieces
  pub first : first_piece pieces name ≡ Some p
  pub items : p.items ≡ function_items m body
  pub placed : IsPlaced false false false body
  pub short : length image.words ≤ 65536

-- the first and the last word of its range, where pieces have these places
abbrev pub range_first : (ℕ → ℕ) → List Piece → List ℕ → ℕ
range_first place pieces name = address_in place pieces name

abbrev pub range_last : (ℕ → ℕ) → List Piece → List ℕ → Piece → ℕ
range_last place pieces name p = address_in place pieces name + items_size p.items - 1
