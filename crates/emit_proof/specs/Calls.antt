-- The jumps and the calls of a piece (docs/TRANSLATION.md, "Labels", "Pieces").
use Rattle.std.specs.Prelude.{◌≡◌, ◌⊎◌, ℕ, List, [], ◌∷◌}
use Rattle.c25_isa.specs.declared.piece.PieceItem.{PieceItem}
use Rattle.c25_isa.specs.declared.piece.PieceItem.TheVariants as piece
use Rattle.acc_code.specs.declared.operand.HelperName.{HelperName}
use Rattle.acc_code.specs.AccTree.{Item, If, Loop, Switch, Call, Helper, ItemList, end, item}
use Rattle.emit_control.specs.Settings.{Setting, function_name, helper_name}

-- a jump names the mark
abbrev pub IsJumpTo : ℕ → List PieceItem → Type 0
IsJumpTo m [] = ⊥
IsJumpTo m (piece.Do i ∷ items) = IsJumpTo m items
IsJumpTo m (piece.Mark mark ∷ items) = IsJumpTo m items
IsJumpTo m (piece.Jump op to o ∷ items) = (to ≡ m) ⊎ IsJumpTo m items
IsJumpTo m (piece.CallTo name o ∷ items) = IsJumpTo m items

-- what holds of each name that is called
abbrev pub CallsAre : (List ℕ → Type 0) → List PieceItem → Type 0
CallsAre P [] = Unit {0}
CallsAre P (piece.Do i ∷ items) = CallsAre P items
CallsAre P (piece.Mark mark ∷ items) = CallsAre P items
CallsAre P (piece.Jump op to o ∷ items) = CallsAre P items
CallsAre P (piece.CallTo name o ∷ items) = P name × CallsAre P items

-- the name of a function, or of a helper, of whose call something holds
abbrev pub IsNameOf : (Item → Type 0) → Setting → List ℕ → Type 0
IsNameOf C m name = ((f : ℕ) × C (Call f) × (name ≡ function_name m f)) ⊎ ((h : HelperName) × C (Helper h) × (name ≡ helper_name h))

-- the item stands in a list, at whatever depth
abbrev mutual
  pub StandsIn : Item → ItemList → Type 0
  StandsIn y end = ⊥
  StandsIn y (item x xs) = (x ≡ y) ⊎ StandsWithin y x ⊎ StandsIn y xs

  pub StandsWithin : Item → Item → Type 0
  StandsWithin y (If test hit miss) = StandsIn y hit ⊎ StandsIn y miss
  StandsWithin y (Loop before body third last) = StandsIn y before ⊎ StandsIn y body ⊎ StandsIn y third
  StandsWithin y (Switch labels body) = StandsIn y body
  StandsWithin y x = ⊥
