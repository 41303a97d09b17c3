-- An array is filled by its own list, whatever number it has among the objects in memory.
use Rattle.std.proofs.Common.{◌≡◌, inl, inr, ◌+◌, ◌*◌, ◌++◌, ◌∷◌, [], ℕ, true, false, List, length, slice_get, Some, ap, sym, ◌∙◌, arith}
use Rattle.std.specs.Prelude.{unwrap_or}
use Rattle.c_tree.specs.Uses.{statement_uses}
use Rattle.c_tree.specs.declared.program.VarRef.{VarRef}
use Rattle.c_tree.specs.declared.program.VarRef.TheVariants as refs
use Rattle.c_tree.specs.TypedTree.{ObjectTree, Stmt}
use Rattle.c_rules.specs.Programs.{is_single, objects_in, references}
use Rattle.c_rules.specs.Renumbering.{numbered, number_in}
use Rattle.c_rules.specs.Statements.{LocalTree}
use Rattle.c_rules.proofs.Formed.FrameTypes.{IsPlaced, placed_in}
use Rattle.c_rules.proofs.PlaceLemmas.{place_kept, place_last}
use Rattle.ir_semantics.specs.Weights.{fill_weight}

-- what the objects of a function stand for, and those of them that lie in memory
pub record Frame : Type 0 where
  pub numbers : List VarRef
  pub objects : List ObjectTree

-- what it weighs to fill the object of this number
abbrev pub filling : Frame → ℕ → ℕ
filling frame n = fill_weight (slice_get frame.objects (number_in (numbered frame.numbers n)))

-- each array among these objects is filled by its own list
abbrev pub AreFilled : Frame → List LocalTree → Type 0
AreFilled frame ls = (n : ℕ) (l : LocalTree) → slice_get ls n ≡ Some l → is_single l.object_type ≡ false → filling frame n ≡ 9 + 9 * length l.values

pub first_filled : (frame : Frame) (ls others : List LocalTree) → AreFilled frame (ls ++ others) → AreFilled frame ls
first_filled frame ls others right n l there = right n l (place_kept ls others n l there)

pub last_filled : (frame : Frame) (ls : List LocalTree) (l : LocalTree) → AreFilled frame (ls ++ l ∷ []) → is_single l.object_type ≡ false
    → filling frame (length ls) ≡ 9 + 9 * length l.values
last_filled frame ls l right = right (length ls) l (place_last ls l)

-- the frame of a function
abbrev pub frame_of : List LocalTree → Stmt → Frame
frame_of ls body = record {
  numbers = references (statement_uses body) ls;
  objects = objects_in (references (statement_uses body) ls) ls;
}

module _ (ls : List LocalTree) (body : Stmt) (n : ℕ) (l : LocalTree) where
  filled_where_placed : IsPlaced (statement_uses body) 0 0 0 n (frame_of ls body).numbers ls l → is_single l.object_type ≡ false
      → filling (frame_of ls body) n ≡ 9 + 9 * length l.values
  filled_where_placed (inl scalar) array = let clash : true ≡ false = sym scalar.single ∙ array in absurd (cc clash)
  filled_where_placed (inr memory) array =
      ap (λ r. fill_weight (slice_get (frame_of ls body).objects (number_in (unwrap_or r (refs.Local n))))) memory.reference
      ∙ ap (λ m. fill_weight (slice_get (frame_of ls body).objects m)) (omega arith)
      ∙ ap fill_weight memory.object

pub frame_filled : (ls : List LocalTree) (body : Stmt) → AreFilled (frame_of ls body) ls
frame_filled ls body n l there = filled_where_placed ls body n l (placed_in (statement_uses body) ls n l there)
