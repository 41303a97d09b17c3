-- The frame scalars of a function as the code counts them, by marks: which of its objects have their addresses taken.
use Rattle.std.specs.Prelude.{◌≡◌, ◌<◌, ◌≤◌, ◌+◌, ℕ, suc, Bool, false, if◌then◌else◌, List, [], ◌∷◌, ◌++◌, length, slice_index_or}
use Rattle.c_tree.specs.declared.program.VarRef.{VarRef}
use Rattle.c_tree.specs.declared.program.VarRef.TheVariants as refs
use Rattle.c_tree.specs.declared.uses.Use.{Use}
use Rattle.c_limits.specs.declared.frames.Numbering.{Numbering}
use Rattle.c_limits.specs.declared.frames.Frame.{Frame}
use Rattle.c_limits.specs.declared.frames.Frame.TheVariants.{Known, TooMany}
use Rattle.c_rules.specs.Statements.{LocalTree}
use Rattle.c_rules.specs.Programs.{is_pointed, in_frame, frame_scalars}
use Rattle.c_tree.specs.declared.limits.TheConstants.{MOST_FRAME_SCALARS}

-- a mark for each of so many objects
pub record Marks (us : List Use) (count : ℕ) (marks : List Bool) : Type 0 where
  pub all : length marks ≡ count
  pub each : (n : ℕ) → n < count → slice_index_or marks n false ≡ is_pointed us n

-- what objects stand for by marks, with the next numbers of frame scalars and of objects in memory
abbrev pub numbered_by : List Bool → ℕ → ℕ → List LocalTree → List VarRef
numbered_by (pointed ∷ marks) scalars objects (l ∷ ls) =
    if in_frame l pointed
    then refs.Scalar scalars ∷ numbered_by marks (suc scalars) objects ls
    else refs.Local objects ∷ numbered_by marks scalars (suc objects) ls
numbered_by marks scalars objects ls = []

abbrev pub scalars_by : List Bool → List LocalTree → ℕ
scalars_by (pointed ∷ marks) (l ∷ ls) = if in_frame l pointed then suc (scalars_by marks ls) else scalars_by marks ls
scalars_by marks ls = 0

-- what is numbered, with what is to be
abbrev pub still : Numbering → List Bool → List LocalTree → List VarRef
still known marks ls = known.references.items ++ numbered_by marks known.scalars known.objects ls

-- so many scalars are numbered, with those to come
abbrev pub scalars_with : Numbering → List Bool → List LocalTree → ℕ
scalars_with known marks ls = known.scalars + scalars_by marks ls

-- what each object stands for, where a frame has room for the scalars
abbrev pub IsFrame : List VarRef → Frame → Type 0
IsFrame all (Known rs) = (rs.items ≡ all) × (frame_scalars all ≤ MOST_FRAME_SCALARS)
IsFrame all (TooMany n) = (n ≡ frame_scalars all) × (MOST_FRAME_SCALARS < n)
