-- Functions that are active: the first one runs, and behind each stands the one that called it. With none the startup runs, which calls `main`.
use Rattle.std.specs.Prelude.{⊤, ◌≡◌, ◌<◌, ◌⊎◌, ℕ, List, [], ◌∷◌, length, slice_get, Option, Some, None}
use Rattle.c_tree.specs.Rounds.{CallsAmong}
use Rattle.tree_code.specs.WellFormedCode.{code_calls}
use Rattle.mem_plan.specs.declared.data_plan.FramePlan.{FramePlan}
use Rattle.image_proof.specs.Emissions.{Emission}

abbrev pub CallsIn : Emission → ℕ → ℕ → Type 0
CallsIn e f g = CallsAmong (code_calls e.code.functions) f g

-- the function that runs calls this one; the startup may call any function
abbrev pub IsCalledBy : Emission → List ℕ → ℕ → Type 0
IsCalledBy e [] g = g < length e.code.functions
IsCalledBy e (f ∷ fs) g = CallsIn e f g

abbrev pub AreActive : Emission → List ℕ → Type 0
AreActive e [] = ⊤
AreActive e (g ∷ fs) = IsCalledBy e fs g × AreActive e fs

-- a function is one of these
abbrev pub IsAmong : List ℕ → ℕ → Type 0
IsAmong [] f = ⊥
IsAmong (g ∷ gs) f = (f ≡ g) ⊎ IsAmong gs f

-- all but the first
abbrev pub behind_first : List ℕ → List ℕ
behind_first [] = []
behind_first (g ∷ gs) = gs

-- the return word of a function, if it has one
abbrev pub back_in : Option FramePlan → Option ℕ
back_in None = None
back_in (Some frame) = frame.back

abbrev pub back_of : Emission → ℕ → Option ℕ
back_of e g = back_in (slice_get e.plan.frames g)
