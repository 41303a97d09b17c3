-- Where the words of frames are, by a plan of data memory and the lists of each frame (docs/TRANSLATION.md, "Pieces").
use Rattle.std.specs.Prelude.{ℕ, zero, suc, ◌+◌, ◌==◌, if◌then◌else◌, List, [], ◌∷◌, map, Option, Some, None}
use Rattle.c_tree.specs.declared.program.VarRef.{VarRef}
use Rattle.c_tree.specs.declared.program.VarRef.TheVariants.{Scalar, Local, Static}
use Rattle.tree_code.specs.WordTree.{FunctionCode}
use Rattle.c25_isa.specs.Step.{wrap16}
use Rattle.mem_plan.specs.declared.data_plan.DataPlan.{DataPlan}
use Rattle.mem_plan.specs.declared.data_plan.FramePlan.{FramePlan}
use Rattle.emit_blocks.specs.declared.site.ScalarPlace.{ScalarPlace}
use Rattle.emit_blocks.specs.Places.{Places, address_in}

-- the first address register that goes over a list
abbrev pub FIRST_REGISTER : ℕ
FIRST_REGISTER = 2

abbrev pub place : ℕ → ℕ → ScalarPlace
place r a = record { register = r; address = a }

abbrev pub one_further : Option ℕ → Option ℕ
one_further None = None
one_further (Some i) = Some (suc i)

-- where a scalar stands in a list
abbrev pub position_in : List ℕ → ℕ → Option ℕ
position_in [] n = None
position_in (m ∷ ms) n = if m == n then Some 0 else one_further (position_in ms n)

-- the place of a scalar by its list, the address where that begins, and its register
abbrev pub place_or : Option ℕ → ℕ → ℕ → ScalarPlace → ScalarPlace
place_or None base r other = other
place_or (Some i) base r other = place r (wrap16 (base + i))

-- by the lists from a register on; one that stands in none has address 0
abbrev pub scalar_place : List (List ℕ) → List ℕ → ℕ → ℕ → ScalarPlace
scalar_place [] bases r n = place FIRST_REGISTER 0
scalar_place (l ∷ ls) [] r n = place FIRST_REGISTER 0
scalar_place (l ∷ ls) (base ∷ bases) r n = place_or (position_in l n) base r (scalar_place ls bases (suc r) n)

-- those of so many scalars from one on
abbrev pub scalar_places : List (List ℕ) → List ℕ → ℕ → ℕ → List ScalarPlace
scalar_places lists bases n zero = []
scalar_places lists bases n (suc count) = scalar_place lists bases FIRST_REGISTER n ∷ scalar_places lists bases (suc n) count

-- where a parameter lies
abbrev pub parameter_address : List (List ℕ) → FramePlan → VarRef → ℕ
parameter_address lists frame (Scalar n) = (scalar_place lists frame.bases FIRST_REGISTER n).address
parameter_address lists frame (Local n) = address_in frame.locals n
parameter_address lists frame (Static n) = 0

abbrev pub parameter_addresses : List (List ℕ) → FramePlan → FunctionCode → List ℕ
parameter_addresses lists frame f = map (parameter_address lists frame) f.params

-- those of each function
abbrev pub all_parameters : List FunctionCode → List FramePlan → List (List (List ℕ)) → List (List ℕ)
all_parameters [] frames arrangements = []
all_parameters (f ∷ fs) [] arrangements = []
all_parameters (f ∷ fs) (frame ∷ frames) [] = []
all_parameters (f ∷ fs) (frame ∷ frames) (lists ∷ rest) = parameter_addresses lists frame f ∷ all_parameters fs frames rest

-- what the code of a function names, by the parameters of all functions
abbrev pub places_in : DataPlan → List (List ℕ) → ℕ → FunctionCode → FramePlan → List (List ℕ) → Places
places_in plan parameters step f frame lists = record {
  scalars = scalar_places lists frame.bases 0 f.scalars;
  statics = plan.statics;
  locals = frame.locals;
  parameters = parameters;
  step = step;
}
