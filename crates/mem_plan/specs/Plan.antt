-- Where everything lies in data memory (docs/LAYOUT.md, "Data memory"). Scratch words come first, then the static objects, then the frames: a frame has
-- its lists of scalars, its local objects and its return word. Each object has a spare word behind it.
use Rattle.std.specs.Prelude.{◌≡◌, ◌≤◌, ◌<◌, ⊤, ℕ, suc, ◌+◌, max, map, List, [], ◌∷◌, length, slice_get, Some, None, if◌then◌else◌}
use Rattle.c_tree.specs.TypedTree.{ObjectTree}
use Rattle.tree_code.specs.WordTree.{FunctionCode, ProgramCode}
use Rattle.tree_code.specs.WellFormedCode.{code_calls}
use Rattle.c_tree.specs.Rounds.{CallsAmong}
use Rattle.lay_model.specs.Arrangements.{Arranges}
use Rattle.mem_plan.specs.declared.data_plan.DataPlan.{DataPlan}
use Rattle.mem_plan.specs.declared.data_plan.FramePlan.{FramePlan}
use Rattle.mem_plan.specs.declared.data_plan.PlanFault.{PlanFault}
use Rattle.mem_plan.specs.declared.data_plan.PlanFault.TheVariants as fault
use Rattle.mem_plan.specs.declared.data_plan.TheConstants.{DATA_START, SCRATCH_WORDS, MOST_DATA_WORDS, MOST_LISTS}
use Rattle.mem_plan.specs.DataNeeds.{objects_words, object_words, has_return_word, own, own_at}
use Rattle.mem_plan.specs.Begins.{IsBegin}

-- an arrangement of the scalars of a function, with a list for each of a few registers
pub record IsArranged (f : FunctionCode) (lists : List (List ℕ)) : Type 0 where
  pub arranges : Arranges f.scalars lists
  pub few : length lists ≤ MOST_LISTS

-- one of each function's, in order
pub record AreArranged (fs : List FunctionCode) (arrangements : List (List (List ℕ))) : Type 0 where
  pub count : length arrangements ≡ length fs
  pub each : (n : ℕ) (f : FunctionCode) (lists : List (List ℕ)) → slice_get fs n ≡ Some f → slice_get arrangements n ≡ Some lists → IsArranged f lists

-- objects from an address on, one behind another
abbrev pub object_addresses : ℕ → List ObjectTree → List ℕ
object_addresses at [] = []
object_addresses at (o ∷ os) = at ∷ object_addresses (at + object_words o) os

-- where the lists from an address on begin
abbrev pub list_bases : ℕ → List (List ℕ) → List ℕ
list_bases at [] = []
list_bases at (l ∷ ls) = at ∷ list_bases (at + length l) ls

-- the frame of a function from an address on
abbrev pub frame_of : FunctionCode → List (List ℕ) → ℕ → FramePlan
frame_of f lists at = record {
  bases = list_bases at lists;
  locals = object_addresses (at + f.scalars) f.locals;
  back = if has_return_word f then Some (at + (f.scalars + objects_words f.locals)) else None;
}

abbrev pub statics_start : ℕ
statics_start = DATA_START + SCRATCH_WORDS

abbrev pub frames_start : ProgramCode → ℕ
frames_start p = statics_start + objects_words p.statics

-- the frames from the nth function on
abbrev pub frames_from : ℕ → (ℕ → ℕ) → ℕ → List FunctionCode → List (List (List ℕ)) → List FramePlan
frames_from start begin n [] arrangements = []
frames_from start begin n (f ∷ fs) [] = []
frames_from start begin n (f ∷ fs) (lists ∷ rest) = frame_of f lists (start + begin n) ∷ frames_from start begin (suc n) fs rest

-- where the frames from the nth function on end, in words behind the static objects. These are the words of each
abbrev pub end_from : (ℕ → ℕ) → ℕ → List ℕ → ℕ
end_from begin n [] = 0
end_from begin n (words ∷ rest) = max (begin n + words) (end_from begin (suc n) rest)

-- how many words are used
abbrev pub data_need : ProgramCode → (ℕ → ℕ) → ℕ
data_need p begin = SCRATCH_WORDS + (objects_words p.statics + end_from begin 0 (map own p.functions))

abbrev pub plan_of : ProgramCode → List (List (List ℕ)) → (ℕ → ℕ) → DataPlan
plan_of p arrangements begin = record {
  statics = object_addresses statics_start p.statics;
  frames = frames_from (frames_start p) begin 0 p.functions arrangements;
  used = data_need p begin;
}

-- where the frames of a program begin
abbrev pub AreBegins : ProgramCode → (ℕ → ℕ) → Type 0
AreBegins p = IsBegin (CallsAmong (code_calls p.functions)) (own_at p.functions)

-- the plan of a program: it has room
pub record IsPlan (p : ProgramCode) (arrangements : List (List (List ℕ))) (plan : DataPlan) : Type 0 where
  pub begin : ℕ → ℕ
  pub begins : AreBegins p begin
  pub is : plan ≡ plan_of p arrangements begin
  pub fits : plan.used ≤ MOST_DATA_WORDS

-- a program needs so many words, which are too many
pub record IsTooLarge (p : ProgramCode) (words : ℕ) : Type 0 where
  pub begin : ℕ → ℕ
  pub begins : AreBegins p begin
  pub is : words ≡ data_need p begin
  pub over : MOST_DATA_WORDS < words

-- what a refusal says
abbrev pub Says : ProgramCode → PlanFault → Type 0
Says p (fault.DataFull words) = IsTooLarge p words
Says p fault.NoMemory = ⊤
