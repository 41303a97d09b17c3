-- The site of the function that runs, by the plan and by the functions that are active.
use Rattle.std.specs.Prelude.{ℕ, suc, ◌+◌, ◌&&◌, ◌||◌, nat_le, nat_lt, Bool, false, List, [], ◌∷◌, slice_get, Option, Some, None}
use Rattle.c_tree.specs.TypedTree.{ObjectTree}
use Rattle.tree_code.specs.WordTree.{FunctionCode}
use Rattle.acc_select.specs.IsSelected.{called_parameters}
use Rattle.mem_plan.specs.declared.data_plan.DataPlan.{DataPlan}
use Rattle.mem_plan.specs.declared.data_plan.FramePlan.{FramePlan}
use Rattle.ir_semantics.specs.Outside as words
use Rattle.ir_semantics.specs.TreeRun.{Addresses}
use Rattle.emit_blocks.specs.Places.{Places, or_zero, address_in}
use Rattle.frame_emit.specs.Frames.{places_in, all_parameters}
use Rattle.image_proof.specs.PlanPlaces.{local_addresses, places_of}
use Rattle.emit_proof.specs.Sites.{Site}
use Rattle.image_proof.specs.Emissions.{Emission}

-- where code has objects: a number without an object is at 0
abbrev pub code_places : DataPlan → words.Places
code_places plan = record {
  static = λ n. address_in plan.statics n;
  local = λ f n. address_in (local_addresses (slice_get plan.frames f)) n;
}

abbrev pub parameters_of : Emission → List (List ℕ)
parameters_of e = all_parameters e.code.functions e.plan.frames e.arrangements

-- the startup has no frame
abbrev pub outer_places : Emission → Places
outer_places e = record {
  scalars = [];
  statics = e.plan.statics;
  locals = [];
  parameters = parameters_of e;
  step = e.step;
}

abbrev pub frame_places : Emission → Option FunctionCode → Option FramePlan → Option (List (List ℕ)) → Places
frame_places e None frame lists = outer_places e
frame_places e (Some f) None lists = outer_places e
frame_places e (Some f) (Some frame) None = outer_places e
frame_places e (Some f) (Some frame) (Some lists) = places_in e.plan (parameters_of e) e.step f frame lists

abbrev pub site_places : Emission → List ℕ → Places
site_places e [] = outer_places e
site_places e (g ∷ fs) = frame_places e (slice_get e.code.functions g) (slice_get e.plan.frames g) (slice_get e.arrangements g)

-- how many parameters each function has that the first one calls
abbrev pub counts_in : Emission → Option FunctionCode → ℕ → ℕ
counts_in e None f = 0
counts_in e (Some g) f = or_zero (called_parameters e.code g f)

abbrev pub site_counts : Emission → List ℕ → ℕ → ℕ
site_counts e [] f = 0
site_counts e (g ∷ fs) f = counts_in e (slice_get e.code.functions g) f

abbrev pub site_addresses : Emission → List ℕ → Addresses
site_addresses e [] v = None
site_addresses e (g ∷ fs) v = words.address_of (code_places e.plan) g v

-- whether one of so many cells from an address on is at this one
abbrev pub has_cell : ℕ → ℕ → ℕ → Bool
has_cell first count a = nat_le first a && nat_lt a (first + count)

-- whether one of the cells of these objects is, the first of which has this number
abbrev pub in_objects : (ℕ → ℕ) → ℕ → List ObjectTree → ℕ → Bool
in_objects at n [] a = false
in_objects at n (o ∷ os) a = has_cell (at n) o.length a || in_objects at (suc n) os a

abbrev pub locals_in : Option FunctionCode → List ObjectTree
locals_in None = []
locals_in (Some f) = f.locals

-- the words of static objects, and of local ones of active functions
abbrev pub is_live : Emission → List ℕ → ℕ → Bool
is_live e [] a = in_objects (places_of e.plan).static 0 e.code.statics a
is_live e (g ∷ fs) a = in_objects ((places_of e.plan).local g) 0 (locals_in (slice_get e.code.functions g)) a || is_live e fs a

abbrev pub site_of : Emission → List ℕ → (ℕ → Option ℕ) → List ℕ → Site
site_of e active kept stack = record {
  places = site_places e active;
  counts = site_counts e active;
  kept = kept;
  lives = is_live e active;
  at = site_addresses e active;
  stack = stack;
}
