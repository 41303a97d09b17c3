-- Where runs have their objects, by the plan of data memory.
use Rattle.std.specs.Prelude.{ℕ, List, [], slice_get, Option, Some, None}
use Rattle.ir_semantics.specs.Outside.{Places}
use Rattle.mem_plan.specs.declared.data_plan.DataPlan.{DataPlan}
use Rattle.mem_plan.specs.declared.data_plan.FramePlan.{FramePlan}
use Rattle.mem_plan.specs.declared.data_plan.TheConstants.{DATA_START}

-- the address of an object, and for a number without an object any address of data memory
abbrev pub address_or_start : Option ℕ → ℕ
address_or_start None = DATA_START
address_or_start (Some a) = a

abbrev pub local_addresses : Option FramePlan → List ℕ
local_addresses None = []
local_addresses (Some frame) = frame.locals

abbrev pub places_of : DataPlan → Places
places_of plan = record {
  static = λ n. address_or_start (slice_get plan.statics n);
  local = λ f n. address_or_start (slice_get (local_addresses (slice_get plan.frames f)) n);
}
