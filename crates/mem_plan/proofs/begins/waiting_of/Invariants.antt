use Rattle.std.proofs.Common.{◌≡◌, ◌<◌, ◌≤◌, ◌*◌, ◌^◌, ℕ, length, slice_index}
use Rattle.mem_plan.specs.Search.{all_calls_to, calls_at}
use Rattle.mem_plan.proofs.begins.waiting_of.Given as goal

abbrev pub invariant-loop-caller : goal.invariant-loop-caller
invariant-loop-caller l = record {
  size : length l.waiting.items ≡ length l.needs;
  calls : (f : ℕ) → f < length l.needs → slice_index l.waiting.items f ≡ all_calls_to (calls_at l.needs) f l.caller-index;
  few : (f : ℕ) → slice_index l.waiting.items f ≤ l.caller-index * 2 ^ 64;
}
