use Rattle.std.proofs.Common.{◌≡◌, ◌<◌, ◌≤◌, ◌+◌, ℕ, length, drop, slice_index}
use Rattle.c_tree.specs.Declarations.{occurrences}
use Rattle.mem_plan.proofs.begins.count.Given as goal

abbrev pub invariant-loop-called : goal.invariant-loop-called
invariant-loop-called l = record {
  size : length l.waiting ≡ length l.initial.waiting;
  calls : (f : ℕ) → f < length l.initial.waiting → slice_index l.waiting f + occurrences f (drop l.called-index l.calls) ≡ slice_index l.initial.waiting f + occurrences f l.calls;
  few : (f : ℕ) → slice_index l.waiting f ≤ slice_index l.initial.waiting f + l.called-index;
}
