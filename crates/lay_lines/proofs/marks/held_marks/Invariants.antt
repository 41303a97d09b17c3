use Rattle.std.proofs.Common.{◌≡◌, ◌+◌, ◌≤◌, drop}
use Rattle.lay_lines.specs.MarkText.{held}
use Rattle.lay_lines.proofs.marks.held_marks.Given as goal

abbrev pub invariant-loop-byte : goal.invariant-loop-byte
invariant-loop-byte l = record {
  so_far : held l.all l.here (drop l.byte-index l.text) ≡ held 0 0 l.text;
  few : l.all + l.here ≤ l.byte-index;
}
