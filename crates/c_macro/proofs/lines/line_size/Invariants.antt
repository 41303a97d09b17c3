use Rattle.std.proofs.Common.{◌≡◌, ◌≤◌, ◌-◌, length}
use Rattle.c_macro.specs.Lines.{first_line, longer}
use Rattle.c_macro.proofs.lines.line_size.Given as goal

abbrev pub invariant-loop-is_end : goal.invariant-loop-is_end
invariant-loop-is_end l = record {
  within : length l.rest ≤ length l.text;
  line : first_line l.text ≡ longer (length l.text - length l.rest) (first_line l.rest);
}

abbrev pub decreases-loop-is_end : goal.decreases-loop-is_end
decreases-loop-is_end l = length l.rest
