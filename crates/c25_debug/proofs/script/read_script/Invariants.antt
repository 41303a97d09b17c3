use Rattle.std.proofs.Common.{◌≡◌}
use Rattle.std.specs.List.{AllZip}
use Rattle.text_base.specs.FilledLines.{read_to}
use Rattle.c25_debug.specs.Script.{Spells}
use Rattle.c25_debug.proofs.ScriptFaults.{lines_left}
use Rattle.c25_debug.proofs.script.read_script.Given as goal

abbrev pub invariant-loop-line : goal.invariant-loop-line
invariant-loop-line l = record {
  bytes : l.lines.bytes ≡ l.initial.lines.bytes;
  spelled : AllZip Spells (read_to l.lines) l.script.items;
}

abbrev pub decreases-loop-line : goal.decreases-loop-line
decreases-loop-line l = lines_left l.lines
