use Rattle.std.proofs.Common.{◌≡◌, map, take}
use Rattle.c25_helper.specs.Lines.{line_item}
use Rattle.c25_helper.proofs.line.items_of.Given as goal

abbrev pub invariant-loop-line : goal.invariant-loop-line
invariant-loop-line l = l.items.items ≡ map line_item (take l.line-index l.lines)
