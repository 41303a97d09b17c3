use Rattle.std.proofs.Common.{◌≡◌, length}
use Rattle.text_base.proofs.FilledTexts.{Passed}
use Rattle.text_base.proofs.filled_lines.FilledLines.next.Given as goal

abbrev pub invariant-loop-self : goal.invariant-loop-self
invariant-loop-self l = record {
  same : l.self-inside.bytes.now ≡ l.initial.self-inside.bytes.now;
  passed : Passed l.self-inside.bytes.now l.initial.self-inside.number l.self-inside.number l.self-inside.rest.now;
}

abbrev pub decreases-loop-self : goal.decreases-loop-self
decreases-loop-self l = length l.self-inside.rest.now
