use Rattle.std.proofs.Common.{◌≡◌, ◌+◌, ◌-◌}
use Rattle.emit_control.specs.Marked.{names_of}
use Rattle.emit_control.proofs.named.Named.add.Given as goal

abbrev pub invariant-loop-self : goal.invariant-loop-self
invariant-loop-self l = names_of l.self ≡ names_of l.initial.self

abbrev pub decreases-loop-self : goal.decreases-loop-self
decreases-loop-self l = l.place + 1 - l.self.marked.len
