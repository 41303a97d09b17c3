use Rattle.std.proofs.Common.{◌≡◌, ◌++◌, drop}
use Rattle.lay_text.specs.SequenceText.{spaced}
use Rattle.cc_answers.specs.LayoutText.{register_line}
use Rattle.cc_answers.proofs.layout_text.push_register.Given as goal

abbrev pub invariant-loop-scalar : goal.invariant-loop-scalar
invariant-loop-scalar l = l.text.items ++ spaced (drop l.scalar-index l.scalars) ≡ l.fn.text.items ++ register_line l.number l.scalars
